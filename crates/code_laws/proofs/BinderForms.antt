-- The code of comprehensions and of bindings of the element of a flat value.
use Rattle.std.proofs.Common.{◌≡◌, ℕ, Bool, List, [], ◌∷◌, drop, Option, refl, sym, ap, subst, ◌∙◌}
use Rattle.flow_term.specs.declared.elem.Elem.{Elem}
use Rattle.flow_term.specs.declared.value.Value.{Value, out-Value}
use Rattle.flow_syntax.specs.declared.expr.Expr.{Expr, out-Expr}
use Rattle.flow_syntax.specs.declared.expr.ExprKind.{out-ExprKind}
use Rattle.flow_syntax.specs.declared.expr.ExprKind.TheOpen.{ExprKind-F}
use Rattle.flow_syntax.specs.declared.expr.ExprKind.TheVariants as exprs
use Rattle.flow_syntax.specs.declared.spec.Spec.{Spec}
use Rattle.flow_syntax.specs.declared.types.ExprType.{ExprType}
use Rattle.value_domains.specs.Domains.{Domain}
use Rattle.lattice_any.specs.declared.tables.DeclaredTable.{DeclaredTable}
use Rattle.expr_meaning.specs.Meaning as meant
use Rattle.eval_code.specs.declared.code.ElemCode.{ElemCode}
use Rattle.eval_code.specs.declared.code.TruthCode.{TruthCode}
use Rattle.eval_code.specs.declared.code.ValueCode.{ValueCode}
use Rattle.eval_code.specs.declared.code.ValueCode.TheVariants as value_code
use Rattle.eval_code.specs.Senses.{Given, given_one, given_value}
use Rattle.code_laws.specs.inner.Compiled.{a_value, an_element, a_truth, IsValueCode, IsElemCode, IsTruthCode}
use Rattle.std.proofs.Common.{◌++◌, length, true, Some, None}
use Rattle.std.specs.List.{flat_map}
use Rattle.flow_syntax.specs.Expressions.{all_of_option, preorder}
use Rattle.flow_syntax.proofs.ExprLayers.{layer_of_bind, layer_of_choose}
use Rattle.value_domains.specs.Domains.{flat}
use Rattle.expr_meaning.specs.Ranges.{values, domain_in}
use Rattle.flow_syntax.proofs.Parts.{given_layer}
use Rattle.expr_meaning.specs.Meaning.{Situation, Sense, elem_in, value_in, truth_in, with_bound, bind_value, chosen, on_set}
use Rattle.expr_meaning.specs.Typing.{AreAlike, IsIn, both_may, both_must, IsSets, of_may, of_must, Suits, Variable, and_variable, elements_of, sort_in}
use Rattle.expr_meaning.proofs.TypedParts.{rest_typed}
use Rattle.eval_code.specs.declared.code.Choice.{Choice, roll-Choice, fold-roll-Choice}
use Rattle.eval_code.specs.declared.code.TruthCode.TheVariants as truth_code
use Rattle.eval_code.specs.Needs.{elems_of, with_slot}
use Rattle.eval_code.specs.Senses.{given_choice, given_chosen, given_elem, given_truth, elem_layer, truth_layer, value_layer, choice_layer, entry_layer}
use Rattle.code_laws.specs.Codes.{GivesMeant, elem_meant, truth_meant, value_meant, slots_at}
use Rattle.code_laws.specs.inner.Compiled.{Setting, IsConditionCode, condition_sense}
use Rattle.code_laws.proofs.Binding.{inner_gives, inner_needs, bind_same, bind_met, sets_sorts, chosen_same, all_met}
use Rattle.code_laws.proofs.Given.{value_bind, value_choose, truth_constant}
use Rattle.code_laws.proofs.RangeFacts.{value_range}
use Rattle.code_laws.proofs.ValueForms.{by_given}
use Rattle.code_laws.proofs.Walks.{M, whole, part_taken, is_sound}

module _ {spec : Spec} {tables : List DeclaredTable} (names : List (List ℕ)) (e : Expr) (ts : List ExprType) where
  pub bind_code : (x : List ℕ) (a b : Expr) (first mid rest : List ExprType) (p q : ValueCode) → (out-Expr e).kind ≡ exprs.Bind x a b → first ≡ drop 1 ts
      → IsValueCode spec tables names a first p mid → IsValueCode spec tables (names ++ x ∷ []) b mid q rest → IsValueCode spec tables names e ts (value_code.Bind p (length names) q) rest
  bind_code x a b first mid rest p q is moved ca cb =
      by_given names e ts _ rest _ (value_bind p (length names) q)
      (whole names a_value e (ExprKind-F.Bind x a b) ts rest _ (ap out-ExprKind is ∙ layer_of_bind x a b)
      (λ s vs inside has.
      let form = inside.form in
      let one = part_taken s vs names a_value a (preorder b ++ []) _ (drop 1 ts) mid _ (subst (λ us. IsValueCode spec tables names a us p mid) moved ca) inside.typed inside.agree (flat form.0, form.3) in
      let two = part_taken s (and_variable vs x (elements_of (s.range a))) (names ++ x ∷ []) a_value b [] [] mid rest _ cb (rest_typed _ _ inside.typed) one.1.0 (flat form.1, form.4) in
      let is_sort : elements_of (s.range a) ≡ form.0 = ap elements_of form.3 in
      let body = subst (λ r. GivesMeant s.usable (and_variable vs x r) (names ++ x ∷ []) (value_meant q) (M s b)) is_sort two.0 in (
        record {
          gives = λ at suits bound.
              let fits = value_range (flat form.0) _ (s.range a) (M s a at) form.3 (one.0.gives at suits bound) (is_sound s vs a _ inside.typed at suits) in
              ap meant.a_value (bind_same form.0 (λ v. (given_value q).sense (with_slot (slots_at s.usable at) (length names) v)) (λ v. value_in (M s b (with_bound at x v)))
              (λ v sorted. ap value_in (inner_gives s.usable vs names x form.0 (value_meant q) (M s b) body at suits bound v sorted)) (out-Value ((given_value p).sense (slots_at s.usable at))) fits)
              ∙ ap (λ m. meant.a_value (bind_value (λ v. value_in (M s b (with_bound at x v))) (out-Value (value_in m)))) (one.0.gives at suits bound);
          needs = λ at suits bound.
              let fits = value_range (flat form.0) _ (s.range a) (M s a at) form.3 (one.0.gives at suits bound) (is_sound s vs a _ inside.typed at suits) in (
                one.0.needs at suits bound,
                bind_met form.0 (λ v. (given_value q).demand (with_slot (slots_at s.usable at) (length names) v))
                    (λ v sorted. inner_needs s.usable vs names x form.0 (value_meant q) (M s b) body at suits bound v sorted) (out-Value ((given_value p).sense (slots_at s.usable at))) fits,
              );
        },
        one.1.1 ∙ two.1.1,
      )))

-- a part of which a set takes its elements
from_sets : (d u : Domain) → AreAlike d u → IsSets u
from_sets _ _ (both_may s t) = of_may t
from_sets _ _ (both_must s t) = of_must t

-- what code of a comprehension gives
abbrev pub made_choice : ValueCode → ℕ → TruthCode → ElemCode → Choice
made_choice from n c x = roll-Choice (record { from = from; slot = n; condition = c; elem = x })

chosen_given : (from : ValueCode) (n : ℕ) (c : TruthCode) (x : ElemCode) → given_chosen (made_choice from n c x) ≡ given_choice (given_value from) n (given_truth c) (given_elem x)
chosen_given from n c x = fold-roll-Choice (Given Elem) (Given Bool) (Given Value) (Given Value) (Given (Elem × Value)) elem_layer truth_layer value_layer choice_layer entry_layer (record { from = from; slot = n; condition = c; elem = x })

-- CONDITIONS

module _ {spec : Spec} {tables : List DeclaredTable} (names : List (List ℕ)) where
  pub no_condition : (ts : List ExprType) → IsConditionCode spec tables names None ts (truth_code.Constant true) ts
  no_condition ts = record {
    found = λ s vs typed agree truth. (subst (λ (g : Given Bool). GivesMeant s.usable vs names (given_one meant.a_truth g) (λ at. meant.a_truth true)) (sym (truth_constant true)) (record { gives = λ at suits bound. refl; needs = λ at suits bound. tt }), refl);
  }

  pub some_condition : (c : Expr) (ts rest : List ExprType) (p : TruthCode) → IsTruthCode spec tables names c ts p rest → IsConditionCode spec tables names (Some c) ts p rest
  some_condition c ts rest p cc = record {
    found = λ s vs typed agree truth.
        let one = part_taken s vs names a_truth c [] [] ts rest _ cc typed agree truth in
        (record { gives = λ at suits bound. ap (λ m. meant.a_truth (truth_in m)) (one.0.gives at suits bound); needs = one.0.needs }, one.1.1);
  }

module _ {spec : Spec} {tables : List DeclaredTable} (names : List (List ℕ)) (e : Expr) (ts : List ExprType) (x : List ℕ) (a b : Expr) where
  -- what is chosen, by whether a condition holds
  choice_means : (s : Setting spec tables) (vs : List Variable) (d u : Domain) → AreAlike d u → s.range b ≡ values u → (p : ElemCode) (q : ValueCode) (r : TruthCode) (holds : Sense)
      → GivesMeant s.usable (and_variable vs x (elements_of (s.range b))) (names ++ x ∷ []) (elem_meant p) (M s a) → GivesMeant s.usable vs names (value_meant q) (M s b)
      → GivesMeant s.usable (and_variable vs x (elements_of (s.range b))) (names ++ x ∷ []) (truth_meant r) holds
      → ((at : Situation) → Suits s.usable vs at → IsIn (s.range b) (M s b at))
      → GivesMeant s.usable vs names (given_one meant.a_value (given_choice (given_value q) (length names) (given_truth r) (given_elem p)))
      (λ at. meant.a_value (on_set (chosen (λ v. elem_in (M s a (with_bound at x v))) (λ v. truth_in (holds (with_bound at x v)))) (out-Value (value_in (M s b at)))))
  choice_means s vs d u alike is p q r holds ga gb gc sound =
      let is_sort : elements_of (s.range b) ≡ sort_in u = ap elements_of is in
      let elem = subst (λ k. GivesMeant s.usable (and_variable vs x k) (names ++ x ∷ []) (elem_meant p) (M s a)) is_sort ga in
      let condition = subst (λ k. GivesMeant s.usable (and_variable vs x k) (names ++ x ∷ []) (truth_meant r) holds) is_sort gc in
      record {
        gives = λ at suits bound.
            let sorts = sets_sorts u (from_sets d u alike) _ (value_range u _ (s.range b) (M s b at) is (gb.gives at suits bound) (sound at suits)) in
            ap meant.a_value (chosen_same (sort_in u) (λ v. (given_elem p).sense (with_slot (slots_at s.usable at) (length names) v)) (λ v. elem_in (M s a (with_bound at x v)))
            (λ v. (given_truth r).sense (with_slot (slots_at s.usable at) (length names) v)) (λ v. truth_in (holds (with_bound at x v)))
            (λ v sorted. ap elem_in (inner_gives s.usable vs names x (sort_in u) (elem_meant p) (M s a) elem at suits bound v sorted))
            (λ v sorted. ap truth_in (inner_gives s.usable vs names x (sort_in u) (truth_meant r) holds condition at suits bound v sorted))
            ((given_value q).sense (slots_at s.usable at)) sorts)
            ∙ ap (λ m. meant.a_value (on_set (chosen (λ v. elem_in (M s a (with_bound at x v))) (λ v. truth_in (holds (with_bound at x v)))) (out-Value (value_in m)))) (gb.gives at suits bound);
        needs = λ at suits bound.
            let sorts = sets_sorts u (from_sets d u alike) _ (value_range u _ (s.range b) (M s b at) is (gb.gives at suits bound) (sound at suits)) in (
              gb.needs at suits bound,
              all_met (sort_in u) _ (λ v sorted. (
                inner_needs s.usable vs names x (sort_in u) (truth_meant r) holds condition at suits bound v sorted,
                inner_needs s.usable vs names x (sort_in u) (elem_meant p) (M s a) elem at suits bound v sorted,
              )) (elems_of ((given_value q).sense (slots_at s.usable at))) sorts,
            );
      }

  choice_form : (s : Setting spec tables) (own : Domain) (c : Option Expr) → (λ at. meant.a_value (on_set (chosen (λ v. elem_in (M s a (with_bound at x v))) (λ v. truth_in (condition_sense (M s) c (with_bound at x v)))) (out-Value (value_in (M s b at)))))
      ≡ meant.form_meaning spec own (given_layer (M s) (ExprKind-F.Choose a x b c))
  choice_form s own None = refl
  choice_form s own (Some c) = refl

  pub choice_code : (c : Option Expr) (first second third rest : List ExprType) (p : ElemCode) (q : ValueCode) (r : TruthCode) → (out-Expr e).kind ≡ exprs.Choose a x b c → first ≡ drop 1 ts
      → IsElemCode spec tables (names ++ x ∷ []) a first p second → IsValueCode spec tables names b second q third → IsConditionCode spec tables (names ++ x ∷ []) c third r rest
      → IsValueCode spec tables names e ts (value_code.Choose (made_choice q (length names) r p)) rest
  choice_code c first second third rest p q r is moved ca cb cc =
      by_given names e ts _ rest _ (value_choose (made_choice q (length names) r p) ∙ chosen_given q (length names) r p)
      (whole names a_value e (ExprKind-F.Choose a x b c) ts rest _ (ap out-ExprKind is ∙ layer_of_choose a x b c)
      (λ s vs inside has.
      let form = inside.form in
      let inner = and_variable vs x (elements_of (s.range b)) in
      let one = part_taken s inner (names ++ x ∷ []) an_element a (preorder b ++ flat_map preorder (all_of_option c)) _ (drop 1 ts) second _ (subst (λ us. IsElemCode spec tables (names ++ x ∷ []) a us p second) moved ca) inside.typed inside.agree (sort_in form.0, form.5) in
      let two = part_taken s vs names a_value b (flat_map preorder (all_of_option c)) _ second third _ cb (rest_typed _ _ inside.typed) one.1.0 (form.1, form.4) in
      let three = cc.found s inner (rest_typed _ _ (rest_typed _ _ inside.typed)) two.1.0 form.6 in (
        subst (GivesMeant s.usable vs names _) (choice_form s (domain_in (s.range e)) c)
            (choice_means s vs form.0 form.1 form.2 form.4 p q r (condition_sense (M s) c) one.0 two.0 three.0 (λ at suits. is_sound s vs b _ (rest_typed _ _ inside.typed) at suits)),
        one.1.1 ∙ two.1.1 ∙ three.1,
      )))
