-- The code of each form of value that is no set and no map.
use Rattle.std.proofs.Common.{◌≡◌, ℕ, cond, List, [], drop, slice_get, Option, refl, sym, ap, subst, ◌∙◌}
use Rattle.flow_term.specs.declared.value.Value.{Value}
use Rattle.flow_term.specs.declared.value.Value.TheVariants as value
use Rattle.flow_syntax.specs.declared.expr.Expr.{Expr, out-Expr}
use Rattle.flow_syntax.specs.declared.expr.ExprKind.{out-ExprKind}
use Rattle.flow_syntax.specs.declared.expr.ExprKind.TheOpen.{ExprKind-F}
use Rattle.flow_syntax.specs.declared.expr.ExprKind.TheVariants as exprs
use Rattle.flow_syntax.specs.declared.expr.SetOp.TheVariants as op
use Rattle.flow_syntax.specs.declared.spec.Spec.{Spec}
use Rattle.flow_syntax.specs.declared.types.ExprType.{ExprType}
use Rattle.value_domains.specs.Domains.{Domain, joined_of, least_of}
use Rattle.lattice_any.specs.declared.any.AnyL.{AnyL}
use Rattle.lattice_any.specs.declared.tables.DeclaredTable.{DeclaredTable}
use Rattle.lattice_any.specs.Types.{domain_of_any}
use Rattle.expr_meaning.specs.Meaning as meant
use Rattle.eval_code.specs.declared.code.ElemCode.{ElemCode}
use Rattle.eval_code.specs.declared.code.TruthCode.{TruthCode}
use Rattle.eval_code.specs.declared.code.ValueCode.{ValueCode}
use Rattle.eval_code.specs.declared.code.ValueCode.TheVariants as value_code
use Rattle.eval_code.specs.Senses.{Given, given_one, given_value}
use Rattle.code_laws.specs.inner.Compiled.{a_value, an_element, a_truth, HasDomain, IsCompiled, IsValueCode, IsElemCode, IsTruthCode}
use Rattle.flow_syntax.proofs.ExprLayers.{layer_of_bottom, layer_of_top, layer_of_unreached, layer_of_make_flat, layer_of_fst, layer_of_snd, layer_of_both, layer_of_if, layer_of_set2}
use Rattle.expr_meaning.specs.Ranges.{values, domain_in}
use Rattle.expr_meaning.specs.Meaning.{truth_in, elem_in, value_in, first_of, second_of, pair_meaning}
use Rattle.expr_meaning.proofs.TypedParts.{rest_typed}
use Rattle.eval_code.specs.declared.code.Half.TheVariants as half
use Rattle.code_laws.proofs.Given.{value_constant, value_flat, value_pair, value_part, value_if, value_join}
use Rattle.code_laws.proofs.RangeFacts.{first_value, second_value, pair_values, value_range, is_value_pair, value_branch}
use Rattle.code_laws.proofs.OwnTypes.{own_domain}
use Rattle.code_laws.proofs.Walks.{M, is_sound, no_parts, one_part, two_parts, three_parts}

module _ {spec : Spec} {tables : List DeclaredTable} (names : List (List ℕ)) (e : Expr) (ts : List ExprType) where
  pub by_given : (code : ValueCode) (rest : List ExprType) (g : Given Value) → given_value code ≡ g → IsCompiled spec tables names a_value e ts (given_one meant.a_value g) rest → IsValueCode spec tables names e ts code rest
  by_given code rest g is h = subst (λ (g : Given Value). IsCompiled spec tables names a_value e ts (given_one meant.a_value g) rest) (sym is) h

  pub bottom_code : (v : Value) (d : Domain) (o : Option ExprType) (rest : List ExprType) → (out-Expr e).kind ≡ exprs.Bottom → rest ≡ drop 1 ts → o ≡ slice_get ts 0 → v ≡ least_of d → HasDomain tables o d
      → IsValueCode spec tables names e ts (value_code.Constant v) rest
  bottom_code v d o rest is moved own least has_domain =
      by_given _ rest _ (value_constant v)
      (no_parts names a_value e ExprKind-F.Bottom _ ts rest (ap out-ExprKind is ∙ layer_of_bottom) refl moved
      (λ s vs inside has. record {
        gives = λ at suits bound. ap meant.a_value (least ∙ ap least_of (own_domain s (s.range e) ts o has.0 d inside.beside own has.1 has_domain ∙ sym (ap domain_in has.1)));
        needs = λ at suits bound. tt;
      }))

  pub top_code : (rest : List ExprType) → (out-Expr e).kind ≡ exprs.Top → rest ≡ drop 1 ts → IsValueCode spec tables names e ts (value_code.Constant value.Top) rest
  top_code rest is moved =
      by_given _ rest _ (value_constant value.Top)
      (no_parts names a_value e ExprKind-F.Top _ ts rest (ap out-ExprKind is ∙ layer_of_top) refl moved (λ s vs inside has. record { gives = λ at suits bound. refl; needs = λ at suits bound. tt }))

  pub unreached_code : (rest : List ExprType) → (out-Expr e).kind ≡ exprs.Unreached → rest ≡ drop 1 ts → IsValueCode spec tables names e ts (value_code.Constant value.Unreached) rest
  unreached_code rest is moved =
      by_given _ rest _ (value_constant value.Unreached)
      (no_parts names a_value e ExprKind-F.Unreached _ ts rest (ap out-ExprKind is ∙ layer_of_unreached) refl moved (λ s vs inside has. record { gives = λ at suits bound. refl; needs = λ at suits bound. tt }))

  pub flat_code : (a : Expr) (first rest : List ExprType) (p : ElemCode) → (out-Expr e).kind ≡ exprs.MakeFlat a → first ≡ drop 1 ts → IsElemCode spec tables names a first p rest → IsValueCode spec tables names e ts (value_code.Flat p) rest
  flat_code a first rest p is moved ca =
      by_given _ rest _ (value_flat p)
      (one_part names a_value e (ExprKind-F.MakeFlat a) _ an_element a ts first rest _ (ap out-ExprKind is ∙ layer_of_make_flat a) refl (λ s vs. refl) moved ca
      (λ s vs inside has. (inside.form.0, inside.form.2))
      (λ s vs inside has typed ga. record { gives = λ at suits bound. ap (λ m. meant.a_value (value.Flat (elem_in m))) (ga.gives at suits bound); needs = ga.needs }))

  pub first_value_code : (a : Expr) (first rest : List ExprType) (p : ValueCode) → (out-Expr e).kind ≡ exprs.Fst a → first ≡ drop 1 ts → IsValueCode spec tables names a first p rest → IsValueCode spec tables names e ts (value_code.Part half.First p) rest
  first_value_code a first rest p is moved ca =
      by_given _ rest _ (value_part half.First p)
      (one_part names a_value e (ExprKind-F.Fst a) _ a_value a ts first rest _ (ap out-ExprKind is ∙ layer_of_fst a) refl (λ s vs. refl) moved ca
      (λ s vs inside has. (_, (first_value _ _ inside.form has).2))
      (λ s vs inside has typed ga.
      let pair = first_value _ _ inside.form has in
      record {
        gives = λ at suits bound. ap first_of (ga.gives at suits bound);
        needs = λ at suits bound. (ga.needs at suits bound, is_value_pair pair.0 pair.1 _ (value_range _ _ (s.range a) (M s a at) pair.2 (ga.gives at suits bound) (is_sound s vs a [] typed at suits)));
      }))

  pub second_value_code : (a : Expr) (first rest : List ExprType) (p : ValueCode) → (out-Expr e).kind ≡ exprs.Snd a → first ≡ drop 1 ts → IsValueCode spec tables names a first p rest → IsValueCode spec tables names e ts (value_code.Part half.Second p) rest
  second_value_code a first rest p is moved ca =
      by_given _ rest _ (value_part half.Second p)
      (one_part names a_value e (ExprKind-F.Snd a) _ a_value a ts first rest _ (ap out-ExprKind is ∙ layer_of_snd a) refl (λ s vs. refl) moved ca
      (λ s vs inside has. (_, (second_value _ _ inside.form has).2))
      (λ s vs inside has typed ga.
      let pair = second_value _ _ inside.form has in
      record {
        gives = λ at suits bound. ap second_of (ga.gives at suits bound);
        needs = λ at suits bound. (ga.needs at suits bound, is_value_pair pair.0 pair.1 _ (value_range _ _ (s.range a) (M s a at) pair.2 (ga.gives at suits bound) (is_sound s vs a [] typed at suits)));
      }))

  pub value_pair_code : (a b : Expr) (first mid rest : List ExprType) (p q : ValueCode) → (out-Expr e).kind ≡ exprs.Both a b → first ≡ drop 1 ts → IsValueCode spec tables names a first p mid → IsValueCode spec tables names b mid q rest
      → IsValueCode spec tables names e ts (value_code.Pair p q) rest
  value_pair_code a b first mid rest p q is moved ca cb =
      by_given _ rest _ (value_pair p q)
      (two_parts names a_value e (ExprKind-F.Both a b) _ a_value a_value a b ts first mid rest _ _ (ap out-ExprKind is ∙ layer_of_both a b) refl (λ s vs. refl) moved ca cb
      (λ s vs inside has. pair_values _ _ _ inside.form has)
      (λ s vs inside has typed ga gb. record {
        gives = λ at suits bound. (λ i. pair_meaning (ga.gives at suits bound i) (gb.gives at suits bound i));
        needs = λ at suits bound. (ga.needs at suits bound, gb.needs at suits bound);
      }))

  pub value_if_code : (c a b : Expr) (first second third rest : List ExprType) (o : TruthCode) (p q : ValueCode) → (out-Expr e).kind ≡ exprs.If c a b → first ≡ drop 1 ts → IsTruthCode spec tables names c first o second
      → IsValueCode spec tables names a second p third → IsValueCode spec tables names b third q rest → IsValueCode spec tables names e ts (value_code.If o p q) rest
  value_if_code c a b first second third rest o p q is moved cc ca cb =
      by_given _ rest _ (value_if o p q)
      (three_parts names a_value e (ExprKind-F.If c a b) _ a_truth a_value a_value c a b ts first second third rest _ _ _ (ap out-ExprKind is ∙ layer_of_if c a b) refl (λ s vs. refl) moved cc ca cb
      (λ s vs inside has. (inside.form.0, ((has.0, inside.form.1 ∙ has.1), (has.0, inside.form.2 ∙ has.1))))
      (λ s vs inside has typed gc ga gb. record {
        gives = λ at suits bound. value_branch _ _ _ ∙ (λ i. cond (truth_in (gc.gives at suits bound i)) (ga.gives at suits bound i) (gb.gives at suits bound i));
        needs = λ at suits bound. (gc.needs at suits bound, (ga.needs at suits bound, gb.needs at suits bound));
      }))

  pub join_code : (a b : Expr) (l : AnyL) (o : Option ExprType) (first mid rest : List ExprType) (p q : ValueCode) → (out-Expr e).kind ≡ exprs.Set2 op.Join a b → first ≡ drop 1 ts → o ≡ slice_get ts 0 → HasDomain tables o (domain_of_any l)
      → IsValueCode spec tables names a first p mid → IsValueCode spec tables names b mid q rest → IsValueCode spec tables names e ts (value_code.Join l p q) rest
  join_code a b l o first mid rest p q is moved own has_domain ca cb =
      by_given _ rest _ (value_join l p q)
      (two_parts names a_value e (ExprKind-F.Set2 op.Join a b) _ a_value a_value a b ts first mid rest _ _ (ap out-ExprKind is ∙ layer_of_set2 op.Join a b) refl (λ s vs. refl) moved ca cb
      (λ s vs inside has. ((inside.form.0, inside.form.3), (inside.form.0, inside.form.4)))
      (λ s vs inside has typed ga gb.
      let same = own_domain s (s.range e) ts o inside.form.0 (domain_of_any l) inside.beside own inside.form.2 has_domain in
      let is_own = same ∙ sym (ap domain_in inside.form.2) in
      record {
        gives = λ at suits bound. (λ i. meant.a_value (joined_of (is_own i) (value_in (ga.gives at suits bound i)) (value_in (gb.gives at suits bound i))));
        needs = λ at suits bound.
            let left = value_range _ _ (s.range a) (M s a at) (inside.form.3 ∙ ap values (sym same)) (ga.gives at suits bound) (is_sound s vs a _ typed at suits) in
            let right = value_range _ _ (s.range b) (M s b at) (inside.form.4 ∙ ap values (sym same)) (gb.gives at suits bound) (is_sound s vs b [] (rest_typed _ _ typed) at suits) in
            ((ga.needs at suits bound, left), (gb.needs at suits bound, right));
      }))
