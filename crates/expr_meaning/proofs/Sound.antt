-- The meaning of a typed expression is in its range: the induction.
use Rattle.std.proofs.Common.{◌≡◌, ℕ, Bool, true, false, cond, List, [], ◌∷◌, map, Option, Some, None, sym, ap, subst}
use Rattle.std.specs.Prelude.{All}
use Rattle.std.specs.List.{AllByRecursion}
use Rattle.std.proofs.lemmas.List.Elements.{All-nil, All-cons}
use Rattle.flow_term.specs.declared.elem.Elem.TheVariants as elem
use Rattle.flow_term.specs.declared.value.Bound.{Bound}
use Rattle.flow_term.specs.declared.value.Value.{Value, out-Value}
use Rattle.flow_term.specs.declared.value.Value.TheVariants as value
use Rattle.flow_syntax.specs.declared.expr.Expr.{Expr}
use Rattle.flow_syntax.specs.declared.expr.ExprKind.TheOpen.{ExprKind-F}
use Rattle.flow_syntax.specs.declared.expr.SetOp.{SetOp}
use Rattle.flow_syntax.specs.declared.expr.SetOp.TheVariants as op
use Rattle.flow_syntax.specs.declared.spec.Spec.{Spec}
use Rattle.flow_syntax.specs.declared.spec.Named.{Named}
use Rattle.flow_syntax.specs.declared.tables.EnumDecl.{EnumDecl}
use Rattle.flow_syntax.specs.declared.tables.FunctionDecl.{FunctionDecl}
use Rattle.flow_syntax.specs.Expressions.{ExprLayer, expr_layer, parts_in, parts_of}
use Rattle.value_domains.specs.Values.{union_of, intersection_of, IsOfSort, form_has_sort}
use Rattle.flow_syntax.specs.Inferred.{enum_with, function_named}
use Rattle.flow_syntax.specs.Types.{Sort, int_sort, str_sort, enum_sort}
use Rattle.value_domains.specs.Lawful.{IsLawful}
use Rattle.value_domains.specs.inner.DomainLaws.{domain_laws}
use Rattle.expr_meaning.specs.Ranges.{Range, values, elements, domain_in}
use Rattle.value_domains.specs.Domains.{Domain, flat, map_to, IsListed, table_named, IsValueOf}
use Rattle.expr_meaning.specs.Meaning.{Meaning, an_element, a_value, a_truth, value_in, elem_in, truth_in, Situation, Usable, Sense, with_bound, meaning, form_meaning, constant_meaning, name_meaning, bound_to, difference_of, operation, elems_given, values_given, call_value}
use Rattle.expr_meaning.specs.Functions.{AreElements, GivesElements}
use Rattle.flow_syntax.specs.Parts.{part}
use Rattle.expr_meaning.specs.Typing.{IsIn, Variable, held, and_variable, variable_of, IsBoundAs, Suits, sort_in, elements_of, IsOperand, HasForm, IsNamed, listed_in, HaveArguments, held_parts, AreTyped}
use Rattle.expr_meaning.proofs.Bound.{suits_more}
use Rattle.expr_meaning.proofs.TypedParts.{first_typed, rest_typed, inner_typed, split_typed, split_all}
use Rattle.flow_syntax.proofs.Parts.{given_layer, by_parts_out, by_induction}
use Rattle.expr_meaning.proofs.FormMoves.{value_fact}
use Rattle.expr_meaning.proofs.Members.{set_valid, set_value, unreached_value, sets_value, union_keeps, intersection_keeps, difference_keeps, chosen_value, flat_value, top_value, bound_value, map_in_valid, value_or_valid, map_value_valid, updated_valid, map_of_valid, empty_valid, first_sound, second_sound, pair_sound}

elem_fact : (s : Sort) (x : Meaning) → IsIn (elements s) x → IsOfSort s (elem_in x)
elem_fact s (an_element e) h = h
elem_fact s _ h = absurd h

int_element : (n : _) → IsOfSort int_sort (elem.Int n)
int_element n = ap (form_has_sort int_sort) (elem.outs-Int n)

str_element : (s : List ℕ) → IsOfSort str_sort (elem.Str s)
str_element s = ap (form_has_sort str_sort) (elem.outs-Str s)

item_element : (e x : List ℕ) → IsOfSort (enum_sort e) (elem.Item x)
item_element e x = ap (form_has_sort (enum_sort e)) (elem.outs-Item x)

module _ (spec : Spec) (usable : Usable) (range : Expr → Range) where
  abbrev pub M : Expr → Sense
  M = meaning spec range

  abbrev pub Typed : List Variable → Expr → Type 0
  Typed vs e = AreTyped spec usable range (held vs e ∷ [])

  abbrev pub IsSound : Expr → Type 0
  IsSound e = (vs : List Variable) → Typed vs e → (at : Situation) → Suits usable vs at → IsIn (range e) (M e at)

  constant_sound : (o : Option EnumDecl) (own : Range) (x : List ℕ) → IsNamed spec None o own x → IsIn own (constant_meaning o x)
  constant_sound (Some e) own x h = subst (λ r. IsIn r (an_element (elem.Item x))) (sym h) (item_element e.name.text x)
  constant_sound None own x h = subst (λ r. IsIn r (a_value (value.Item x))) (sym h.1) (subst (IsListed (table_named spec.lattices h.0.text)) (sym (value.outs-Item x)) h.2)

  name_sound : (o : Option Variable) (b : Option Bound) (own : Range) (x : List ℕ) → IsBoundAs o b → IsNamed spec o (enum_with spec x) own x → IsIn own (name_meaning spec b x)
  name_sound (Some v) (Some b) own x h k = subst (λ r. IsIn r (an_element b.value)) (sym k) h
  name_sound None None own x h k = constant_sound (enum_with spec x) own x k
  name_sound (Some v) None own x h k = absurd h
  name_sound None (Some b) own x h k = absurd h

  module _ (results : (x : List ℕ) (f : FunctionDecl) → function_named spec x ≡ Some f → GivesElements spec f) (lawful : (e : Expr) → IsLawful (domain_in (range e))) where
    pub value_of : (vs : List Variable) (at : Situation) → Suits usable vs at → (e : Expr) (d : Domain) → range e ≡ values d → Typed vs e → IsSound e → IsValueOf d (value_in (M e at))
    value_of vs at suits e d is typed sound = value_fact d (M e at) (subst (λ r. IsIn r (M e at)) is (sound vs typed at suits))

    pub elem_of : (vs : List Variable) (at : Situation) → Suits usable vs at → (e : Expr) (s : Sort) → range e ≡ elements s → Typed vs e → IsSound e → IsOfSort s (elem_in (M e at))
    elem_of vs at suits e s is typed sound = elem_fact s (M e at) (subst (λ r. IsIn r (M e at)) is (sound vs typed at suits))

    abbrev Goal : Situation → ExprLayer → Range → Type 0
    Goal at layer r = IsIn r (form_meaning spec (domain_in r) (given_layer M layer) at)

    operation_value : (o : SetOp) (d : Domain) → IsLawful d → IsOperand o d → (v w : Value) → IsValueOf d v → IsValueOf d w → IsValueOf d (operation o d v w)
    operation_value op.Join d lawful_d h v w hv hw = (domain_laws d lawful_d).joined_valid v w hv hw
    operation_value op.Union d lawful_d h v w hv hw = sets_value d h union_of union_keeps v w hv hw
    operation_value op.Inter d lawful_d h v w hv hw = sets_value d h intersection_of intersection_keeps v w hv hw
    operation_value op.Minus d lawful_d h v w hv hw = sets_value d h difference_of difference_keeps v w hv hw

    branch_sound : (own : Range) (t : Bool) (x y : Meaning) → IsIn own x → IsIn own y → IsIn own (cond t x y)
    branch_sound own true x y h k = h
    branch_sound own false x y h k = k

    elems_sound : (vs : List Variable) (at : Situation) → Suits usable vs at → (s : Sort) (es : List Expr) → AllByRecursion (λ e. range e ≡ elements s) es → AreTyped spec usable range (map (held vs) es) → AllByRecursion IsSound es
        → All (IsOfSort s) (elems_given at (map (λ e. part e (M e)) es))
    elems_sound vs at suits s [] are typed sound = All-nil (IsOfSort s)
    elems_sound vs at suits s (e ∷ es) are typed sound =
        All-cons (IsOfSort s) (elem_in (M e at)) (elems_given at (map (λ e. part e (M e)) es)) (elem_of vs at suits e s are.0 (first_typed _ _ typed) sound.0) (elems_sound vs at suits s es are.1 (rest_typed _ _ typed) sound.1)

    values_sound : (vs : List Variable) (at : Situation) → Suits usable vs at → (d : Domain) (es : List Expr) → AllByRecursion (λ e. range e ≡ values d) es → AreTyped spec usable range (map (held vs) es) → AllByRecursion IsSound es
        → All (IsValueOf d) (values_given at (map (λ e. part e (M e)) es))
    values_sound vs at suits d [] are typed sound = All-nil (IsValueOf d)
    values_sound vs at suits d (e ∷ es) are typed sound =
        All-cons (IsValueOf d) (value_in (M e at)) (values_given at (map (λ e. part e (M e)) es)) (value_of vs at suits e d are.0 (first_typed _ _ typed) sound.0) (values_sound vs at suits d es are.1 (rest_typed _ _ typed) sound.1)

    arguments_sound : (vs : List Variable) (at : Situation) → Suits usable vs at → (ns : List Named) (es : List Expr) → HaveArguments spec range ns es → AreTyped spec usable range (map (held vs) es) → AllByRecursion IsSound es
        → AreElements spec ns (values_given at (map (λ e. part e (M e)) es))
    arguments_sound vs at suits [] [] have typed sound = tt
    arguments_sound vs at suits (n ∷ ns) (e ∷ es) have typed sound = (value_of vs at suits e (listed_in spec n) have.0 (first_typed _ _ typed) sound.0, arguments_sound vs at suits ns es have.1 (rest_typed _ _ typed) sound.1)
    arguments_sound vs at suits [] (e ∷ es) have typed sound = absurd have
    arguments_sound vs at suits (n ∷ ns) [] have typed sound = absurd have

    by_form : (vs : List Variable) (at : Situation) → Suits usable vs at → (own : Range) (layer : ExprLayer) → IsLawful (domain_in own) → HasForm spec usable range vs own layer → AreTyped spec usable range (held_parts range vs layer)
        → AllByRecursion IsSound (parts_in layer) → Goal at layer own
    by_form vs at suits own (ExprKind-F.Int n) lawful_own form typed parts = subst (λ r. IsIn r (an_element (elem.Int n))) (sym form) (int_element n)
    by_form vs at suits own (ExprKind-F.Str s) lawful_own form typed parts = subst (λ r. IsIn r (an_element (elem.Str s))) (sym form) (str_element s)
    by_form vs at suits own (ExprKind-F.Truth t) lawful_own form typed parts = subst (λ r. IsIn r (a_truth t)) (sym form) tt
    by_form vs at suits own ExprKind-F.Bottom lawful_own (d, is_own) typed parts =
        subst (λ r. Goal at ExprKind-F.Bottom r) (sym is_own) ((domain_laws d (subst (λ r. IsLawful (domain_in r)) is_own lawful_own)).least_valid)
    by_form vs at suits own ExprKind-F.Top lawful_own (s, is_own) typed parts = subst (λ r. Goal at ExprKind-F.Top r) (sym is_own) (top_value s)
    by_form vs at suits own ExprKind-F.Unreached lawful_own (s, is_own) typed parts = subst (λ r. Goal at ExprKind-F.Unreached r) (sym is_own) (unreached_value s)
    by_form vs at suits own (ExprKind-F.Ident x) lawful_own form typed parts = name_sound (variable_of vs x) (bound_to at.bindings x) own x (suits.bound x form.1) form.0
    by_form vs at suits own (ExprKind-F.Read p side) lawful_own form typed parts = subst (λ r. Goal at (ExprKind-F.Read p side) r) (sym form.0) (suits.reads _ side form.1)
    by_form vs at suits own (ExprKind-F.MakeFlat e) lawful_own (s, is_own, is_e) typed parts = subst (λ r. Goal at (ExprKind-F.MakeFlat e) r) (sym is_own) (flat_value s (elem_in (M e at)) (elem_of vs at suits e s is_e typed parts.0))
    by_form vs at suits own (ExprKind-F.Look m k) lawful_own (s, d, is_own, is_m, is_k) typed parts =
        subst (λ r. Goal at (ExprKind-F.Look m k) r) (sym is_own)
        (value_or_valid s d ((domain_laws d (subst (λ r. IsLawful (domain_in r)) is_own lawful_own)).least_valid) _ (map_in_valid s d (out-Value (value_in (M m at))) (value_of vs at suits m (map_to s d) is_m (first_typed _ _ typed) parts.0)).kept (elem_in (M k at)))
    by_form vs at suits own (ExprKind-F.Set2 o a c) lawful_own (d, operand, is_own, is_a, is_c) typed parts =
        subst (λ r. Goal at (ExprKind-F.Set2 o a c) r) (sym is_own)
        (operation_value o d (subst (λ r. IsLawful (domain_in r)) is_own lawful_own) operand (value_in (M a at)) (value_in (M c at)) (value_of vs at suits a d is_a (first_typed _ _ typed) parts.0) (value_of vs at suits c d is_c (rest_typed _ _ typed) parts.1.0))
    by_form vs at suits own (ExprKind-F.SetOf es) lawful_own (d, sets, is_own, are) typed parts =
        subst (λ r. Goal at (ExprKind-F.SetOf es) r) (sym is_own) (set_value d sets _ (set_valid (sort_in d) _ (elems_sound vs at suits (sort_in d) es are typed parts)))
    by_form vs at suits own (ExprKind-F.Compare o a c) lawful_own (s, is_own, is_a, is_c) typed parts = subst (λ r. Goal at (ExprKind-F.Compare o a c) r) (sym is_own) tt
    by_form vs at suits own (ExprKind-F.Member e f) lawful_own (d, sets, is_own, is_f, is_e) typed parts = subst (λ r. Goal at (ExprKind-F.Member e f) r) (sym is_own) tt
    by_form vs at suits own (ExprKind-F.And a c) lawful_own (is_own, is_a, is_c) typed parts = subst (λ r. Goal at (ExprKind-F.And a c) r) (sym is_own) tt
    by_form vs at suits own (ExprKind-F.Or a c) lawful_own (is_own, is_a, is_c) typed parts = subst (λ r. Goal at (ExprKind-F.Or a c) r) (sym is_own) tt
    by_form vs at suits own (ExprKind-F.Not a) lawful_own (is_own, is_a) typed parts = subst (λ r. Goal at (ExprKind-F.Not a) r) (sym is_own) tt
    by_form vs at suits own (ExprKind-F.Arith o a c) lawful_own (is_own, is_a, is_c) typed parts = subst (λ r. Goal at (ExprKind-F.Arith o a c) r) (sym is_own) (int_element _)
    by_form vs at suits own (ExprKind-F.Minus a) lawful_own (is_own, is_a) typed parts = subst (λ r. Goal at (ExprKind-F.Minus a) r) (sym is_own) (int_element _)
    by_form vs at suits own (ExprKind-F.If c a e) lawful_own (is_c, is_a, is_e) typed parts =
        let others = rest_typed _ _ typed in
        branch_sound own (truth_in (M c at)) (M a at) (M e at) (subst (λ r. IsIn r (M a at)) is_a (parts.1.0 vs (first_typed _ _ others) at suits)) (subst (λ r. IsIn r (M e at)) is_e (parts.1.1.0 vs (rest_typed _ _ others) at suits))
    by_form vs at suits own (ExprKind-F.Bind x a e) lawful_own (s, t, is_own, is_a, is_e) typed parts =
        subst (λ r. Goal at (ExprKind-F.Bind x a e) r) (sym is_own)
        (bound_value s t (λ v. value_in (M e (with_bound at x v)))
        (λ v sorted. value_of (and_variable vs x (elements_of (range a))) (with_bound at x v) (suits_more usable vs at x (elements_of (range a)) v suits (subst (λ s. IsOfSort s v) (sym (ap elements_of is_a)) sorted)) e (flat t) is_e (rest_typed _ _ typed) parts.1.0)
        (value_in (M a at)) (value_of vs at suits a (flat s) is_a (first_typed _ _ typed) parts.0))
    by_form vs at suits own (ExprKind-F.Choose e x from None) lawful_own (d, u, alike, is_own, is_from, is_e, is_c) typed parts =
        subst (λ r. Goal at (ExprKind-F.Choose e x from None) r) (sym is_own)
        (chosen_value d u alike (λ v. elem_in (M e (with_bound at x v))) (λ v. true)
        (λ v sorted. elem_of (and_variable vs x (elements_of (range from))) (with_bound at x v) (suits_more usable vs at x (elements_of (range from)) v suits (subst (λ s. IsOfSort s v) (sym (ap elements_of is_from)) sorted)) e (sort_in d) is_e (first_typed _ _ typed) parts.0)
        (value_in (M from at)) (value_of vs at suits from u is_from (rest_typed _ _ typed) parts.1.0))
    by_form vs at suits own (ExprKind-F.Choose e x from (Some c)) lawful_own (d, u, alike, is_own, is_from, is_e, is_c) typed parts =
        subst (λ r. Goal at (ExprKind-F.Choose e x from (Some c)) r) (sym is_own)
        (chosen_value d u alike (λ v. elem_in (M e (with_bound at x v))) (λ v. truth_in (M c (with_bound at x v)))
        (λ v sorted. elem_of (and_variable vs x (elements_of (range from))) (with_bound at x v) (suits_more usable vs at x (elements_of (range from)) v suits (subst (λ s. IsOfSort s v) (sym (ap elements_of is_from)) sorted)) e (sort_in d) is_e (first_typed _ _ typed) parts.0)
        (value_in (M from at)) (value_of vs at suits from u is_from (first_typed _ _ (rest_typed _ _ typed)) parts.1.0))
    by_form vs at suits own (ExprKind-F.Fst a) lawful_own form typed parts = first_sound own (range a) form (M a at) (parts.0 vs typed at suits)
    by_form vs at suits own (ExprKind-F.Snd a) lawful_own form typed parts = second_sound own (range a) form (M a at) (parts.0 vs typed at suits)
    by_form vs at suits own (ExprKind-F.Both a c) lawful_own form typed parts = pair_sound own (range a) (range c) form (M a at) (M c at) (parts.0 vs (first_typed _ _ typed) at suits) (parts.1.0 vs (rest_typed _ _ typed) at suits)
    by_form vs at suits own (ExprKind-F.Update m k v) lawful_own (s, d, is_own, is_m, is_k, is_v) typed parts =
        let others = rest_typed _ _ typed in
        subst (λ r. Goal at (ExprKind-F.Update m k v) r) (sym is_own)
        (map_value_valid s d _ (updated_valid s d _ (elem_in (M k at)) (value_in (M v at)) (map_in_valid s d (out-Value (value_in (M m at))) (value_of vs at suits m (map_to s d) is_m (first_typed _ _ typed) parts.0))
        (elem_of vs at suits k s is_k (first_typed _ _ others) parts.1.0) (value_of vs at suits v d is_v (rest_typed _ _ others) parts.1.1.0)))
    by_form vs at suits own (ExprKind-F.Call f args) lawful_own (d, named, is_own, have) typed parts =
        subst (λ r. Goal at (ExprKind-F.Call f args) r) (sym is_own)
        (subst (λ o. IsValueOf (listed_in spec d.result) (call_value spec o (values_given at (map (λ e. part e (M e)) args)))) (sym named) (results f d named _ (arguments_sound vs at suits d.args args have typed parts)))
    by_form vs at suits own (ExprKind-F.MapOf ks ws) lawful_own (s, d, is_own, are_keys, are_values) typed parts =
        let typed_parts = split_typed (map (held vs) ks) (map (held vs) ws) typed in
        let known_parts = split_all IsSound ks ws parts in
        subst (λ r. Goal at (ExprKind-F.MapOf ks ws) r) (sym is_own)
        (map_value_valid s d _ (map_of_valid s d (subst (λ r. IsLawful (domain_in r)) is_own lawful_own) _ _ [] (empty_valid s d) (elems_sound vs at suits s ks are_keys typed_parts.0 known_parts.0) (values_sound vs at suits d ws are_values typed_parts.1 known_parts.1)))

    by_its_parts : (e : Expr) → AllByRecursion IsSound (parts_of e) → IsSound e
    by_its_parts e parts vs typed at suits =
        let inner = inner_typed (held vs e) typed in
        subst (λ (s : Sense). IsIn (range e) (s at)) (sym (by_parts_out (λ e layer. form_meaning spec (domain_in (range e)) layer) e)) (by_form vs at suits (range e) (expr_layer e) (lawful e) inner.0 inner.1 parts)

    pub all_sound : (e : Expr) → IsSound e
    all_sound = by_induction IsSound by_its_parts
