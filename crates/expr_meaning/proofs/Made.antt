-- The meaning of a typed expression holds only elements that it is given or makes itself: the induction.
use Rattle.std.proofs.Common.{◌≡◌, ℕ, Bool, true, false, cond, List, [], ◌∷◌, ◌++◌, map, Option, Some, None, refl, sym, ap, subst}
use Rattle.std.specs.Prelude.{All, Contains, bytes_eq}
use Rattle.std.specs.List.{AllByRecursion}
use Rattle.std.proofs.lemmas.List.Elements.{All-nil, All-cons}
use Rattle.flow_term.specs.declared.elem.Elem.{Elem}
use Rattle.flow_term.specs.declared.elem.Elem.TheVariants as elem
use Rattle.flow_term.specs.declared.value.Bound.{Bound}
use Rattle.flow_term.specs.declared.value.Value.{out-Value}
use Rattle.flow_syntax.specs.declared.expr.Expr.{Expr}
use Rattle.flow_syntax.specs.declared.expr.ExprKind.TheOpen.{ExprKind-F}
use Rattle.flow_syntax.specs.declared.spec.Spec.{Spec}
use Rattle.flow_syntax.specs.declared.tables.EnumDecl.{EnumDecl}
use Rattle.flow_syntax.specs.Expressions.{ExprLayer, expr_layer, parts_in, parts_of}
use Rattle.flow_syntax.specs.Parts.{part}
use Rattle.flow_syntax.specs.Inferred.{enum_with}
use Rattle.flow_syntax.specs.Types.{Sort, str_sort}
use Rattle.flow_syntax.proofs.Parts.{given_layer, by_parts_out, by_induction}
use Rattle.value_domains.specs.Values.{IsOfSort, map_in}
use Rattle.value_domains.specs.Domains.{Domain, flat, map_to, IsValueOf}
use Rattle.expr_meaning.specs.Making.{Holds, MeaningHolds, BoundHolds, SituationHolds, HasParts, HasMade}
use Rattle.expr_meaning.specs.Meaning.{Meaning, value_in, elem_in, truth_in, Situation, Usable, Sense, with_bound, meaning, form_meaning, constant_meaning, name_meaning, bound_to, elems_given, values_given}
use Rattle.expr_meaning.specs.Ranges.{Range, values, elements, domain_in}
use Rattle.expr_meaning.specs.Typing.{IsIn, Variable, held, and_variable, variable_of, IsBoundAs, Suits, sort_in, elements_of, HasForm, IsNamed, held_parts, AreTyped}
use Rattle.expr_meaning.proofs.Bound.{or_else, find_more, suits_more}
use Rattle.expr_meaning.proofs.FormMoves.{value_fact}
use Rattle.expr_meaning.proofs.Making.{set_holds, made_set, chosen_holds, map_holds, operation_holds, least_holds, unreached_is, top_holds, flat_holds, bind_holds, look_holds, update_holds, map_of_holds, nothing_holds, first_holds, second_holds, both_hold}
use Rattle.expr_meaning.proofs.TypedParts.{first_typed, rest_typed, inner_typed, split_typed, split_all, all_from}

both_all : {X : Type 0} (P Q R : X → Type 0) → ((x : X) → P x → Q x → R x) → (xs : List X) → AllByRecursion P xs → AllByRecursion Q xs → AllByRecursion R xs
both_all P Q R join [] h k = tt
both_all P Q R join (x ∷ xs) h k = (join x h.0 k.0, both_all P Q R join xs h.1 k.1)

module _ (spec : Spec) (usable : Usable) (range : Expr → Range) (sound : (e : Expr) (vs : List Variable) → AreTyped spec usable range (held vs e ∷ []) → (at : Situation) → Suits usable vs at → IsIn (range e) (meaning spec range e at))
    (Among : Sort → Elem → Type 0) (given : List Expr) (has_parts : HasParts given) (made : HasMade Among spec given) where
  abbrev M : Expr → Sense
  M = meaning spec range

  abbrev Typed : List Variable → Expr → Type 0
  Typed vs e = AreTyped spec usable range (held vs e ∷ [])

  -- what it means holds only these, wherever it is typed
  abbrev MakesThese : Expr → Type 0
  MakesThese e = (vs : List Variable) → Typed vs e → (at : Situation) → Suits usable vs at → SituationHolds Among usable vs at → MeaningHolds Among (range e) (M e at)

  abbrev pub IfGiven : Expr → Type 0
  IfGiven e = Contains given e → MakesThese e

  -- NAMES

  constant_holds : (o : Option EnumDecl) (own : Range) (x : List ℕ) → enum_with spec x ≡ o → IsNamed spec None o own x → MeaningHolds Among own (constant_meaning o x)
  constant_holds (Some e) own x is h = subst (λ r. MeaningHolds Among r (constant_meaning (Some e) x)) (sym h) (made.items x e is)
  constant_holds None own x is h = subst (λ r. MeaningHolds Among r (constant_meaning {X = EnumDecl} None x)) (sym h.1) tt

  name_holds : (o : Option Variable) (b : Option Bound) (own : Range) (x : List ℕ) → IsBoundAs o b → IsNamed spec o (enum_with spec x) own x → BoundHolds Among o b → MeaningHolds Among own (name_meaning spec b x)
  name_holds (Some v) (Some b) own x h k m = subst (λ r. MeaningHolds Among r (name_meaning spec (Some b) x)) (sym k) m
  name_holds None None own x h k m = constant_holds (enum_with spec x) own x refl k
  name_holds (Some v) None own x h k m = absurd h
  name_holds None (Some b) own x h k m = absurd h

  bound_more : (o : Option Variable) (c : Option Bound) (t : Bool) (v : Variable) (b : Bound) → IsBoundAs o c → BoundHolds Among o c → Among v.sort b.value
      → BoundHolds Among (or_else o (cond t (Some v) None)) (or_else c (cond t (Some b) None))
  bound_more (Some u) (Some c) t v b is h k = h
  bound_more None None true v b is h k = k
  bound_more None None false v b is h k = tt
  bound_more (Some u) None t v b is h k = absurd is
  bound_more None (Some c) t v b is h k = absurd is

  -- a situation with one more variable that is bound to one of these
  holds_more : (vs : List Variable) (at : Situation) (x : List ℕ) (s : Sort) (e : Elem) → Suits usable vs at → SituationHolds Among usable vs at → Among s e → SituationHolds Among usable (and_variable vs x s) (with_bound at x e)
  holds_more vs at x s e suits h k = record {
    bound = λ y used.
        subst (λ (o : Option Variable). BoundHolds Among o (bound_to (at.bindings ++ record { name = x; value = e } ∷ []) y)) (sym (find_more (λ v. bytes_eq y v.name) vs (record { name = x; sort = s })))
        (subst (λ (o : Option Bound). BoundHolds Among (or_else (variable_of vs y) (cond (bytes_eq y x) (Some (record { name = x; sort = s })) None)) o) (sym (find_more (λ b. bytes_eq y b.name) at.bindings (record { name = x; value = e })))
        (bound_more (variable_of vs y) (bound_to at.bindings y) (bytes_eq y x) _ _ (suits.bound y used) (h.bound y used) k));
    reads = h.reads;
  }

  -- PARTS

  module _ (vs : List Variable) (at : Situation) (suits : Suits usable vs at) (held_there : SituationHolds Among usable vs at) where
    value_held : (e : Expr) (d : Domain) → range e ≡ values d → Typed vs e → MakesThese e → Holds Among d (value_in (M e at))
    value_held e d is typed makes = subst (λ r. MeaningHolds Among r (M e at)) is (makes vs typed at suits held_there)

    elem_held : (e : Expr) (s : Sort) → range e ≡ elements s → Typed vs e → MakesThese e → Among s (elem_in (M e at))
    elem_held e s is typed makes = subst (λ r. MeaningHolds Among r (M e at)) is (makes vs typed at suits held_there)

    value_valid : (e : Expr) (d : Domain) → range e ≡ values d → Typed vs e → IsValueOf d (value_in (M e at))
    value_valid e d is typed = value_fact d (M e at) (subst (λ r. IsIn r (M e at)) is (sound e vs typed at suits))

    elems_held : (s : Sort) (es : List Expr) → AllByRecursion (λ e. range e ≡ elements s) es → AreTyped spec usable range (map (held vs) es) → AllByRecursion MakesThese es → All (Among s) (elems_given at (map (λ e. part e (M e)) es))
    elems_held s [] are typed makes = All-nil (Among s)
    elems_held s (e ∷ es) are typed makes =
        All-cons (Among s) (elem_in (M e at)) (elems_given at (map (λ e. part e (M e)) es)) (elem_held e s are.0 (first_typed _ _ typed) makes.0) (elems_held s es are.1 (rest_typed _ _ typed) makes.1)

    values_held : (d : Domain) (es : List Expr) → AllByRecursion (λ e. range e ≡ values d) es → AreTyped spec usable range (map (held vs) es) → AllByRecursion MakesThese es → All (Holds Among d) (values_given at (map (λ e. part e (M e)) es))
    values_held d [] are typed makes = All-nil (Holds Among d)
    values_held d (e ∷ es) are typed makes =
        All-cons (Holds Among d) (value_in (M e at)) (values_given at (map (λ e. part e (M e)) es)) (value_held e d are.0 (first_typed _ _ typed) makes.0) (values_held d es are.1 (rest_typed _ _ typed) makes.1)

    -- what a part makes where one more variable is bound
    elem_inside : (e : Expr) (s t : Sort) (x : List ℕ) (r : Range) → range e ≡ elements s → elements_of r ≡ t → Typed (and_variable vs x (elements_of r)) e → MakesThese e → (v : Elem) → IsOfSort t v → Among t v → Among s (elem_in (M e (with_bound at x v)))
    elem_inside e s t x r is sorted typed makes v of_sort among =
        subst (λ r. MeaningHolds Among r (M e (with_bound at x v))) is
        (makes (and_variable vs x (elements_of r)) typed (with_bound at x v) (suits_more usable vs at x (elements_of r) v suits (subst (λ s. IsOfSort s v) (sym sorted) of_sort)) (holds_more vs at x (elements_of r) v suits held_there (subst (λ s. Among s v) (sym sorted) among)))

    value_inside : (e : Expr) (d : Domain) (t : Sort) (x : List ℕ) (r : Range) → range e ≡ values d → elements_of r ≡ t → Typed (and_variable vs x (elements_of r)) e → MakesThese e → (v : Elem) → IsOfSort t v → Among t v → Holds Among d (value_in (M e (with_bound at x v)))
    value_inside e d t x r is sorted typed makes v of_sort among =
        subst (λ r. MeaningHolds Among r (M e (with_bound at x v))) is
        (makes (and_variable vs x (elements_of r)) typed (with_bound at x v) (suits_more usable vs at x (elements_of r) v suits (subst (λ s. IsOfSort s v) (sym sorted) of_sort)) (holds_more vs at x (elements_of r) v suits held_there (subst (λ s. Among s v) (sym sorted) among)))

    branch_holds : (own : Range) (t : Bool) (x y : Meaning) → MeaningHolds Among own x → MeaningHolds Among own y → MeaningHolds Among own (cond t x y)
    branch_holds own true x y h k = h
    branch_holds own false x y h k = k

    -- FORMS

    abbrev Goal : ExprLayer → Range → Type 0
    Goal layer r = MeaningHolds Among r (form_meaning spec (domain_in r) (given_layer M layer) at)

    by_form : (own : Range) (layer : ExprLayer) → ((s : List ℕ) → layer ≡ ExprKind-F.Str s → Among str_sort (elem.Str s)) → HasForm spec usable range vs own layer → AreTyped spec usable range (held_parts range vs layer) → AllByRecursion MakesThese (parts_in layer) → Goal layer own
    by_form own (ExprKind-F.Int n) text form typed makes = subst (λ r. Goal (ExprKind-F.Int n) r) (sym form) (made.integers n)
    by_form own (ExprKind-F.Str s) text form typed makes = subst (λ r. Goal (ExprKind-F.Str s) r) (sym form) (text s refl)
    by_form own (ExprKind-F.Truth t) text form typed makes = subst (λ r. Goal (ExprKind-F.Truth t) r) (sym form) tt
    by_form own ExprKind-F.Bottom text (d, is_own) typed makes = subst (λ r. Goal ExprKind-F.Bottom r) (sym is_own) (least_holds Among d)
    by_form own ExprKind-F.Top text (s, is_own) typed makes = subst (λ r. Goal ExprKind-F.Top r) (sym is_own) (top_holds Among s)
    by_form own ExprKind-F.Unreached text (s, is_own) typed makes = subst (λ r. Goal ExprKind-F.Unreached r) (sym is_own) (unreached_is Among s)
    by_form own (ExprKind-F.Ident x) text form typed makes = name_holds (variable_of vs x) (bound_to at.bindings x) own x (suits.bound x form.1) form.0 (held_there.bound x form.1)
    by_form own (ExprKind-F.Read p side) text form typed makes = subst (λ r. Goal (ExprKind-F.Read p side) r) (sym form.0) (held_there.reads _ side form.1)
    by_form own (ExprKind-F.MakeFlat e) text (s, is_own, is_e) typed makes = subst (λ r. Goal (ExprKind-F.MakeFlat e) r) (sym is_own) (flat_holds Among s (elem_in (M e at)) (elem_held e s is_e typed makes.0))
    by_form own (ExprKind-F.Look m k) text (s, d, is_own, is_m, is_k) typed makes =
        subst (λ r. Goal (ExprKind-F.Look m k) r) (sym is_own) (look_holds Among d (map_in (out-Value (value_in (M m at)))) (elem_in (M k at)) (value_held m (map_to s d) is_m (first_typed _ _ typed) makes.0).1)
    by_form own (ExprKind-F.Set2 o a c) text (d, operand, is_own, is_a, is_c) typed makes =
        subst (λ r. Goal (ExprKind-F.Set2 o a c) r) (sym is_own)
        (operation_holds Among o d operand (value_in (M a at)) (value_in (M c at)) (value_held a d is_a (first_typed _ _ typed) makes.0) (value_held c d is_c (rest_typed _ _ typed) makes.1.0))
    by_form own (ExprKind-F.SetOf es) text (d, sets, is_own, are) typed makes = subst (λ r. Goal (ExprKind-F.SetOf es) r) (sym is_own) (set_holds Among d sets _ (made_set Among (sort_in d) _ (elems_held (sort_in d) es are typed makes)))
    by_form own (ExprKind-F.Compare o a c) text (s, is_own, is_a, is_c) typed makes = subst (λ r. Goal (ExprKind-F.Compare o a c) r) (sym is_own) tt
    by_form own (ExprKind-F.Member e f) text (d, sets, is_own, is_f, is_e) typed makes = subst (λ r. Goal (ExprKind-F.Member e f) r) (sym is_own) tt
    by_form own (ExprKind-F.And a c) text (is_own, is_a, is_c) typed makes = subst (λ r. Goal (ExprKind-F.And a c) r) (sym is_own) tt
    by_form own (ExprKind-F.Or a c) text (is_own, is_a, is_c) typed makes = subst (λ r. Goal (ExprKind-F.Or a c) r) (sym is_own) tt
    by_form own (ExprKind-F.Not a) text (is_own, is_a) typed makes = subst (λ r. Goal (ExprKind-F.Not a) r) (sym is_own) tt
    by_form own (ExprKind-F.Arith o a c) text (is_own, is_a, is_c) typed makes = subst (λ r. Goal (ExprKind-F.Arith o a c) r) (sym is_own) (made.integers _)
    by_form own (ExprKind-F.Minus a) text (is_own, is_a) typed makes = subst (λ r. Goal (ExprKind-F.Minus a) r) (sym is_own) (made.integers _)
    by_form own (ExprKind-F.If c a e) text (is_c, is_a, is_e) typed makes =
        let others = rest_typed _ _ typed in
        branch_holds own (truth_in (M c at)) (M a at) (M e at) (subst (λ r. MeaningHolds Among r (M a at)) is_a (makes.1.0 vs (first_typed _ _ others) at suits held_there))
        (subst (λ r. MeaningHolds Among r (M e at)) is_e (makes.1.1.0 vs (rest_typed _ _ others) at suits held_there))
    by_form own (ExprKind-F.Bind x a e) text (s, t, is_own, is_a, is_e) typed makes =
        subst (λ r. Goal (ExprKind-F.Bind x a e) r) (sym is_own)
        (bind_holds Among s t (λ v. value_in (M e (with_bound at x v))) (value_inside e (flat t) s x (range a) is_e (ap elements_of is_a) (rest_typed _ _ typed) makes.1.0)
        (value_in (M a at)) (value_valid a (flat s) is_a (first_typed _ _ typed)) (value_held a (flat s) is_a (first_typed _ _ typed) makes.0))
    by_form own (ExprKind-F.Choose e x from None) text (d, u, alike, is_own, is_from, is_e, is_c) typed makes =
        subst (λ r. Goal (ExprKind-F.Choose e x from None) r) (sym is_own)
        (chosen_holds Among d u alike (λ v. elem_in (M e (with_bound at x v))) (λ v. true) (elem_inside e (sort_in d) (sort_in u) x (range from) is_e (ap elements_of is_from) (first_typed _ _ typed) makes.0)
        (value_in (M from at)) (value_valid from u is_from (rest_typed _ _ typed)) (value_held from u is_from (rest_typed _ _ typed) makes.1.0))
    by_form own (ExprKind-F.Choose e x from (Some c)) text (d, u, alike, is_own, is_from, is_e, is_c) typed makes =
        let from_typed = first_typed _ _ (rest_typed _ _ typed) in
        subst (λ r. Goal (ExprKind-F.Choose e x from (Some c)) r) (sym is_own)
        (chosen_holds Among d u alike (λ v. elem_in (M e (with_bound at x v))) (λ v. truth_in (M c (with_bound at x v))) (elem_inside e (sort_in d) (sort_in u) x (range from) is_e (ap elements_of is_from) (first_typed _ _ typed) makes.0)
        (value_in (M from at)) (value_valid from u is_from from_typed) (value_held from u is_from from_typed makes.1.0))
    by_form own (ExprKind-F.Fst a) text form typed makes = first_holds Among made.pairs own (range a) form (M a at) (sound a vs typed at suits) (makes.0 vs typed at suits held_there)
    by_form own (ExprKind-F.Snd a) text form typed makes = second_holds Among made.pairs own (range a) form (M a at) (sound a vs typed at suits) (makes.0 vs typed at suits held_there)
    by_form own (ExprKind-F.Both a c) text form typed makes =
        let first = first_typed _ _ typed in
        let rest = rest_typed _ _ typed in
        both_hold Among made.pairs own (range a) (range c) form (M a at) (M c at) (sound a vs first at suits) (sound c vs rest at suits) (makes.0 vs first at suits held_there) (makes.1.0 vs rest at suits held_there)
    by_form own (ExprKind-F.Update m k v) text (s, d, is_own, is_m, is_k, is_v) typed makes =
        let others = rest_typed _ _ typed in
        subst (λ r. Goal (ExprKind-F.Update m k v) r) (sym is_own)
        (map_holds Among s d _ (update_holds Among s d _ (elem_in (M k at)) (value_in (M v at)) (value_held m (map_to s d) is_m (first_typed _ _ typed) makes.0)
        (elem_held k s is_k (first_typed _ _ others) makes.1.0) (value_held v d is_v (rest_typed _ _ others) makes.1.1.0)))
    by_form own (ExprKind-F.Call f args) text (d, named, is_own, have) typed makes = subst (λ r. Goal (ExprKind-F.Call f args) r) (sym is_own) tt
    by_form own (ExprKind-F.MapOf ks ws) text (s, d, is_own, are_keys, are_values) typed makes =
        let typed_parts = split_typed (map (held vs) ks) (map (held vs) ws) typed in
        let made_parts = split_all MakesThese ks ws makes in
        subst (λ r. Goal (ExprKind-F.MapOf ks ws) r) (sym is_own)
        (map_holds Among s d _ (map_of_holds Among s d _ _ [] (nothing_holds Among s d) (elems_held s ks are_keys typed_parts.0 made_parts.0) (values_held d ws are_values typed_parts.1 made_parts.1)))

  by_its_parts : (e : Expr) → AllByRecursion IfGiven (parts_of e) → IfGiven e
  by_its_parts e parts is_given vs typed at suits held_there =
      let inner = inner_typed (held vs e) typed in
      let given_parts = all_from (Contains given) (parts_of e) (λ p among. has_parts e p is_given among) in
      let makes = both_all IfGiven (Contains given) MakesThese (λ p h k. h k) (parts_of e) parts given_parts in
      subst (λ (s : Sense). MeaningHolds Among (range e) (s at)) (sym (by_parts_out (λ e layer. form_meaning spec (domain_in (range e)) layer) e))
      (by_form vs at suits held_there (range e) (expr_layer e) (λ s is. made.texts e s is_given is) inner.0 inner.1 makes)

  pub all_made : (e : Expr) → IfGiven e
  all_made = by_induction IfGiven by_its_parts
