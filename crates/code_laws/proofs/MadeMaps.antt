-- The code of maps that are written out.
use Rattle.std.proofs.Common.{◌≡◌, ℕ, Bool, List, [], ◌∷◌, drop, slice_get, Option, refl, sym, ap, subst, ◌∙◌}
use Rattle.flow_term.specs.declared.elem.Elem.{Elem}
use Rattle.flow_term.specs.declared.value.Value.{Value}
use Rattle.flow_term.specs.declared.value.Value.TheVariants as value
use Rattle.flow_syntax.specs.declared.expr.Expr.{Expr, out-Expr}
use Rattle.flow_syntax.specs.declared.expr.ExprKind.{out-ExprKind}
use Rattle.flow_syntax.specs.declared.expr.ExprKind.TheOpen.{ExprKind-F}
use Rattle.flow_syntax.specs.declared.expr.ExprKind.TheVariants as exprs
use Rattle.flow_syntax.specs.declared.spec.Spec.{Spec}
use Rattle.flow_syntax.specs.declared.types.ExprType.{ExprType}
use Rattle.value_domains.specs.Domains.{Domain}
use Rattle.lattice_any.specs.declared.any.AnyL.{AnyL}
use Rattle.lattice_any.specs.declared.tables.DeclaredTable.{DeclaredTable}
use Rattle.lattice_any.specs.Types.{domain_of_any}
use Rattle.expr_meaning.specs.Meaning as meant
use Rattle.eval_code.specs.declared.code.ElemCode.{ElemCode}
use Rattle.eval_code.specs.declared.code.ValueCode.{ValueCode}
use Rattle.eval_code.specs.declared.code.ValueCode.TheVariants as value_code
use Rattle.eval_code.specs.Senses.{Given, given_value}
use Rattle.code_laws.specs.inner.Compiled.{a_value, HasValues, IsValueCode}
use Rattle.std.proofs.Common.{map}
use Rattle.std.specs.List.{flat_map, AllByRecursion}
use Rattle.flow_syntax.specs.Expressions.{preorder}
use Rattle.flow_syntax.proofs.ExprLayers.{layer_of_map_of}
use Rattle.value_domains.specs.Domains.{IsValueOf}
use Rattle.value_domains.specs.Values.{entries_of}
use Rattle.expr_meaning.specs.Ranges.{values, elements, domain_in}
use Rattle.expr_meaning.specs.Meaning.{Situation, key_values, map_of, value_in, values_in}
use Rattle.expr_meaning.specs.Typing.{AreTyped, Suits, Variable, held}
use Rattle.expr_meaning.proofs.TypedParts.{rest_typed, split_typed}
use Rattle.flow_modes.specs.inner.Walked.{AgreeWith, behind}
use Rattle.eval_code.specs.declared.code.EntryCode.{roll-EntryCode, fold-roll-EntryCode}
use Rattle.eval_code.specs.Needs.{Slots, IsMet, all_of}
use Rattle.eval_code.specs.Senses.{made_map, all_fit, given_elem, given_entry, given_two, elem_layer, truth_layer, value_layer, choice_layer, entry_layer}
use Rattle.code_laws.specs.Codes.{value_meant, slots_at, names_of}
use Rattle.code_laws.specs.inner.Compiled.{Setting, AreElemCodes, AreValueCodes, entries_from}
use Rattle.code_laws.proofs.CodeLists.{AreMeant, elems_same, elems_met, values_same, values_met, has_kinds}
use Rattle.code_laws.proofs.Given.{value_map}
use Rattle.code_laws.proofs.OwnTypes.{own_values}
use Rattle.code_laws.proofs.RangeFacts.{value_range}
use Rattle.code_laws.proofs.ValueForms.{by_given}
use Rattle.code_laws.proofs.Walks.{M, agree_split, behind_both, flat_more, whole, is_sound}

-- ENTRIES

entry_given : (k : ElemCode) (v : ValueCode) → given_entry (roll-EntryCode (record { key = k; value = v })) ≡ given_two (λ k v. (k, v)) (given_elem k) (given_value v)
entry_given k v = fold-roll-EntryCode (Given Elem) (Given Bool) (Given Value) (Given Value) (Given (Elem × Value)) elem_layer truth_layer value_layer choice_layer entry_layer (record { key = k; value = v })

entries_same : (at : Slots) (ks : List ElemCode) (vs : List ValueCode)
    → map (λ g. g.sense at) (map given_entry (entries_from ks vs)) ≡ key_values (map (λ g. g.sense at) (map given_elem ks)) (map (λ g. g.sense at) (map given_value vs))
entries_same at [] vs = refl
entries_same at (k ∷ ks) [] = refl
entries_same at (k ∷ ks) (v ∷ vs) = λ i. (entry_given k v i).sense at ∷ entries_same at ks vs i

entries_met : (at : Slots) (ks : List ElemCode) (vs : List ValueCode) → IsMet (all_of (map (λ g. g.demand at) (map given_elem ks))) → IsMet (all_of (map (λ g. g.demand at) (map given_value vs)))
    → IsMet (all_of (map (λ g. g.demand at) (map given_entry (entries_from ks vs))))
entries_met at [] vs h k = tt
entries_met at (c ∷ cs) [] h k = tt
entries_met at (c ∷ cs) (v ∷ vs) h k = (subst (λ g. IsMet (g.demand at)) (sym (entry_given c v)) (h.0, k.0), entries_met at cs vs h.1 k.1)

entries_fit : (d : Domain) (xs : List Elem) (vs : List Value) → AllByRecursion (IsValueOf d) vs → IsMet (all_fit d (key_values xs vs))
entries_fit d [] vs h = tt
entries_fit d (x ∷ xs) [] h = tt
entries_fit d (x ∷ xs) (v ∷ vs) h = (h.0, entries_fit d xs vs h.1)

values_fit : {spec : Spec} {tables : List DeclaredTable} (names : List (List ℕ)) (s : Setting spec tables) (vs : List Variable) (at : Situation) (suits : Suits s.usable vs at) (bound : names_of at.bindings ≡ names) (d : Domain)
    → (es : List Expr) (cs : List ValueCode) → AreTyped spec s.usable s.range (map (held vs) es) → AllByRecursion (λ e. s.range e ≡ values d) es → AreMeant names s vs at suits bound es (map value_meant cs)
    → AllByRecursion (IsValueOf d) (map (λ g. g.sense (slots_at s.usable at)) (map given_value cs))
values_fit names s vs at suits bound d [] [] typed are h = tt
values_fit names s vs at suits bound d [] (c ∷ cs) typed are h = absurd h
values_fit names s vs at suits bound d (e ∷ es) [] typed are h = absurd h
values_fit names s vs at suits bound d (e ∷ es) (c ∷ cs) typed are h = (
  value_range d _ (s.range e) (M s e at) are.0 (h.0.gives at suits bound) (is_sound s vs e _ typed at suits),
  values_fit names s vs at suits bound d es cs (rest_typed _ _ typed) are.1 h.1,
)

module _ {spec : Spec} {tables : List DeclaredTable} (names : List (List ℕ)) (e : Expr) (ts : List ExprType) where
  pub map_code : (ks ws : List Expr) (l : AnyL) (o : Option ExprType) (first mid rest : List ExprType) (cs : List ElemCode) (ds : List ValueCode) → (out-Expr e).kind ≡ exprs.MapOf ks ws → first ≡ drop 1 ts → o ≡ slice_get ts 0
      → HasValues tables o (domain_of_any l) → AreElemCodes spec tables names ks first cs mid → AreValueCodes spec tables names ws mid ds rest → IsValueCode spec tables names e ts (value_code.Map l (entries_from cs ds)) rest
  map_code ks ws l o first mid rest cs ds is moved own has_values keys others =
      by_given names e ts _ rest _ (value_map l (entries_from cs ds))
      (whole names a_value e (ExprKind-F.MapOf ks ws) ts rest _ (ap out-ExprKind is ∙ layer_of_map_of ks ws)
      (λ s vs inside has.
      let form = inside.form in
      let typed = split_typed (map (held vs) ks) (map (held vs) ws) inside.typed in
      let split = agree_split spec.lattices s.range (flat_map preorder ks) (flat_map preorder ws) (drop 1 ts) (subst (λ (xs : List Expr). AgreeWith spec.lattices s.range xs (drop 1 ts)) (flat_more ks ws) inside.agree) in
      let before = (subst (λ us. AreElemCodes spec tables names ks us cs mid) moved keys).found s vs typed.0 split.0 (has_kinds (λ e. s.range e ≡ elements form.0) _ (λ e h. (_, h)) ks form.3) in
      let after = others.found s vs typed.1 (subst (AgreeWith spec.lattices s.range (flat_map preorder ws)) before.1 split.1) (has_kinds (λ e. s.range e ≡ values form.1) _ (λ e h. (_, h)) ws form.4) in
      let same = own_values s (s.range e) ts o form.0 form.1 (domain_of_any l) inside.beside own form.2 has_values in
      let is_values = same ∙ sym (ap (λ r. values_in (domain_in r)) form.2) in (
        record {
          gives = λ at suits bound.
              ap (λ es. meant.a_value (made_map (domain_of_any l) es)) (entries_same (slots_at s.usable at) cs ds)
              ∙ (λ i. meant.a_value (value.Map (entries_of (map_of (is_values i) [] (key_values (elems_same names s vs at suits bound ks cs before.0 i) (values_same names s vs at suits bound ws ds after.0 i))))));
          needs = λ at suits bound.
              let fit = values_fit names s vs at suits bound (domain_of_any l) ws ds typed.1 (has_kinds (λ e. s.range e ≡ values form.1) _ (λ e h. h ∙ ap values (sym same)) ws form.4) after.0 in (
                entries_met (slots_at s.usable at) cs ds (elems_met names s vs at suits bound ks cs before.0) (values_met names s vs at suits bound ws ds after.0),
                subst (λ es. IsMet (all_fit (domain_of_any l) es)) (sym (entries_same (slots_at s.usable at) cs ds)) (entries_fit (domain_of_any l) _ _ fit),
              );
        },
        ap (λ (xs : List Expr). behind xs (drop 1 ts)) (flat_more ks ws) ∙ behind_both (flat_map preorder ks) (flat_map preorder ws) (drop 1 ts) ∙ ap (behind (flat_map preorder ws)) before.1 ∙ after.1,
      )))
