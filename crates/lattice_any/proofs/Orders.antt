-- One value is below another where the join of the two is the other, by the lattice's case.
use Rattle.std.proofs.Common.{◌≡◌, ◌↔◌, ℕ, Bool, true, false, List, sym, ap, ◌∙◌, subst}
use Rattle.std.specs.Ordering.{eq_by_cmp}
use Rattle.std.proofs.lemmas.Bool.{both_ways}
use Rattle.flow_term.specs.declared.elem.Elem.{Elem}
use Rattle.flow_term.specs.declared.value.Value.{Value, Value-F, out-Value, roll-out-Value}
use Rattle.flow_term.specs.declared.value.Value.TheVariants as value
use Rattle.flow_term.specs.declared.value.Entry.{Entry}
use Rattle.flow_term.specs.Elements.{elem_cmp}
use Rattle.flow_syntax.specs.declared.types.ElemSort.{ElemSort}
use Rattle.lattice_any.specs.declared.any.AnyL.{AnyL}
use Rattle.lattice_any.specs.declared.any.AnyL.TheVariants as any
use Rattle.value_domains.specs.inner.DomainLaws.{map_opened, map_whole, pair_whole}
use Rattle.flow_syntax.specs.Types.{sort_of}
use Rattle.value_domains.specs.Domains.{Domain, may, must, flat, map_to, pair_of, listed, IsBelowIn, IsValueOf, item_in, joined_of, table_join}
use Rattle.value_domains.specs.Values.{map_join, Includes, IsBelowMust, IsBelowFlat, elems_in, entries_in, map_in, left_in, right_in, pairs_of, entries_of}
use Rattle.lattice_any.specs.TypeLaws.{any_laws, any_order}
use Rattle.lattice_any.specs.declared.named.NamedTable.{NamedTable}
use Rattle.lattice_any.specs.Tables.{table_of_names}
use Rattle.lattice_any.specs.Types.{domain_of_any}
use Rattle.lattice_any.proofs.SameValues.{elem_told}
use Rattle.lattice_any.proofs.AtTypes.{is_may, is_must, is_flat, is_map, is_pair, is_table, valid_at, join_at}

-- -- at two layers

pub below_flats : (a b : Value) (x y : Elem) (r : Bool) → a ≡ value.Flat x → b ≡ value.Flat y → r ≡ eq_by_cmp elem_cmp x y → (r ≡ true) ↔ IsBelowFlat (out-Value a) (out-Value b)
below_flats a b x y r e f is =
    subst (λ l. (r ≡ true) ↔ IsBelowFlat l (out-Value b)) (sym (ap out-Value e ∙ value.outs-Flat x))
    (subst (λ l. (r ≡ true) ↔ IsBelowFlat (Value-F.Flat x) l) (sym (ap out-Value f ∙ value.outs-Flat y)) (elem_told x y r is))

pub below_sets : (a b : Value) (xs ys us vs : List Elem) (r : Bool) → a ≡ value.Set xs → b ≡ value.Set ys → us ≡ xs → vs ≡ ys → (r ≡ true) ↔ Includes us vs → (r ≡ true) ↔ IsBelowMust (out-Value a) (out-Value b)
below_sets a b xs ys us vs r e f g h is =
    subst (λ l. (r ≡ true) ↔ IsBelowMust l (out-Value b)) (sym (ap out-Value e ∙ value.outs-Set xs))
    (subst (λ l. (r ≡ true) ↔ IsBelowMust (Value-F.Set xs) l) (sym (ap out-Value f ∙ value.outs-Set ys))
    (subst (λ zs. (r ≡ true) ↔ Includes zs ys) g (subst (λ zs. (r ≡ true) ↔ Includes us zs) h is)))

-- -- at a lattice

module _ (l : AnyL) (a b : Value) (left : IsValueOf (domain_of_any l) a) (right : IsValueOf (domain_of_any l) b) where
  by_join : (k : Domain) (r : Bool) → domain_of_any l ≡ k → (r ≡ true) ↔ IsBelowIn k a b → (r ≡ true) ↔ (joined_of (domain_of_any l) a b ≡ b)
  by_join k r e is =
      let order = any_order l a b left right in
      (λ h. order.0 (subst (λ k. IsBelowIn k a b) (sym e) (is.0 h)), λ j. is.1 (subst (λ k. IsBelowIn k a b) e (order.1 j)))

  pub may_below : (sort : ElemSort) (xs ys : List Elem) (r : Bool) → l ≡ any.May sort → xs ≡ elems_in (out-Value b) → ys ≡ elems_in (out-Value a) → (r ≡ true) ↔ Includes xs ys → (r ≡ true) ↔ (joined_of (domain_of_any l) a b ≡ b)
  may_below sort xs ys r e f g is =
      by_join (may (sort_of sort)) r (is_may l sort e) (subst (λ zs. (r ≡ true) ↔ Includes zs (elems_in (out-Value a))) f (subst (λ zs. (r ≡ true) ↔ Includes xs zs) g is))

  pub must_below : (sort : ElemSort) (r : Bool) → l ≡ any.Must sort → (r ≡ true) ↔ IsBelowMust (out-Value a) (out-Value b) → (r ≡ true) ↔ (joined_of (domain_of_any l) a b ≡ b)
  must_below sort r e is = by_join (must (sort_of sort)) r (is_must l sort e) is

  pub flat_below : (sort : ElemSort) (r : Bool) → l ≡ any.Flat sort → (r ≡ true) ↔ IsBelowFlat (out-Value a) (out-Value b) → (r ≡ true) ↔ (joined_of (domain_of_any l) a b ≡ b)
  flat_below sort r e is = by_join (flat (sort_of sort)) r (is_flat l sort e) is

  pub table_below : (n : NamedTable) (x y : List ℕ) (r : Bool) → l ≡ any.Table n → x ≡ item_in (out-Value a) → y ≡ item_in (out-Value b) → (r ≡ true) ↔ (table_join (table_of_names n) x y ≡ y)
      → (r ≡ true) ↔ (joined_of (domain_of_any l) a b ≡ b)
  table_below n x y r e f g is =
      by_join (listed (table_of_names n)) r (is_table l n e)
      (subst (λ x. (r ≡ true) ↔ (table_join (table_of_names n) x (item_in (out-Value b)) ≡ item_in (out-Value b))) f (subst (λ y. (r ≡ true) ↔ (table_join (table_of_names n) x y ≡ y)) g is))

  pub map_below : (sort : ElemSort) (values : AnyL) (xs ys : List Entry) (r : Bool) → l ≡ any.Map sort values → xs ≡ entries_in (out-Value a) → ys ≡ entries_in (out-Value b)
      → (r ≡ true) ↔ (map_join (joined_of (domain_of_any values)) (pairs_of xs) (pairs_of ys) ≡ pairs_of ys) → (r ≡ true) ↔ (joined_of (domain_of_any l) a b ≡ b)
  map_below sort values xs ys r e f g is =
      let joined = map_join (joined_of (domain_of_any values)) (map_in (out-Value a)) (map_in (out-Value b)) in
      let joins : joined_of (domain_of_any l) a b ≡ value.Map (entries_of joined) = join_at l (map_to (sort_of sort) (domain_of_any values)) a b (is_map l sort values e) in
      let whole : value.Map (entries_of (map_in (out-Value b))) ≡ b =
      map_whole (sort_of sort) (domain_of_any values) (any_laws values) (out-Value b) (valid_at l (map_to (sort_of sort) (domain_of_any values)) b (is_map l sort values e) right) ∙ roll-out-Value b in
      let at_b : (r ≡ true) ↔ (joined ≡ map_in (out-Value b)) =
      subst (λ zs. (r ≡ true) ↔ (map_join (joined_of (domain_of_any values)) (pairs_of zs) (map_in (out-Value b)) ≡ map_in (out-Value b))) f
      (subst (λ zs. (r ≡ true) ↔ (map_join (joined_of (domain_of_any values)) (pairs_of xs) (pairs_of zs) ≡ pairs_of zs)) g is) in
      (λ h. joins ∙ ap (λ m. value.Map (entries_of m)) (at_b.0 h) ∙ whole, λ j. at_b.1 (sym (map_opened joined) ∙ ap (λ v. map_in (out-Value v)) (sym joins ∙ j)))

  pub pair_below : (first second : AnyL) (a1 a2 b1 b2 : Value) → l ≡ any.Pair first second → a1 ≡ left_in (out-Value a) → a2 ≡ right_in (out-Value a) → b1 ≡ left_in (out-Value b) → b2 ≡ right_in (out-Value b)
      → ((joined_of (domain_of_any first) a1 b1 ≡ b1) × (joined_of (domain_of_any second) a2 b2 ≡ b2)) ↔ (joined_of (domain_of_any l) a b ≡ b)
  pair_below first second a1 a2 b1 b2 e f1 f2 g1 g2 =
      let one = joined_of (domain_of_any first) (left_in (out-Value a)) (left_in (out-Value b)) in
      let other = joined_of (domain_of_any second) (right_in (out-Value a)) (right_in (out-Value b)) in
      let joins : joined_of (domain_of_any l) a b ≡ value.Pair one other = join_at l (pair_of (domain_of_any first) (domain_of_any second)) a b (is_pair l first second e) in
      let whole : value.Pair (left_in (out-Value b)) (right_in (out-Value b)) ≡ b =
      pair_whole (domain_of_any first) (domain_of_any second) (any_laws first) (any_laws second) (out-Value b) (valid_at l (pair_of (domain_of_any first) (domain_of_any second)) b (is_pair l first second e) right) ∙ roll-out-Value b in
      let ones : joined_of (domain_of_any first) a1 b1 ≡ one = λ i. joined_of (domain_of_any first) (f1 i) (g1 i) in
      let others : joined_of (domain_of_any second) a2 b2 ≡ other = λ i. joined_of (domain_of_any second) (f2 i) (g2 i) in
      let opened : out-Value (value.Pair one other) ≡ out-Value b → (one ≡ left_in (out-Value b)) × (other ≡ right_in (out-Value b)) =
      λ h. (ap left_in (sym (value.outs-Pair one other) ∙ h), ap right_in (sym (value.outs-Pair one other) ∙ h)) in (
        λ h. joins ∙ (λ i. value.Pair ((sym ones ∙ h.0 ∙ g1) i) ((sym others ∙ h.1 ∙ g2) i)) ∙ whole,
        λ j. let parts = opened (ap out-Value (sym joins ∙ j)) in (ones ∙ parts.0 ∙ sym g1, others ∙ parts.1 ∙ sym g2),
      )

-- two answers, the second asked only where the first is true
pub both_answers : {P Q S : Type 0} (s : Bool) → P → (s ≡ true) ↔ Q → (P × Q) ↔ S → (s ≡ true) ↔ S
both_answers s p second iff = (λ h. iff.0 (p, second.0 h), λ x. second.1 (iff.1 x).1)

pub first_answer : {P Q S : Type 0} (r : Bool) → r ≡ false → (r ≡ true) ↔ P → (P × Q) ↔ S → (r ≡ true) ↔ S
first_answer r missed first iff = (λ h. absurd (both_ways r missed h), λ x. first.1 (iff.1 x).0)
