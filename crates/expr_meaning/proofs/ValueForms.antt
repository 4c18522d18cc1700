-- Forms of values in a domain follow their parts: joins, maps, flat values, pairs and conditions.
use Rattle.std.proofs.Common.{◌≡◌, Bool, true, false, cond, not, ◌&&◌, ◌||◌, List, [], ◌∷◌, Some, None, refl, sym, ap, subst, ◌∙◌, inl, inr}
use Rattle.std.specs.Prelude.{unwrap_or, bytes_eq}
use Rattle.std.specs.Ordering.{eq_by_cmp}
use Rattle.std.specs.BTreeMap.{is_at, insert_entry}
use Rattle.std.proofs.lemmas.Bool.{true≢false, and_parts, and_from, or_cases, or_left, or_right}
use Rattle.std.proofs.lemmas.Map.Entries.{lookup-filter-keys}
use Rattle.std.proofs.lemmas.Slice.Eq.{bytes_eq-Decides}
use Rattle.flow_term.specs.declared.elem.Elem.{Elem}
use Rattle.flow_term.specs.declared.value.Value.{Value, Value-F, out-Value, roll-Value, out-roll-Value, roll-out-Value}
use Rattle.flow_term.specs.declared.value.Value.TheVariants as value
use Rattle.flow_term.specs.Elements.{elem_cmp}
use Rattle.flow_syntax.specs.Types.{Sort}
use Rattle.value_domains.specs.Values.{ValueLayer, elems_in, map_in, left_in, right_in, value_at, value_or, entries_of, entries_in, pairs_of, IsMay, IsMust, IsFlat, IsMapTo, IsPairOf, IsBelowFlat}
use Rattle.lattice_base.specs.Laws.{IsJoinOrder}
use Rattle.lattice_base.proofs.Orders.{join_order}
use Rattle.lattice_sets.specs.MapLaws.{value_insert}
use Rattle.lattice_sets.specs.SetLaws.{same_tied}
use Rattle.value_domains.specs.inner.Elements.{elem_total, elem_exact}
use Rattle.value_domains.specs.Lawful.{IsLawful}
use Rattle.value_domains.specs.inner.DomainLaws.{domain_laws, domain_order, pairs_back}
use Rattle.value_domains.specs.Domains.{Domain, may, must, flat, map_to, pair_of, listed, Table, IsListed, item_in, IsValueOf, least_of, joined_of, IsBelowIn}
use Rattle.expr_meaning.specs.Meaning.{is_least, is_empty, is_unreached, is_bottom, without_key, updated, bind_value}

-- the order of a domain
pub order_of : (d : Domain) → IsLawful d → IsJoinOrder (IsValueOf d) (least_of d) (joined_of d) (IsBelowIn d)
order_of d lawful = join_order (IsValueOf d) (least_of d) (joined_of d) (IsBelowIn d) (domain_laws d lawful) (domain_order d lawful)

-- JOINS

pub join_rises : (d : Domain) → IsLawful d → (a1 a2 b1 b2 : Value) → IsValueOf d a1 → IsValueOf d a2 → IsValueOf d b1 → IsValueOf d b2
    → IsBelowIn d a1 a2 → IsBelowIn d b1 b2 → IsBelowIn d (joined_of d a1 b1) (joined_of d a2 b2)
join_rises d lawful a1 a2 b1 b2 va1 va2 vb1 vb2 h k =
    let o = order_of d lawful in
    let v = (domain_laws d lawful).joined_valid a2 b2 va2 vb2 in
    o.joined_below a1 b1 (joined_of d a2 b2) va1 vb1 v
    (o.transitive a1 a2 (joined_of d a2 b2) va1 va2 v h (o.left_below a2 b2 va2 vb2))
    (o.transitive b1 b2 (joined_of d a2 b2) vb1 vb2 v k (o.right_below a2 b2 va2 vb2))

-- THE LEAST VALUE

empty_is : {X : Type 0} (xs : List X) → is_empty xs ≡ true → xs ≡ []
empty_is [] h = refl
empty_is (x ∷ xs) h = absurd (true≢false (sym h))

module _ (sort : Sort) where
  least_may : (l : ValueLayer) → IsMay sort l → is_empty (elems_in l) ≡ true → roll-Value l ≡ value.Set []
  least_may (Value-F.Set xs) v h = value.rolls-Set xs ∙ ap value.Set (empty_is xs h)
  least_may _ v h = absurd v

  least_must : (l : ValueLayer) → IsMust sort l → is_unreached l ≡ true → roll-Value l ≡ value.Unreached
  least_must Value-F.Unreached v h = value.rolls-Unreached
  least_must _ v h = absurd (true≢false (sym h))

  least_flat : (l : ValueLayer) → IsFlat sort l → is_bottom l ≡ true → roll-Value l ≡ value.Bottom
  least_flat Value-F.Bottom v h = value.rolls-Bottom
  least_flat _ v h = absurd (true≢false (sym h))

least_map : (sort : Sort) (inner : Domain) (l : ValueLayer) → IsMapTo sort (IsValueOf inner) (least_of inner) l → is_empty (pairs_of (entries_in l)) ≡ true → roll-Value l ≡ value.Map []
least_map sort inner (Value-F.Map []) v h = value.rolls-Map []
least_map sort inner (Value-F.Map (e ∷ es)) v h = absurd (true≢false (sym h))
least_map sort inner _ v h = absurd v

least_pair : (left right : Domain) (l : ValueLayer) → IsPairOf (IsValueOf left) (IsValueOf right) l → (is_least left (left_in l) && is_least right (right_in l)) ≡ true
    → ((w : Value) → IsValueOf left w → is_least left w ≡ true → w ≡ least_of left) → ((w : Value) → IsValueOf right w → is_least right w ≡ true → w ≡ least_of right)
    → roll-Value l ≡ value.Pair (least_of left) (least_of right)
least_pair left right (Value-F.Pair a b) v h f g =
    let parts = and_parts (is_least left a) (is_least right b) h in
    value.rolls-Pair a b ∙ (λ i. value.Pair (f a v.0 parts.0 i) (g b v.1 parts.1 i))
least_pair left right _ v h f g = absurd v

least_listed : (t : Table) (l : ValueLayer) → IsListed t l → bytes_eq (item_in l) t.bottom ≡ true → roll-Value l ≡ value.Item t.bottom
least_listed t (Value-F.Item x) v h = value.rolls-Item x ∙ ap value.Item ((bytes_eq-Decides x t.bottom).0 h)
least_listed t _ v h = absurd v

pub is_least_right : (d : Domain) (v : Value) → IsValueOf d v → is_least d v ≡ true → v ≡ least_of d
is_least_right (may sort) v valid h = sym (roll-out-Value v) ∙ least_may sort (out-Value v) valid h
is_least_right (must sort) v valid h = sym (roll-out-Value v) ∙ least_must sort (out-Value v) valid h
is_least_right (flat sort) v valid h = sym (roll-out-Value v) ∙ least_flat sort (out-Value v) valid h
is_least_right (map_to sort inner) v valid h = sym (roll-out-Value v) ∙ least_map sort inner (out-Value v) valid h
is_least_right (pair_of left right) v valid h = sym (roll-out-Value v) ∙ least_pair left right (out-Value v) valid h (λ w. is_least_right left w) (λ w. is_least_right right w)
is_least_right (listed t) v valid h = sym (roll-out-Value v) ∙ least_listed t (out-Value v) valid h

-- MAPS

chosen_by : {A : Type 0} (b : Bool) (x y z : A) → cond b x z ≡ cond b x (cond b y z)
chosen_by true x y z = refl
chosen_by false x y z = refl

turned_round : {A : Type 0} (b : Bool) (x y : A) → cond (not b) x y ≡ cond b y x
turned_round true x y = refl
turned_round false x y = refl

value_without : (m : List (Elem × Value)) (k q : Elem) → value_at (without_key m k) q ≡ cond (eq_by_cmp elem_cmp q k) None (value_at m q)
value_without m k q =
    lookup-filter-keys (is_at (elem_cmp q)) (λ x. not (eq_by_cmp elem_cmp x k)) (not (eq_by_cmp elem_cmp q k))
    (λ x h. ap (λ y. not (eq_by_cmp elem_cmp y k)) (sym (same_tied elem_cmp elem_total elem_exact q x h))) m
    ∙ turned_round (eq_by_cmp elem_cmp q k) (value_at m q) None

-- the value of an updated map at a key
pub value_updated : (d : Domain) (m : List (Elem × Value)) (k : Elem) (v : Value) → IsValueOf d v → (q : Elem)
    → value_or (least_of d) (updated d m k v) q ≡ cond (eq_by_cmp elem_cmp q k) v (value_or (least_of d) m q)
value_updated d m k v valid q = by (is_least d v) refl
  where
    taken_out : (b : Bool) → v ≡ least_of d → unwrap_or (cond b None (value_at m q)) (least_of d) ≡ cond b v (value_or (least_of d) m q)
    taken_out true e = sym e
    taken_out false e = refl

    put_in : (b : Bool) → unwrap_or (cond b (Some v) (value_at m q)) (least_of d) ≡ cond b v (value_or (least_of d) m q)
    put_in true = refl
    put_in false = refl

    by : (b : Bool) → is_least d v ≡ b → value_or (least_of d) (cond b (without_key m k) (insert_entry elem_cmp m k v)) q ≡ cond (eq_by_cmp elem_cmp q k) v (value_or (least_of d) m q)
    by true e = ap (λ o. unwrap_or o (least_of d)) (value_without m k q) ∙ taken_out (eq_by_cmp elem_cmp q k) (is_least_right d v valid e)
    by false e = ap (λ o. unwrap_or o (least_of d)) (value_insert elem_cmp elem_total elem_exact k v m q) ∙ put_in (eq_by_cmp elem_cmp q k)

-- one map is below another at each key
abbrev pub MapBelow : Domain → List (Elem × Value) → List (Elem × Value) → Type 0
MapBelow d m1 m2 = (q : Elem) → IsBelowIn d (value_or (least_of d) m1 q) (value_or (least_of d) m2 q)

pub update_rises : (d : Domain) (m1 m2 : List (Elem × Value)) (k : Elem) (v1 v2 : Value) → IsValueOf d v1 → IsValueOf d v2
    → MapBelow d m1 m2 → IsBelowIn d v1 v2 → MapBelow d (updated d m1 k v1) (updated d m2 k v2)
update_rises d m1 m2 k v1 v2 valid1 valid2 h below q =
    subst (λ x. IsBelowIn d x (value_or (least_of d) (updated d m2 k v2) q)) (sym (value_updated d m1 k v1 valid1 q))
    (subst (λ y. IsBelowIn d (cond (eq_by_cmp elem_cmp q k) v1 (value_or (least_of d) m1 q)) y) (sym (value_updated d m2 k v2 valid2 q)) (by (eq_by_cmp elem_cmp q k)))
  where
    by : (b : Bool) → IsBelowIn d (cond b v1 (value_or (least_of d) m1 q)) (cond b v2 (value_or (least_of d) m2 q))
    by true = below
    by false = h q

-- the map in a map's value
pub map_back : (m : List (Elem × Value)) → map_in (out-Value (value.Map (entries_of m))) ≡ m
map_back m = ap (λ l. pairs_of (entries_in l)) (value.outs-Map (entries_of m)) ∙ pairs_back m

-- FLAT VALUES

pub below_top : (l : ValueLayer) → IsBelowFlat l Value-F.Top
below_top Value-F.Bottom = tt
below_top _ = tt

-- what is bound to a flat value's element rises with it and with what the element gives
pub bind_rises : (f1 f2 : Elem → Value) (x1 x2 : ValueLayer) → IsBelowFlat x1 x2 → ((e : Elem) → x1 ≡ Value-F.Flat e → x2 ≡ Value-F.Flat e → IsBelowFlat (out-Value (f1 e)) (out-Value (f2 e)))
    → IsBelowFlat (out-Value (bind_value f1 x1)) (out-Value (bind_value f2 x2))
bind_rises f1 f2 Value-F.Bottom x2 h k = subst (λ l. IsBelowFlat l (out-Value (bind_value f2 x2))) (sym (out-roll-Value Value-F.Bottom)) tt
bind_rises f1 f2 (Value-F.Flat e) (Value-F.Flat g) h k = subst (λ y. IsBelowFlat (out-Value (f1 e)) (out-Value (f2 y))) h (k e refl (ap Value-F.Flat (sym h)))
bind_rises f1 f2 (Value-F.Flat e) Value-F.Top h k = subst (IsBelowFlat (out-Value (f1 e))) (sym (out-roll-Value Value-F.Top)) (below_top (out-Value (f1 e)))
bind_rises f1 f2 (Value-F.Flat e) _ h k = absurd h
bind_rises f1 f2 Value-F.Top Value-F.Top h k = subst (λ l. IsBelowFlat l (out-Value (roll-Value Value-F.Top))) (sym (out-roll-Value Value-F.Top)) (subst (IsBelowFlat Value-F.Top) (sym (out-roll-Value Value-F.Top)) tt)
bind_rises f1 f2 Value-F.Top _ h k = absurd h
bind_rises f1 f2 _ Value-F.Top h k = subst (IsBelowFlat _) (sym (out-roll-Value Value-F.Top)) (below_top _)
bind_rises f1 f2 _ _ h k = absurd h

-- TRUTHS

abbrev pub Implies : Bool → Bool → Type 0
Implies a b = a ≡ true → b ≡ true

pub and_rises : (a1 a2 b1 b2 : Bool) → Implies a1 a2 → Implies b1 b2 → Implies (a1 && b1) (a2 && b2)
and_rises a1 a2 b1 b2 h k e = let parts = and_parts a1 b1 e in and_from a2 b2 (h parts.0) (k parts.1)

pub or_rises : (a1 a2 b1 b2 : Bool) → Implies a1 a2 → Implies b1 b2 → Implies (a1 || b1) (a2 || b2)
or_rises a1 a2 b1 b2 h k e = elim (or_cases a1 b1 e) [ inl x ↦ or_left a2 b2 (h x) | inr y ↦ or_right a2 b2 (k y) ]

pub not_falls : (a1 a2 : Bool) → Implies a1 a2 → Implies (not a2) (not a1)
not_falls false a2 h e = refl
not_falls true a2 h e = sym (ap not (h refl)) ∙ e

-- CONDITIONS

-- what is the least value where the condition doesn't hold
pub guard_rises : (d : Domain) → IsLawful d → (c1 c2 : Bool) (a1 a2 : Value) → IsValueOf d a2 → Implies c1 c2 → IsBelowIn d a1 a2 → IsBelowIn d (cond c1 a1 (least_of d)) (cond c2 a2 (least_of d))
guard_rises d lawful false false a1 a2 valid h k = (order_of d lawful).reflexive (least_of d) (domain_laws d lawful).least_valid
guard_rises d lawful false true a1 a2 valid h k = (order_of d lawful).least_below a2 valid
guard_rises d lawful true true a1 a2 valid h k = k
guard_rises d lawful true false a1 a2 valid h k = absurd (true≢false (sym (h refl)))
