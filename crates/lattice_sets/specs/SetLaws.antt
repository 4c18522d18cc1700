-- Rising lists as sets: what the operations have, and that rising lists with the same items are equal.
use Rattle.std.proofs.Common.{◌≡◌, Bool, true, false, not, ◌||◌, ◌&&◌, List, [], ◌∷◌, refl, sym, ap, ◌∙◌, inl, inr}
use Rattle.std.specs.Prelude.{Contains, ◌⊎◌, ◌↔◌}
use Rattle.std.specs.declared.cmp.Ordering.{Ordering}
use Rattle.std.specs.declared.cmp.Ordering.TheVariants.{Less, Equal, Greater}
use Rattle.std.specs.Ordering.{eq_by_cmp, match_ordering, ordering_reverse}
use Rattle.std.specs.Cmp.{IsTotalOrder, tied_itself, Equal-is, eq_by_cmp_equiv}
use Rattle.std.specs.Bool.{Decides}
use Rattle.std.specs.List.{AllByRecursion, filter}
use Rattle.std.specs.List.Sorted.{IsStrictlySortedBy}
use Rattle.std.specs.BTreeSet.{insert_key}
use Rattle.std.proofs.Math.Bool.{or_comm, or_assoc, or-false, or_self_left, and_comm}
use Rattle.std.proofs.lemmas.Bool.{or_cases, or_left, or_right, and_parts, and_from, false_from_ne_true, both_ways, not-true, not_from_false}
use Rattle.std.proofs.lemmas.List.Kept.{IsStrictlySortedBy-filter}
use Rattle.std.proofs.lemmas.Map.Lookups.{btree_set_from_contains}
use Rattle.std.proofs.lemmas.Map.Views.{Contains-from_any, list_any-from_Contains, any-filter_same}
use Rattle.lattice_sets.specs.Sets.{IsUnion, IsIntersection, IsDifference, has_item, union_of, intersection_of, difference_of}

pub less≢equal : Less ≡ Equal → ⊥
less≢equal e = cc

pub greater≢equal : Greater ≡ Equal → ⊥
greater≢equal e = cc

-- each item of the list is above x
abbrev pub Above : {E : Type 0} → (E → E → Ordering) → E → List E → Type 0
Above R x ys = AllByRecursion (λ y. R x y ≡ Less) ys

module _ {E : Type 0} (R : E → E → Ordering) (o : IsTotalOrder R) where
  pub flip_greater : (x y : E) → R x y ≡ Greater → R y x ≡ Less
  flip_greater x y e = o.antisymm y x ∙ ap ordering_reverse e

  pub flip_less : (x y : E) → R x y ≡ Less → R y x ≡ Greater
  flip_less x y e = o.antisymm y x ∙ ap ordering_reverse e

  pub above_lower : (x y : E) (zs : List E) → R x y ≡ Less → Above R y zs → Above R x zs
  above_lower x y [] e h = tt
  above_lower x y (z ∷ zs) e h = (o.trans x y z e h.0, above_lower x y zs e h.1)

  above_insert : (x k : E) (ys : List E) → R x k ≡ Less → Above R x ys → Above R x (insert_key R ys k)
  above_insert x k [] e h = (e, tt)
  above_insert x k (y ∷ ys) e h =
      elim (R k y) as (λ r. Above R x (match_ordering r (k ∷ y ∷ ys) (y ∷ ys) (y ∷ insert_key R ys k))) [
        | Less ↦ (e, h)
        | Equal ↦ h
        | Greater ↦ (h.0, above_insert x k ys e h.1)
      ]

  pub rising_insert : (k : E) (ys : List E) → IsStrictlySortedBy R ys → IsStrictlySortedBy R (insert_key R ys k)
  unfolding IsStrictlySortedBy
  rising_insert k [] h = (tt, tt)
  rising_insert k (y ∷ ys) h =
      elim (R k y) as (λ r. R k y ≡ r → IsStrictlySortedBy R (match_ordering r (k ∷ y ∷ ys) (y ∷ ys) (y ∷ insert_key R ys k))) [
        | Less ↦ λ e. ((e, above_lower k y ys e h.0), h)
        | Equal ↦ λ e. h
        | Greater ↦ λ e. (above_insert y k ys (flip_greater k y e) h.0, rising_insert k ys h.1)
      ] refl

  pub rising_union : (xs ys : List E) → IsStrictlySortedBy R xs → IsStrictlySortedBy R (union_of R xs ys)
  rising_union xs [] h = h
  rising_union xs (y ∷ ys) h = rising_union (insert_key R xs y) ys (rising_insert y xs h)

  pub rising_nothing : IsStrictlySortedBy R []
  unfolding IsStrictlySortedBy
  rising_nothing = tt

module _ {E : Type 0} (R : E → E → Ordering) (o : IsTotalOrder R) (exact : (x y : E) → R x y ≡ Equal → x ≡ y) where
  -- items that tie are the same
  pub same_tied : (x y : E) → eq_by_cmp R x y ≡ true → x ≡ y
  same_tied x y e = exact x y ((Equal-is (R x y)).0 e)

  pub ties_itself : (x : E) → eq_by_cmp R x x ≡ true
  ties_itself x = (Equal-is (R x x)).1 (tied_itself o x)

  pub has_contained : (xs : List E) (x : E) → Contains xs x → has_item R xs x ≡ true
  has_contained xs x h = list_any-from_Contains (eq_by_cmp_equiv o) x xs h

  pub contains_had : (xs : List E) (x : E) → has_item R xs x ≡ true → Contains xs x
  contains_had xs x h = Contains-from_any same_tied x xs h

  pub same_items : (xs ys : List E) → IsStrictlySortedBy R xs → IsStrictlySortedBy R ys → ((q : E) → has_item R xs q ≡ has_item R ys q) → xs ≡ ys
  same_items xs ys h k same = btree_set_from_contains o (record { keys = xs }) (record { keys = ys }) h k same exact

  -- so do items that are equal by a test that agrees with the order
  pub equal_decides : (eq : E → E → Bool) → ((x y : E) → eq x y ≡ eq_by_cmp R x y) → (x y : E) → Decides (eq x y) (x ≡ y)
  equal_decides eq agrees x y = (λ e. same_tied x y (sym (agrees x y) ∙ e), λ e. agrees x y ∙ ap (eq_by_cmp R x) (sym e) ∙ ties_itself x)

  -- one test of the items is another where each holds with the other
  pub same_test : (a b : Bool) → (a ≡ true → b ≡ true) → (b ≡ true → a ≡ true) → a ≡ b
  same_test true b f g = sym (f refl)
  same_test false true f g = g refl
  same_test false false f g = refl

  -- -- what each operation has

  pub has_insert : (k : E) (ys : List E) (q : E) → has_item R (insert_key R ys k) q ≡ (eq_by_cmp R q k || has_item R ys q)
  has_insert k [] q = refl
  has_insert k (y ∷ ys) q =
      elim (R k y) as (λ r. R k y ≡ r → has_item R (match_ordering r (k ∷ y ∷ ys) (y ∷ ys) (y ∷ insert_key R ys k)) q ≡ (eq_by_cmp R q k || (eq_by_cmp R q y || has_item R ys q))) [
        | Less ↦ λ e. refl
        | Equal ↦ λ e. sym (ap (λ z. eq_by_cmp R q z || (eq_by_cmp R q y || has_item R ys q)) (exact k y e) ∙ or_self_left (eq_by_cmp R q y) (has_item R ys q))
        | Greater ↦ λ e. ap (λ b. eq_by_cmp R q y || b) (has_insert k ys q) ∙ sym (or_assoc (eq_by_cmp R q y) (eq_by_cmp R q k) (has_item R ys q))
            ∙ ap (λ b. b || has_item R ys q) (or_comm (eq_by_cmp R q y) (eq_by_cmp R q k)) ∙ or_assoc (eq_by_cmp R q k) (eq_by_cmp R q y) (has_item R ys q)
      ] refl

  pub has_union : (xs ys : List E) (q : E) → has_item R (union_of R xs ys) q ≡ (has_item R xs q || has_item R ys q)
  has_union xs [] q = sym (or-false (has_item R xs q))
  has_union xs (y ∷ ys) q =
      has_union (insert_key R xs y) ys q ∙ ap (λ b. b || has_item R ys q) (has_insert y xs q ∙ or_comm (eq_by_cmp R q y) (has_item R xs q))
      ∙ or_assoc (has_item R xs q) (eq_by_cmp R q y) (has_item R ys q)

  has_filter : (p : E → Bool) (xs : List E) (q : E) → has_item R (filter p xs) q ≡ (p q && has_item R xs q)
  has_filter p xs q = any-filter_same (eq_by_cmp R q) p (p q) (λ k e. ap p (sym (same_tied q k e))) xs

  pub has_intersection : (xs ys : List E) (q : E) → has_item R (intersection_of R xs ys) q ≡ (has_item R xs q && has_item R ys q)
  has_intersection xs ys q = has_filter (λ x. has_item R ys x) xs q ∙ and_comm (has_item R ys q) (has_item R xs q)

  pub has_difference : (xs ys : List E) (q : E) → has_item R (difference_of R xs ys) q ≡ (has_item R xs q && not (has_item R ys q))
  has_difference xs ys q = has_filter (λ x. not (has_item R ys x)) xs q ∙ and_comm (not (has_item R ys q)) (has_item R xs q)

  pub rising_intersection : (xs ys : List E) → IsStrictlySortedBy R xs → IsStrictlySortedBy R (intersection_of R xs ys)
  rising_intersection xs ys h = IsStrictlySortedBy-filter R (λ x. has_item R ys x) xs h

  -- -- the operations are those of sets

  pub union_is_union : (xs ys : List E) → IsStrictlySortedBy R xs → IsUnion R xs ys (union_of R xs ys)
  union_is_union xs ys h = record {
    rising = rising_union R o xs ys h;
    items = λ q. (
      λ c. elim (or_cases (has_item R xs q) (has_item R ys q) (sym (has_union xs ys q) ∙ has_contained (union_of R xs ys) q c)) [ inl a ↦ inl (contains_had xs q a) | inr b ↦ inr (contains_had ys q b) ],
      λ e. contains_had (union_of R xs ys) q (has_union xs ys q ∙ elim e [ inl a ↦ or_left (has_item R xs q) (has_item R ys q) (has_contained xs q a) | inr b ↦ or_right (has_item R xs q) (has_item R ys q) (has_contained ys q b) ]),
    );
  }

  pub intersection_is_intersection : (xs ys : List E) → IsStrictlySortedBy R xs → IsIntersection R xs ys (intersection_of R xs ys)
  intersection_is_intersection xs ys h = record {
    rising = rising_intersection xs ys h;
    items = λ q. (
      λ c. let parts = and_parts (has_item R xs q) (has_item R ys q) (sym (has_intersection xs ys q) ∙ has_contained (intersection_of R xs ys) q c) in (contains_had xs q parts.0, contains_had ys q parts.1),
      λ e. contains_had (intersection_of R xs ys) q (has_intersection xs ys q ∙ and_from (has_item R xs q) (has_item R ys q) (has_contained xs q e.0) (has_contained ys q e.1)),
    );
  }

  pub difference_is_difference : (xs ys : List E) → IsStrictlySortedBy R xs → IsDifference R xs ys (difference_of R xs ys)
  difference_is_difference xs ys h = record {
    rising = IsStrictlySortedBy-filter R (λ x. not (has_item R ys x)) xs h;
    items = λ q. (
      λ c. let parts = and_parts (has_item R xs q) (not (has_item R ys q)) (sym (has_difference xs ys q) ∙ has_contained (difference_of R xs ys) q c) in
          (contains_had xs q parts.0, λ b. both_ways (has_item R ys q) (not-true (has_item R ys q) parts.1) (has_contained ys q b)),
      λ e. contains_had (difference_of R xs ys) q (has_difference xs ys q
          ∙ and_from (has_item R xs q) (not (has_item R ys q)) (has_contained xs q e.0) (not_from_false (has_item R ys q) (false_from_ne_true (has_item R ys q) (λ b. e.1 (contains_had ys q b))))),
    );
  }

  -- lists that rise and have the same items, told in the same words, are one
  same_told : (Told : E → Type 0) (xs ys : List E) → IsStrictlySortedBy R xs → IsStrictlySortedBy R ys → ((x : E) → Contains xs x ↔ Told x) → ((x : E) → Contains ys x ↔ Told x) → xs ≡ ys
  same_told Told xs ys h k a b =
      same_items xs ys h k (λ q. same_test (has_item R xs q) (has_item R ys q)
      (λ e. has_contained ys q ((b q).1 ((a q).0 (contains_had xs q e))))
      (λ e. has_contained xs q ((a q).1 ((b q).0 (contains_had ys q e)))))

  -- the union of two sets is one list
  pub union_unique : (xs ys zs : List E) → IsStrictlySortedBy R xs → IsUnion R xs ys zs → zs ≡ union_of R xs ys
  union_unique xs ys zs h u = let v = union_is_union xs ys h in same_told (λ q. Contains xs q ⊎ Contains ys q) zs (union_of R xs ys) u.rising v.rising u.items v.items

  -- so is the intersection
  pub intersection_unique : (xs ys zs : List E) → IsStrictlySortedBy R xs → IsIntersection R xs ys zs → zs ≡ intersection_of R xs ys
  intersection_unique xs ys zs h u = let v = intersection_is_intersection xs ys h in same_told (λ q. Contains xs q × Contains ys q) zs (intersection_of R xs ys) u.rising v.rising u.items v.items
