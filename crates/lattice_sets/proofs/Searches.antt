-- Where a binary search ends in a rising list, and what an insertion there leaves.
use Rattle.std.proofs.Common.{◌≡◌, ℕ, suc, zero, ◌+◌, ◌<◌, ◌≤◌, List, [], ◌∷◌, length, get_or, Ok, Err, Result, refl, sym, ap, ◌∙◌, inl, inr, arith}
use Rattle.std.specs.Prelude.{Contains, insert}
use Rattle.std.specs.declared.cmp.Ordering.{Ordering}
use Rattle.std.specs.declared.cmp.Ordering.TheVariants.{Less, Equal, Greater}
use Rattle.std.specs.Ordering.{eq_by_cmp, is_lt, match_ordering, ordering_index}
use Rattle.std.specs.Cmp.{IsTotalOrder, tied_itself}
use Rattle.std.specs.List.{HoldsAt, AllWithin}
use Rattle.std.specs.List.Sorted.{IsStrictlySortedBy, IsSortedBy, IsNonDecreasingBy, IsPartitionPoint, IsSearchInRange, IsBinarySearchResult}
use Rattle.std.specs.BTreeSet.{insert_key}
use Rattle.std.proofs.lemmas.Bool.{cases_lt, or_cases, or_left, or_right}
use Rattle.std.proofs.lemmas.List.Sorted.{searchable_from_sorted}
use Rattle.std.proofs.lemmas.Map.Keys.{Less-from_sorted}
use Rattle.lattice_sets.specs.Sets.{IsInserted, IsPlace, has_item}
use Rattle.lattice_sets.specs.SetLaws.{less≢equal, greater≢equal, flip_less, flip_greater, same_tied, ties_itself, has_contained, contains_had, has_insert, rising_insert}

module _ {E : Type 0} (R : E → E → Ordering) (o : IsTotalOrder R) where
  rises : (xs : List E) → IsStrictlySortedBy R xs → IsSortedBy (λ a b. is_lt (R a b)) xs
  rises xs h k d low high =
      let less : R (get_or xs k d) (get_or xs (k + 1) d) ≡ Less = Less-from_sorted R xs k (k + 1) d h (omega arith) high in
      ap is_lt (flip_less R o (get_or xs k d) (get_or xs (k + 1) d) less)

  pub searchable : (xs : List E) (x : E) → IsStrictlySortedBy R xs → IsNonDecreasingBy (λ y. ordering_index (R y x)) xs
  searchable xs x h = searchable_from_sorted o (λ y. y) xs x (rises xs h)

  -- what lies between the lower items and the higher ones is not there
  pub absent_at_gap : (xs : List E) (x : E) (i : ℕ) → IsPartitionPoint (λ y. R y x ≡ Less) (λ y. R y x ≡ Greater) xs i → Contains xs x → ⊥
  absent_at_gap xs x i gap (k, inside, is) =
      let tied : R (get_or xs k x) x ≡ Equal = ap (λ y. R y x) is ∙ tied_itself o x in
      elim (cases_lt k i) [
        | inl lower ↦ less≢equal (sym (gap.0 k x (omega arith) lower) ∙ tied)
        | inr higher ↦ greater≢equal (sym (gap.1 k x higher inside) ∙ tied)
      ]

  -- an insertion between the two is one in order
  pub insert_at_gap : (x : E) (xs : List E) (i : ℕ) → i ≤ length xs → AllWithin (λ y. R y x ≡ Less) xs 0 i → AllWithin (λ y. R y x ≡ Greater) xs i (length xs) → insert xs i x ≡ insert_key R xs x
  insert_at_gap x [] zero le lower higher = refl
  insert_at_gap x [] (suc i) le lower higher = absurd (omega arith)
  insert_at_gap x (y ∷ ys) zero le lower higher =
      let above : R y x ≡ Greater = higher zero y (omega arith) (omega arith) in
      sym (ap (λ r. match_ordering r (x ∷ y ∷ ys) (y ∷ ys) (y ∷ insert_key R ys x)) (flip_greater R o y x above))
  insert_at_gap x (y ∷ ys) (suc i) le lower higher =
      let below : R y x ≡ Less = lower zero y (omega arith) (omega arith) in
      ap (λ zs. y ∷ zs) (insert_at_gap x ys i (omega arith) (λ k d a b. lower (suc k) d (omega arith) (omega arith)) (λ k d a b. higher (suc k) d (omega arith) (omega arith)))
      ∙ sym (ap (λ r. match_ordering r (x ∷ y ∷ ys) (y ∷ ys) (y ∷ insert_key R ys x)) (flip_less R o y x below))

module _ {E : Type 0} (R : E → E → Ordering) (o : IsTotalOrder R) (exact : (x y : E) → R x y ≡ Equal → x ≡ y) where
  pub present_where_tied : (xs : List E) (x : E) (i : ℕ) → i < length xs → HoldsAt (λ y. R y x ≡ Equal) xs i → Contains xs x
  present_where_tied xs x i inside tied = (i, inside, exact (get_or xs i x) x (tied x))

  pub inserted_key : (x : E) (xs : List E) → IsStrictlySortedBy R xs → IsInserted R x xs (insert_key R xs x)
  inserted_key x xs h = record {
    rising = rising_insert R o x xs h;
    items = λ y. (
      λ c. elim (or_cases (eq_by_cmp R y x) (has_item R xs y) (sym (has_insert R o exact x xs y) ∙ has_contained R o exact (insert_key R xs x) y c)) [ inl same ↦ inr (same_tied R o exact y x same) | inr old ↦ inl (contains_had R o exact xs y old) ],
      λ e. contains_had R o exact (insert_key R xs x) y (has_insert R o exact x xs y ∙ elim e [
        | inl old ↦ or_right (eq_by_cmp R y x) (has_item R xs y) (has_contained R o exact xs y old)
        | inr same ↦ or_left (eq_by_cmp R y x) (has_item R xs y) (ap (eq_by_cmp R y) (sym same) ∙ ties_itself R o exact y)
      ]),
    );
  }

  -- what a binary search answers is the item's place
  pub place_searched : (xs : List E) (x : E) (r : Result ℕ ℕ) → IsStrictlySortedBy R xs → IsSearchInRange r (length xs) → IsBinarySearchResult (λ y. R y x) xs r → IsPlace R xs x r
  place_searched xs x (Ok i) h range position = present_where_tied xs x i range position
  place_searched xs x (Err i) h range position =
      let gap = position (searchable R o xs x h) in
      (range, absent_at_gap R o xs x i gap, rw (insert_at_gap R o x xs i range gap.0 gap.1) (inserted_key x xs h))
