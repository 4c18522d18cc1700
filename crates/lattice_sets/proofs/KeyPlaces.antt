-- Where a binary search for a key ends among entries whose keys rise, and what a write there leaves.
use Rattle.std.proofs.Common.{◌≡◌, ℕ, suc, zero, ◌+◌, ◌<◌, ◌≤◌, cond, List, [], ◌∷◌, length, get_or, set, Some, None, Ok, Err, Result, refl, sym, ap, ◌∙◌, subst, inl, inr, arith}
use Rattle.std.specs.Prelude.{insert}
use Rattle.std.specs.declared.cmp.Ordering.{Ordering}
use Rattle.std.specs.declared.cmp.Ordering.TheVariants.{Less, Equal, Greater}
use Rattle.std.specs.Ordering.{eq_by_cmp, is_eq, is_lt, match_ordering, ordering_index}
use Rattle.std.specs.Cmp.{IsTotalOrder, tied_itself}
use Rattle.std.specs.List.{HoldsAt, AllWithin}
use Rattle.std.specs.List.Sorted.{IsStrictlySortedBy, IsSortedBy, IsNonDecreasingBy, IsPartitionPoint, IsSearchInRange, IsBinarySearchResult}
use Rattle.std.specs.Map.{keys_of}
use Rattle.std.specs.BTreeMap.{insert_entry}
use Rattle.std.proofs.lemmas.Bool.{cases_lt, false_from_ne_true, cond-true, cond-false}
use Rattle.std.proofs.lemmas.List.{length-map, get_or-map}
use Rattle.std.proofs.lemmas.List.Sorted.{searchable_from_sorted}
use Rattle.std.proofs.lemmas.Map.Keys.{Less-from_sorted}
use Rattle.lattice_sets.specs.Maps.{IsKeyPlace, IsPut, value_at}
use Rattle.lattice_sets.specs.MapLaws.{rising_entry, value_insert}
use Rattle.lattice_sets.specs.SetLaws.{less≢equal, greater≢equal, Above, flip_less, flip_greater, same_tied, ties_itself}

module _ {K V : Type 0} (R : K → K → Ordering) (o : IsTotalOrder R) where
  above_at : (k : K) (m : List (K × V)) (i : ℕ) (d : K × V) → Above R k (keys_of m) → i < length m → R k (get_or m i d).0 ≡ Less
  above_at k [] i d h range = absurd (omega arith)
  above_at k (e ∷ es) zero d h range = h.0
  above_at k (e ∷ es) (suc i) d h range = above_at k es i d h.1 (omega arith)

  rises : (m : List (K × V)) → IsStrictlySortedBy R (keys_of m) → IsSortedBy (λ a b. is_lt (R a.0 b.0)) m
  rises m h k d low high =
      let here : get_or (keys_of m) k d.0 ≡ (get_or m k d).0 = get_or-map (λ e. e.0) m k d d.0 (omega arith) in
      let next : get_or (keys_of m) (k + 1) d.0 ≡ (get_or m (k + 1) d).0 = get_or-map (λ e. e.0) m (k + 1) d d.0 high in
      let less : R (get_or (keys_of m) k d.0) (get_or (keys_of m) (k + 1) d.0) ≡ Less = Less-from_sorted R (keys_of m) k (k + 1) d.0 h (omega arith) (omega (arith, length-map m (λ e. e.0))) in
      ap is_lt (sym (ap (λ x. R x (get_or m k d).0) next) ∙ sym (ap (R (get_or (keys_of m) (k + 1) d.0)) here) ∙ flip_less R o (get_or (keys_of m) k d.0) (get_or (keys_of m) (k + 1) d.0) less)

  searchable : (m : List (K × V)) (k : K) → IsStrictlySortedBy R (keys_of m) → IsNonDecreasingBy (λ e. ordering_index (R e.0 k)) m
  searchable m k h = searchable_from_sorted o (λ e. e.0) m k (rises m h)

module _ {K V : Type 0} (R : K → K → Ordering) (o : IsTotalOrder R) (exact : (x y : K) → R x y ≡ Equal → x ≡ y) where
  put_inserted : (m : List (K × V)) (k : K) (v : V) → IsStrictlySortedBy R (keys_of m) → IsPut R k v m (insert_entry R m k v)
  put_inserted m k v h = record {
    rising = rising_entry R o exact k v m h;
    here = value_insert R o exact k v m k ∙ cond-true (eq_by_cmp R k k) (Some v) (value_at R m k) (ties_itself R o exact k);
    elsewhere = λ q other. value_insert R o exact k v m q ∙ cond-false (eq_by_cmp R q k) (Some v) (value_at R m q) (false_from_ne_true (eq_by_cmp R q k) (λ e. other (same_tied R o exact q k e)));
  }

  -- an earlier key than the one at the place is below it
  earlier : (e : K × V) (es : List (K × V)) (k : K) (i : ℕ) (d : K × V) → Above R e.0 (keys_of es) → i < length es → R (get_or es i d).0 k ≡ Equal → R k e.0 ≡ Greater
  earlier e es k i d h range tied = flip_less R o e.0 k (ap (R e.0) (sym (exact (get_or es i d).0 k tied)) ∙ above_at R o e.0 es i d h range)

  value_found : (m : List (K × V)) (k : K) (i : ℕ) → IsStrictlySortedBy R (keys_of m) → i < length m → HoldsAt (λ e. R e.0 k ≡ Equal) m i → HoldsAt (λ e. value_at R m k ≡ Some e.1) m i
  unfolding IsStrictlySortedBy
  value_found [] k i h range tied d = absurd (omega arith)
  value_found (e ∷ es) k zero h range tied d = cond-true (eq_by_cmp R k e.0) (Some e.1) (value_at R es k) (ap (eq_by_cmp R k) (exact e.0 k (tied d)) ∙ ties_itself R o exact k)
  value_found (e ∷ es) k (suc i) h range tied d =
      let inside : i < length es = omega arith in
      ap (λ r. cond (is_eq r) (Some e.1) (value_at R es k)) (earlier e es k i d h.0 inside (tied d)) ∙ value_found es k i h.1 inside tied d

  -- a write at the place is an insertion by key
  set_found : (m : List (K × V)) (k : K) (v : V) (i : ℕ) → IsStrictlySortedBy R (keys_of m) → i < length m → HoldsAt (λ e. R e.0 k ≡ Equal) m i → set m i (k, v) ≡ insert_entry R m k v
  unfolding IsStrictlySortedBy
  set_found [] k v i h range tied = absurd (omega arith)
  set_found (e ∷ es) k v zero h range tied =
      let same : e.0 ≡ k = exact e.0 k (tied e) in
      sym (ap (λ r. match_ordering r ((k, v) ∷ e ∷ es) ((e.0, v) ∷ es) (e ∷ insert_entry R es k v)) (ap (R k) same ∙ tied_itself o k) ∙ ap (λ x. (x, v) ∷ es) same)
  set_found (e ∷ es) k v (suc i) h range tied =
      let inside : i < length es = omega arith in
      ap (λ zs. e ∷ zs) (set_found es k v i h.1 inside tied) ∙ sym (ap (λ r. match_ordering r ((k, v) ∷ e ∷ es) ((e.0, v) ∷ es) (e ∷ insert_entry R es k v)) (earlier e es k i e h.0 inside (tied e)))

  -- so is an insertion between the lower keys and the higher ones
  insert_missing : (m : List (K × V)) (k : K) (v : V) (i : ℕ) → i ≤ length m → AllWithin (λ e. R e.0 k ≡ Less) m 0 i → AllWithin (λ e. R e.0 k ≡ Greater) m i (length m) → insert m i (k, v) ≡ insert_entry R m k v
  insert_missing [] k v zero le lower higher = refl
  insert_missing [] k v (suc i) le lower higher = absurd (omega arith)
  insert_missing (e ∷ es) k v zero le lower higher =
      let above : R e.0 k ≡ Greater = higher zero e (omega arith) (omega arith) in
      sym (ap (λ r. match_ordering r ((k, v) ∷ e ∷ es) ((e.0, v) ∷ es) (e ∷ insert_entry R es k v)) (flip_greater R o e.0 k above))
  insert_missing (e ∷ es) k v (suc i) le lower higher =
      let below : R e.0 k ≡ Less = lower zero e (omega arith) (omega arith) in
      ap (λ zs. e ∷ zs) (insert_missing es k v i (omega arith) (λ j d a b. lower (suc j) d (omega arith) (omega arith)) (λ j d a b. higher (suc j) d (omega arith) (omega arith)))
      ∙ sym (ap (λ r. match_ordering r ((k, v) ∷ e ∷ es) ((e.0, v) ∷ es) (e ∷ insert_entry R es k v)) (flip_less R o e.0 k below))

  value_untied : (m : List (K × V)) (k : K) → ((j : ℕ) (d : K × V) → j < length m → R (get_or m j d).0 k ≡ Equal → ⊥) → value_at R m k ≡ None
  value_untied [] k none = refl
  value_untied (e ∷ es) k none =
      cond-false (eq_by_cmp R k e.0) (Some e.1) (value_at R es k) (false_from_ne_true (eq_by_cmp R k e.0) (λ t. none zero e (omega arith) (ap (R e.0) (same_tied R o exact k e.0 t) ∙ tied_itself o e.0)))
      ∙ value_untied es k (λ j d inside tied. none (suc j) d (omega arith) tied)

  value_missing : (m : List (K × V)) (k : K) (i : ℕ) → IsPartitionPoint (λ e. R e.0 k ≡ Less) (λ e. R e.0 k ≡ Greater) m i → value_at R m k ≡ None
  value_missing m k i gap = value_untied m k (λ j d inside tied. elim (cases_lt j i) [
    | inl lower ↦ less≢equal (sym (gap.0 j d (omega arith) lower) ∙ tied)
    | inr higher ↦ greater≢equal (sym (gap.1 j d higher inside) ∙ tied)
  ])

  -- what a binary search answers is the key's place
  pub key_place_searched : (m : List (K × V)) (k : K) (r : Result ℕ ℕ) → IsStrictlySortedBy R (keys_of m) → IsSearchInRange r (length m) → IsBinarySearchResult (λ e. R e.0 k) m r → IsKeyPlace R m k r
  key_place_searched m k (Ok i) h range position =
      (range, value_found m k i h range position, λ v. subst (IsPut R k v m) (sym (set_found m k v i h range position)) (put_inserted m k v h))
  key_place_searched m k (Err i) h range position =
      let gap = position (searchable R o m k h) in
      (range, value_missing m k i gap, λ v. subst (IsPut R k v m) (sym (insert_missing m k v i range gap.0 gap.1)) (put_inserted m k v h))
