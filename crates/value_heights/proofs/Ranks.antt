-- Ranks stand within the height, rise with the value, and rise strictly where the value does.
use Rattle.std.proofs.Common.{◌≡◌, ℕ, ◌+◌, ◌<◌, ◌≤◌, true, cond, List, [], ◌∷◌, length, refl, sym, ap, ◌∙◌, subst, inl, inr, arith}
use Rattle.std.specs.Prelude.{sum_by, All, Contains, IsTrue, unwrap_or, bytes_eq}
use Rattle.std.specs.List.{list_all, list_any, AllByRecursion}
use Rattle.std.proofs.lemmas.Bool.{and_parts, or_left, or_right}
use Rattle.std.proofs.lemmas.List.Elements.{All-contains, All-from_recursion}
use Rattle.std.proofs.lemmas.Map.Views.{Contains-from_any}
use Rattle.std.proofs.lemmas.Slice.Eq.{bytes_eq-Decides}
use Rattle.flow_term.specs.declared.elem.Elem.{Elem}
use Rattle.flow_term.specs.declared.value.Value.{Value, Value-F, out-Value}
use Rattle.flow_syntax.specs.Types.{Sort}
use Rattle.value_domains.specs.Domains.{Domain, may, must, flat, map_to, pair_of, listed, Table, has_element, table_join, item_in, IsListed, least_of, IsValueOf, IsBelowIn}
use Rattle.value_domains.specs.Lawful.{IsLawfulTable, IsLawful}
use Rattle.value_domains.specs.Values.{ValueLayer, has_elem, Includes, elems_in, map_in, left_in, right_in, value_or, IsMust, IsFlat, IsBelowMust, IsBelowFlat}
use Rattle.value_heights.specs.Tests.{is_below_item}
use Rattle.value_heights.specs.Heights.{is_within, height_of, rank_of, must_rank, flat_rank}
use Rattle.value_heights.proofs.Sums.{sum_le, agree_at, sum_within, sum_below, one_within, none_within, one_le, one_back, none_le, none_back, none_zero}
use Rattle.value_heights.proofs.Told.{had, is_had, all_told, valid_at, pair_parts, least_below}
use Rattle.value_heights.proofs.Within.{within_at, absent_outside}

-- TABLES

module _ (t : Table) (laws : IsLawfulTable t) where
  -- what holds of each element holds of all that are listed
  all_elements : (P : List ℕ → Type 0) (xs : List (List ℕ)) → ((y : List ℕ) → list_any (bytes_eq y) xs ≡ true → P y) → AllByRecursion P xs
  all_elements P [] each = tt
  all_elements P (x ∷ xs) each =
      (each x (or_left (bytes_eq x x) (list_any (bytes_eq x) xs) ((bytes_eq-Decides x x).1 refl)), all_elements P xs (λ y h. each y (or_right (bytes_eq y x) (list_any (bytes_eq y) xs) h)))

  listed_in : (x : List ℕ) → IsTrue (has_element t x) → Contains t.elements x
  listed_in x h = Contains-from_any (λ x y. (bytes_eq-Decides x y).0) x t.elements h

  item_passes : (a b c : List ℕ) → IsTrue (has_element t a) → IsTrue (has_element t b) → IsTrue (has_element t c) → table_join t a b ≡ b → table_join t b c ≡ c → table_join t a c ≡ c
  item_passes a b c ha hb hc ab bc = ap (table_join t a) (sym bc) ∙ sym (laws.associative a b c ha hb hc) ∙ ap (λ x. table_join t x c) ab ∙ bc

  item_terms : (a b : List ℕ) → IsTrue (has_element t a) → IsTrue (has_element t b) → table_join t a b ≡ b → All (λ y. cond (is_below_item t a y) 0 1 ≤ cond (is_below_item t b y) 0 1) t.elements
  item_terms a b ha hb below =
      All-from_recursion (λ y. cond (is_below_item t a y) 0 1 ≤ cond (is_below_item t b y) 0 1) t.elements
      (all_elements (λ y. cond (is_below_item t a y) 0 1 ≤ cond (is_below_item t b y) 0 1) t.elements
      (λ y hy. none_le (is_below_item t a y) (is_below_item t b y) (λ e. (bytes_eq-Decides (table_join t a y) y).1 (item_passes a b y ha hb hy below ((bytes_eq-Decides (table_join t b y) y).0 e)))))

  pub item_le : (a b : List ℕ) → IsTrue (has_element t a) → IsTrue (has_element t b) → table_join t a b ≡ b → sum_by (λ y. cond (is_below_item t a y) 0 1) t.elements ≤ sum_by (λ y. cond (is_below_item t b y) 0 1) t.elements
  item_le a b ha hb below = sum_le (λ y. cond (is_below_item t a y) 0 1) (λ y. cond (is_below_item t b y) 0 1) t.elements (item_terms a b ha hb below)

  item_itself : (a : List ℕ) → IsTrue (has_element t a) → is_below_item t a a ≡ true
  item_itself a ha = (bytes_eq-Decides (table_join t a a) a).1 (laws.idempotent a ha)

  pub item_back : (a b : List ℕ) → IsTrue (has_element t a) → IsTrue (has_element t b) → table_join t a b ≡ b
      → sum_by (λ y. cond (is_below_item t b y) 0 1) t.elements ≤ sum_by (λ y. cond (is_below_item t a y) 0 1) t.elements → table_join t b a ≡ a
  item_back a b ha hb below sums =
      let at = agree_at (λ y. cond (is_below_item t a y) 0 1) (λ y. cond (is_below_item t b y) 0 1) t.elements (item_terms a b ha hb below) sums a (listed_in a ha) in
      (bytes_eq-Decides (table_join t b a) a).0 (none_back (is_below_item t a a) (is_below_item t b a) at (item_itself a ha))

  pub item_within : (a : List ℕ) → IsTrue (has_element t a) → sum_by (λ y. cond (is_below_item t a y) 0 1) t.elements < length t.elements
  item_within a ha = sum_below (λ y. cond (is_below_item t a y) 0 1) t.elements (λ y. none_within (is_below_item t a y)) a (listed_in a ha) (none_zero (is_below_item t a a) (item_itself a ha))

item_of : (t : Table) (l : ValueLayer) → IsListed t l → IsTrue (has_element t (item_in l))
item_of t (Value-F.Item x) h = h
item_of t _ h = absurd h

module _ (elements : Sort → List Elem) where
  -- WITHIN THE HEIGHT

  must_within : (sort : Sort) (l : ValueLayer) → must_rank elements sort l ≤ length (elements sort) + 1
  must_within sort (Value-F.Set xs) = let h = sum_within (λ e. cond (has_elem xs e) 0 1) 1 (elements sort) (λ e. none_within (has_elem xs e)) in omega (arith, h)
  must_within sort _ = omega arith

  flat_within : (l : ValueLayer) → flat_rank elements l ≤ 2
  flat_within (Value-F.Flat x) = omega arith
  flat_within Value-F.Top = omega arith
  flat_within _ = omega arith

  pub rank_within : (d : Domain) → IsLawful d → (v : Value) → IsValueOf d v → rank_of elements d v ≤ height_of elements d
  rank_within (may sort) lawful v h = let le = sum_within (λ e. cond (has_elem (elems_in (out-Value v)) e) 1 0) 1 (elements sort) (λ e. one_within (has_elem (elems_in (out-Value v)) e)) in omega (arith, le)
  rank_within (must sort) lawful v h = must_within sort (out-Value v)
  rank_within (flat sort) lawful v h = flat_within (out-Value v)
  rank_within (map_to sort inner) lawful v h =
      sum_within (λ e. rank_of elements inner (value_or (least_of inner) (map_in (out-Value v)) e)) (height_of elements inner) (elements sort)
      (λ e. rank_within inner lawful (value_or (least_of inner) (map_in (out-Value v)) e) (valid_at sort inner lawful v h e))
  rank_within (pair_of left right) lawful v h =
      let parts = pair_parts (IsValueOf left) (IsValueOf right) (out-Value v) h in
      omega (arith, rank_within left lawful.0 (left_in (out-Value v)) parts.0, rank_within right lawful.1 (right_in (out-Value v)) parts.1)
  rank_within (listed t) lawful v h = let lt = item_within t lawful (item_in (out-Value v)) (item_of t (out-Value v) h) in omega (arith, lt)

  -- NOT ABOVE THE RANK OF WHAT IS ABOVE

  must_terms : (xs ys : List Elem) → Includes xs ys → (zs : List Elem) → All (λ e. cond (has_elem xs e) 0 1 ≤ cond (has_elem ys e) 0 1) zs
  must_terms xs ys below zs k d lt = none_le (has_elem xs _) (has_elem ys _) (λ h. is_had xs _ (below _ (had ys _ h)))

  must_le : (sort : Sort) (a b : ValueLayer) → IsBelowMust a b → must_rank elements sort a ≤ must_rank elements sort b
  must_le sort Value-F.Unreached b below = omega arith
  must_le sort (Value-F.Set xs) (Value-F.Set ys) below = let h = sum_le (λ e. cond (has_elem xs e) 0 1) (λ e. cond (has_elem ys e) 0 1) (elements sort) (must_terms xs ys below (elements sort)) in omega (arith, h)
  must_le sort _ _ below = absurd below

  flat_le : (sort : Sort) (a b : ValueLayer) → IsFlat sort a → IsFlat sort b → IsBelowFlat a b → flat_rank elements a ≤ flat_rank elements b
  flat_le sort Value-F.Bottom b va vb below = omega arith
  flat_le sort (Value-F.Flat x) Value-F.Top va vb below = omega arith
  flat_le sort (Value-F.Flat x) (Value-F.Flat y) va vb below = omega arith
  flat_le sort Value-F.Top Value-F.Top va vb below = omega arith
  flat_le sort (Value-F.Flat x) Value-F.Bottom va vb below = absurd below
  flat_le sort Value-F.Top Value-F.Bottom va vb below = absurd below
  flat_le sort Value-F.Top (Value-F.Flat y) va vb below = absurd below
  flat_le sort (Value-F.Flat x) _ va vb below = absurd vb
  flat_le sort Value-F.Top _ va vb below = absurd vb
  flat_le sort _ _ va vb below = absurd va

  may_terms : (xs ys : List Elem) → Includes ys xs → (zs : List Elem) → All (λ e. cond (has_elem xs e) 1 0 ≤ cond (has_elem ys e) 1 0) zs
  may_terms xs ys below zs k d lt = one_le (has_elem xs _) (has_elem ys _) (λ h. is_had ys _ (below _ (had xs _ h)))

  pub rank_le : (d : Domain) → IsLawful d → (a b : Value) → IsValueOf d a → IsValueOf d b → IsBelowIn d a b → rank_of elements d a ≤ rank_of elements d b
  rank_le (may sort) lawful a b va vb below =
      let xs = elems_in (out-Value a) in let ys = elems_in (out-Value b) in
      sum_le (λ e. cond (has_elem xs e) 1 0) (λ e. cond (has_elem ys e) 1 0) (elements sort) (may_terms xs ys below (elements sort))
  rank_le (must sort) lawful a b va vb below = must_le sort (out-Value a) (out-Value b) below
  rank_le (flat sort) lawful a b va vb below = flat_le sort (out-Value a) (out-Value b) va vb below
  rank_le (map_to sort inner) lawful a b va vb below =
      let at : Value → Elem → Value = λ v e. value_or (least_of inner) (map_in (out-Value v)) e in
      sum_le (λ e. rank_of elements inner (at a e)) (λ e. rank_of elements inner (at b e)) (elements sort)
      (λ k d lt. rank_le inner lawful (at a _) (at b _) (valid_at sort inner lawful a va _) (valid_at sort inner lawful b vb _) (below _))
  rank_le (pair_of left right) lawful a b va vb below =
      let pa = pair_parts (IsValueOf left) (IsValueOf right) (out-Value a) va in
      let pb = pair_parts (IsValueOf left) (IsValueOf right) (out-Value b) vb in
      omega (
        arith,
        rank_le left lawful.0 (left_in (out-Value a)) (left_in (out-Value b)) pa.0 pb.0 below.0,
        rank_le right lawful.1 (right_in (out-Value a)) (right_in (out-Value b)) pa.1 pb.1 below.1,
      )
  rank_le (listed t) lawful a b va vb below = item_le t lawful (item_in (out-Value a)) (item_in (out-Value b)) (item_of t (out-Value a) va) (item_of t (out-Value b) vb) below

  -- WHAT IS BELOW, AND STANDS AS HIGH, IS ABOVE

  may_back : (xs ys zs : List Elem) → All (λ e. IsTrue (has_elem zs e)) ys → Includes ys xs → sum_by (λ e. cond (has_elem ys e) 1 0) zs ≤ sum_by (λ e. cond (has_elem xs e) 1 0) zs → Includes xs ys
  may_back xs ys zs within below sums x h =
      let at = agree_at (λ e. cond (has_elem xs e) 1 0) (λ e. cond (has_elem ys e) 1 0) zs (may_terms xs ys below zs) sums x (had zs x (All-contains (λ e. IsTrue (has_elem zs e)) ys x within h)) in
      had xs x (one_back (has_elem xs x) (has_elem ys x) at (is_had ys x h))

  sets_back : (xs ys zs : List Elem) → All (λ e. IsTrue (has_elem zs e)) xs → Includes xs ys → sum_by (λ e. cond (has_elem ys e) 0 1) zs ≤ sum_by (λ e. cond (has_elem xs e) 0 1) zs → Includes ys xs
  sets_back xs ys zs within below sums x h =
      let at = agree_at (λ e. cond (has_elem xs e) 0 1) (λ e. cond (has_elem ys e) 0 1) zs (must_terms xs ys below zs) sums x (had zs x (All-contains (λ e. IsTrue (has_elem zs e)) xs x within h)) in
      had ys x (none_back (has_elem xs x) (has_elem ys x) at (is_had xs x h))

  must_back : (sort : Sort) (a b : ValueLayer) → IsMust sort b → list_all (has_elem (elements sort)) (elems_in a) ≡ true → IsBelowMust a b → must_rank elements sort b ≤ must_rank elements sort a → IsBelowMust b a
  must_back sort Value-F.Unreached Value-F.Unreached vb within below sums = tt
  must_back sort Value-F.Unreached (Value-F.Set ys) vb within below sums = absurd (omega (arith, sums))
  must_back sort Value-F.Unreached _ vb within below sums = absurd vb
  must_back sort (Value-F.Set xs) (Value-F.Set ys) vb within below sums = sets_back xs ys (elements sort) ((all_told (has_elem (elements sort)) xs).0 within) below (omega (arith, sums))
  must_back sort (Value-F.Set xs) _ vb within below sums = absurd below
  must_back sort _ _ vb within below sums = absurd below

  flat_back : (sort : Sort) (a b : ValueLayer) → IsFlat sort a → IsFlat sort b → IsBelowFlat a b → flat_rank elements b ≤ flat_rank elements a → IsBelowFlat b a
  flat_back sort Value-F.Bottom Value-F.Bottom va vb below sums = tt
  flat_back sort Value-F.Bottom (Value-F.Flat y) va vb below sums = absurd (omega (arith, sums))
  flat_back sort Value-F.Bottom Value-F.Top va vb below sums = absurd (omega (arith, sums))
  flat_back sort Value-F.Bottom _ va vb below sums = absurd vb
  flat_back sort (Value-F.Flat x) Value-F.Top va vb below sums = absurd (omega (arith, sums))
  flat_back sort (Value-F.Flat x) (Value-F.Flat y) va vb below sums = sym below
  flat_back sort (Value-F.Flat x) Value-F.Bottom va vb below sums = absurd below
  flat_back sort (Value-F.Flat x) _ va vb below sums = absurd vb
  flat_back sort Value-F.Top Value-F.Top va vb below sums = tt
  flat_back sort Value-F.Top Value-F.Bottom va vb below sums = absurd below
  flat_back sort Value-F.Top (Value-F.Flat y) va vb below sums = absurd below
  flat_back sort Value-F.Top _ va vb below sums = absurd vb
  flat_back sort _ _ va vb below sums = absurd va

  pub rank_back : (d : Domain) → IsLawful d → (a b : Value) → IsValueOf d a → IsValueOf d b → is_within elements d a ≡ true → is_within elements d b ≡ true → IsBelowIn d a b → rank_of elements d b ≤ rank_of elements d a → IsBelowIn d b a
  rank_back (may sort) lawful a b va vb wa wb below sums =
      may_back (elems_in (out-Value a)) (elems_in (out-Value b)) (elements sort) ((all_told (has_elem (elements sort)) (elems_in (out-Value b))).0 wb) below sums
  rank_back (must sort) lawful a b va vb wa wb below sums = must_back sort (out-Value a) (out-Value b) vb wa below sums
  rank_back (flat sort) lawful a b va vb wa wb below sums = flat_back sort (out-Value a) (out-Value b) va vb below sums
  rank_back (map_to sort inner) lawful a b va vb wa wb below sums =
      let at : Value → Elem → Value = λ v e. value_or (least_of inner) (map_in (out-Value v)) e in
      let le : All (λ e. rank_of elements inner (at a e) ≤ rank_of elements inner (at b e)) (elements sort) = λ k d lt. rank_le inner lawful (at a _) (at b _) (valid_at sort inner lawful a va _) (valid_at sort inner lawful b vb _) (below _) in
      λ k. elim (absent_outside elements sort inner b wb k) [
        | inl h ↦ rank_back inner lawful (at a k) (at b k) (valid_at sort inner lawful a va k) (valid_at sort inner lawful b vb k) (within_at elements sort inner a wa k) (within_at elements sort inner b wb k) (below k)
            (agree_at (λ e. rank_of elements inner (at a e)) (λ e. rank_of elements inner (at b e)) (elements sort) le sums k (had (elements sort) k h))
        | inr none ↦ subst (λ v. IsBelowIn inner v (at a k)) (sym (ap (λ o. unwrap_or o (least_of inner)) none)) (least_below inner lawful (at a k) (valid_at sort inner lawful a va k))
      ]
  rank_back (pair_of left right) lawful a b va vb wa wb below sums =
      let pa = pair_parts (IsValueOf left) (IsValueOf right) (out-Value a) va in
      let pb = pair_parts (IsValueOf left) (IsValueOf right) (out-Value b) vb in
      let qa = and_parts (is_within elements left (left_in (out-Value a))) (is_within elements right (right_in (out-Value a))) wa in
      let qb = and_parts (is_within elements left (left_in (out-Value b))) (is_within elements right (right_in (out-Value b))) wb in
      let one = rank_le left lawful.0 (left_in (out-Value a)) (left_in (out-Value b)) pa.0 pb.0 below.0 in
      let other = rank_le right lawful.1 (right_in (out-Value a)) (right_in (out-Value b)) pa.1 pb.1 below.1 in (
        rank_back left lawful.0 (left_in (out-Value a)) (left_in (out-Value b)) pa.0 pb.0 qa.0 qb.0 below.0 (omega (arith, sums, other)),
        rank_back right lawful.1 (right_in (out-Value a)) (right_in (out-Value b)) pa.1 pb.1 qa.1 qb.1 below.1 (omega (arith, sums, one)),
      )
  rank_back (listed t) lawful a b va vb wa wb below sums = item_back t lawful (item_in (out-Value a)) (item_in (out-Value b)) (item_of t (out-Value a) va) (item_of t (out-Value b) vb) below sums
