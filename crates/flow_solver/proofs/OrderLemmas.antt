-- Lists in an order that is told by a test: there is one for each set.
use native.Mathlib.Numerals.{unary_clauses}
use Rattle.std.specs.Cmp.{IsStrictWeakOrder}
use Rattle.std.specs.List.Sorted.{IsSortedBy, IsStrictlySortedBy}
use Rattle.std.specs.Ordering.{is_lt}
use Rattle.std.specs.declared.cmp.Ordering.{Ordering}
use Rattle.std.specs.declared.cmp.Ordering.TheVariants.{Less}
use Rattle.std.specs.List.{AllByRecursion}
use Rattle.flow_solver.specs.Orders.{IsOrderOf}
use Rattle.std.proofs.Common.{◌≡◌, ℕ, suc, Bool, true, false, cond, ◌||◌, ◌&&◌, List, [], ◌∷◌, refl, sym, ap, ◌∙◌, arith, inl, inr}
use Rattle.std.specs.Prelude.{nat_eq, filter}
use Rattle.std.proofs.lemmas.Bool.{and_from, and_parts, both_ways, cases_Bool, eqb-true, eq-eqb, false_from_ne_true, or_cases, or_left, or_right, true≢false}
use Rattle.list_theory.specs.Lists.{distinct, has}
use Rattle.list_theory.proofs.NumberLemmas.{numbers_exact}
use Rattle.list_theory.proofs.ListLemmas.{distinct_parts, has-filter}

-- whether the item comes before each of the list
abbrev pub before_all : (ℕ → ℕ → Bool) → ℕ → List ℕ → Bool
before_all before x [] = true
before_all before x (y ∷ ys) = before x y && before_all before x ys

-- whether each item comes before those behind it
abbrev pub in_order : (ℕ → ℕ → Bool) → List ℕ → Bool
in_order before [] = true
in_order before (x ∷ xs) = before_all before x xs && in_order before xs

module _ (before : ℕ → ℕ → Bool) (one_way : (a b : ℕ) → before a b ≡ true → before b a ≡ false) where
  before_one : (x : ℕ) (ys : List ℕ) (y : ℕ) → before_all before x ys ≡ true → has nat_eq ys y ≡ true → before x y ≡ true
  before_one x [] y all h = absurd (true≢false (sym h))
  before_one x (z ∷ ys) y all h = elim (or_cases (nat_eq z y) (has nat_eq ys y) h) [
    | inl e ↦ ap (before x) (sym (eqb-true z y e)) ∙ (and_parts (before x z) (before_all before x ys) all).0
    | inr r ↦ before_one x ys y (and_parts (before x z) (before_all before x ys) all).1 r
  ]

  -- it isn't among those that it comes before
  not_behind : (x : ℕ) (ys : List ℕ) → before_all before x ys ≡ true → has nat_eq ys x ≡ false
  not_behind x ys all = false_from_ne_true (has nat_eq ys x) (λ h. both_ways (before x x) (one_way x x (before_one x ys x all h)) (before_one x ys x all h))

  same_head : (x y : ℕ) (xs ys : List ℕ) → before_all before x xs ≡ true → before_all before y ys ≡ true → ((k : ℕ) → has nat_eq (x ∷ xs) k ≡ has nat_eq (y ∷ ys) k) → x ≡ y
  same_head x y xs ys all_x all_y same =
      elim (or_cases (nat_eq y x) (has nat_eq ys x) (sym (same x) ∙ or_left (nat_eq x x) (has nat_eq xs x) (numbers_exact.itself x))) [
        | inl e ↦ sym (eqb-true y x e)
        | inr behind ↦ elim (or_cases (nat_eq x y) (has nat_eq xs y) (same y ∙ or_left (nat_eq y y) (has nat_eq ys y) (numbers_exact.itself y))) [
          | inl e ↦ eqb-true x y e
          | inr other ↦ absurd (both_ways (before x y) (one_way y x (before_one y ys x all_y behind)) (before_one x xs y all_x other))
        ]
      ]

  tail_has : (x : ℕ) (xs ys : List ℕ) → before_all before x xs ≡ true → before_all before x ys ≡ true → ((k : ℕ) → has nat_eq (x ∷ xs) k ≡ has nat_eq (x ∷ ys) k) → (k : ℕ) → has nat_eq xs k ≡ has nat_eq ys k
  tail_has x xs ys all_x all_y same k = elim (cases_Bool (nat_eq x k)) [
    | inl e ↦ ap (has nat_eq xs) (sym (eqb-true x k e)) ∙ not_behind x xs all_x ∙ sym (ap (has nat_eq ys) (sym (eqb-true x k e)) ∙ not_behind x ys all_y)
    | inr n ↦ ap (λ b. b || has nat_eq xs k) (sym n) ∙ same k ∙ ap (λ b. b || has nat_eq ys k) n
  ]

  -- two lists in order that have the same items are equal
  pub one_order : (xs ys : List ℕ) → in_order before xs ≡ true → in_order before ys ≡ true → ((k : ℕ) → has nat_eq xs k ≡ has nat_eq ys k) → xs ≡ ys
  one_order [] [] ox oy same = refl
  one_order [] (y ∷ ys) ox oy same = absurd (true≢false (sym (or_left (nat_eq y y) (has nat_eq ys y) (numbers_exact.itself y)) ∙ sym (same y)))
  one_order (x ∷ xs) [] ox oy same = absurd (true≢false (sym (or_left (nat_eq x x) (has nat_eq xs x) (numbers_exact.itself x)) ∙ same x))
  one_order (x ∷ xs) (y ∷ ys) ox oy same =
      let px : (before_all before x xs ≡ true) × (in_order before xs ≡ true) = and_parts (before_all before x xs) (in_order before xs) ox in
      let py : (before_all before y ys ≡ true) × (in_order before ys ≡ true) = and_parts (before_all before y ys) (in_order before ys) oy in
      let head : x ≡ y = same_head x y xs ys px.0 py.0 same in
      let all : before_all before x ys ≡ true = ap (λ z. before_all before z ys) head ∙ py.0 in
      let tails : (k : ℕ) → has nat_eq xs k ≡ has nat_eq ys k = tail_has x xs ys px.0 all (λ k. same k ∙ ap (λ z. nat_eq z k || has nat_eq ys k) (sym head)) in
      ap (λ z. z ∷ xs) head ∙ ap (λ zs. y ∷ zs) (one_order xs ys px.1 py.1 tails)

before_filter : (before : ℕ → ℕ → Bool) (p : ℕ → Bool) (x : ℕ) (ys : List ℕ) → before_all before x ys ≡ true → before_all before x (filter p ys) ≡ true
before_filter before p x [] h = refl
before_filter before p x (y ∷ ys) h =
    let parts : (before x y ≡ true) × (before_all before x ys ≡ true) = and_parts (before x y) (before_all before x ys) h in
    elim (p y) as (λ b. before_all before x (cond b (y ∷ filter p ys) (filter p ys)) ≡ true) [
      | true ↦ and_from (before x y) (before_all before x (filter p ys)) parts.0 (before_filter before p x ys parts.1)
      | false ↦ before_filter before p x ys parts.1
    ]

-- what is filtered stays in order
pub order_filter : (before : ℕ → ℕ → Bool) (p : ℕ → Bool) (xs : List ℕ) → in_order before xs ≡ true → in_order before (filter p xs) ≡ true
order_filter before p [] h = refl
order_filter before p (x ∷ xs) h =
    let parts : (before_all before x xs ≡ true) × (in_order before xs ≡ true) = and_parts (before_all before x xs) (in_order before xs) h in
    elim (p x) as (λ b. in_order before (cond b (x ∷ filter p xs) (filter p xs)) ≡ true) [
      | true ↦ and_from (before_all before x (filter p xs)) (in_order before (filter p xs)) (before_filter before p x xs parts.0) (order_filter before p xs parts.1)
      | false ↦ order_filter before p xs parts.1
    ]

-- keys that rise are in order
before_each : (compare : ℕ → ℕ → Ordering) (x : ℕ) (ys : List ℕ) → AllByRecursion (λ y. compare x y ≡ Less) ys → before_all (λ a b. is_lt (compare a b)) x ys ≡ true
before_each compare x [] h = refl
before_each compare x (y ∷ ys) h = and_from (is_lt (compare x y)) (before_all (λ a b. is_lt (compare a b)) x ys) (ap is_lt h.0) (before_each compare x ys h.1)

order_rising : (compare : ℕ → ℕ → Ordering) (ks : List ℕ) → IsStrictlySortedBy compare ks → in_order (λ a b. is_lt (compare a b)) ks ≡ true
unfolding IsStrictlySortedBy
order_rising compare [] h = refl
order_rising compare (k ∷ ks) h = and_from (before_all (λ a b. is_lt (compare a b)) k ks) (in_order (λ a b. is_lt (compare a b)) ks) (before_each compare k ks h.0) (order_rising compare ks h.1)

module _ (before : ℕ → ℕ → Bool) (weak : IsStrictWeakOrder before) where
  sorted_rest : (x : ℕ) (xs : List ℕ) → IsSortedBy before (x ∷ xs) → IsSortedBy before xs
  sorted_rest x xs h = λ k d low high. simp unary_clauses (simp unary_clauses at (h (suc k) d (omega arith) (omega (arith, high))))

  -- nothing behind an item is before it
  not_before : (x : ℕ) (xs : List ℕ) → IsSortedBy before (x ∷ xs) → (z : ℕ) → has nat_eq xs z ≡ true → before z x ≡ false
  not_before x [] h z w = absurd (true≢false (sym w))
  not_before x (y ∷ ys) h z w =
      let next : before y x ≡ false = h 0 0 (omega arith) (omega arith) in
      elim (or_cases (nat_eq y z) (has nat_eq ys z) w) [
        | inl e ↦ ap (λ v. before v x) (sym (eqb-true y z e)) ∙ next
        | inr r ↦ weak.chain z y x (not_before y ys (sorted_rest x (y ∷ ys) h) z r) next
      ]

  -- of two keys one is before the other
  one_before : (keys : List ℕ) (a b : ℕ) → in_order before keys ≡ true → has nat_eq keys a ≡ true → has nat_eq keys b ≡ true → nat_eq a b ≡ false → before b a ≡ false → before a b ≡ true
  one_before [] a b o ha hb ne not_b = absurd (true≢false (sym ha))
  one_before (k ∷ ks) a b o ha hb ne not_b =
      let parts : (before_all before k ks ≡ true) × (in_order before ks ≡ true) = and_parts (before_all before k ks) (in_order before ks) o in
      elim (or_cases (nat_eq k a) (has nat_eq ks a) ha) [
        | inl is_a ↦ elim (or_cases (nat_eq k b) (has nat_eq ks b) hb) [
          | inl is_b ↦ absurd (both_ways (nat_eq a b) ne (eq-eqb a b (sym (eqb-true k a is_a) ∙ eqb-true k b is_b)))
          | inr in_b ↦ ap (λ v. before v b) (sym (eqb-true k a is_a)) ∙ before_one before weak.one_way k ks b parts.0 in_b
        ]
        | inr in_a ↦ elim (or_cases (nat_eq k b) (has nat_eq ks b) hb) [
          | inl is_b ↦ absurd (both_ways (before b a) not_b (ap (λ v. before v a) (sym (eqb-true k b is_b)) ∙ before_one before weak.one_way k ks a parts.0 in_a))
          | inr in_b ↦ one_before ks a b parts.1 in_a in_b ne not_b
        ]
      ]

  module _ (keys : List ℕ) (ordered : in_order before keys ≡ true) where
    before_rest : (x : ℕ) (xs : List ℕ) → ((z : ℕ) → has nat_eq xs z ≡ true → before x z ≡ true) → before_all before x xs ≡ true
    before_rest x [] each = refl
    before_rest x (y ∷ ys) each = and_from (before x y) (before_all before x ys) (each y (or_left (nat_eq y y) (has nat_eq ys y) (numbers_exact.itself y))) (before_rest x ys (λ z w. each z (or_right (nat_eq y z) (has nat_eq ys z) w)))

    -- keys that are sorted, each once, are in order
    order_sorted : (xs : List ℕ) → IsSortedBy before xs → distinct nat_eq xs ≡ true → ((z : ℕ) → has nat_eq xs z ≡ true → has nat_eq keys z ≡ true) → in_order before xs ≡ true
    order_sorted [] sorted once are = refl
    order_sorted (x ∷ xs) sorted once are =
        let parts : (has nat_eq xs x ≡ false) × (distinct nat_eq xs ≡ true) = distinct_parts nat_eq numbers_exact x xs once in
        let rest : (z : ℕ) → has nat_eq xs z ≡ true → has nat_eq keys z ≡ true = λ z w. are z (or_right (nat_eq x z) (has nat_eq xs z) w) in
        and_from (before_all before x xs) (in_order before xs)
        (before_rest x xs (λ z w. one_before keys x z ordered (are x (or_left (nat_eq x x) (has nat_eq xs x) (numbers_exact.itself x))) (rest z w)
        (false_from_ne_true (nat_eq x z) (λ e. both_ways (has nat_eq xs x) parts.0 (ap (has nat_eq xs) (eqb-true x z e) ∙ w))) (not_before x xs sorted z w)))
        (order_sorted xs (sorted_rest x xs sorted) parts.1 rest)

-- sorted keys that are those that pass a test are what is filtered
pub sorted_filter : (compare : ℕ → ℕ → Ordering) (keys : List ℕ) (p : ℕ → Bool) (ks : List ℕ) → IsOrderOf keys compare → IsSortedBy (λ a b. is_lt (compare a b)) ks → distinct nat_eq ks ≡ true → ((k : ℕ) → has nat_eq ks k ≡ has nat_eq (filter p keys) k) → ks ≡ filter p keys
sorted_filter compare keys p ks order sorted once same =
    let before : ℕ → ℕ → Bool = λ a b. is_lt (compare a b) in
    let ordered : in_order (λ a b. is_lt (compare a b)) keys ≡ true = order_rising compare keys order.rising in
    one_order (λ a b. is_lt (compare a b)) order.weak.one_way ks (filter p keys)
    (order_sorted (λ a b. is_lt (compare a b)) order.weak keys ordered ks sorted once (λ z w. (has-filter nat_eq numbers_exact p keys z (sym (same z) ∙ w)).0))
    (order_filter (λ a b. is_lt (compare a b)) p keys ordered) same
