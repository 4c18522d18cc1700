-- The tables that are built of a tree are those of its system.
use Rattle.std.proofs.Common.{◌≡◌, ◌<◌, ◌≤◌, ◌+◌, ℕ, zero, suc, Bool, true, false, cond, List, [], ◌∷◌, ◌++◌, filter, get_or, length, refl, ap, ◌∙◌, arith}
use Rattle.std.specs.Prelude.{◌||◌, nat_eq}
use Rattle.std.specs.List.{range_with_len}
use Rattle.std.proofs.lemmas.Bool.{or_left, or_right}
use Rattle.std.proofs.lemmas.List.FromFn.{length-range_with_len, get_or-range_with_len}
use Rattle.list_theory.specs.Lists.{has}
use Rattle.list_theory.proofs.NumberLemmas.{numbers_exact}

range_push : (a n : ℕ) → range_with_len a (suc n) ≡ range_with_len a n ++ (a + n) ∷ []
range_push a zero = let e : a ≡ a + 0 = omega arith in ap (λ x. x ∷ []) e
range_push a (suc n) = let e : (a + 1) + n ≡ a + suc n = omega arith in ap (λ xs. a ∷ xs) (range_push (a + 1) n ∙ ap (λ x. range_with_len (a + 1) n ++ x ∷ []) e)

-- one number more
pub range_next : (n : ℕ) → range_with_len 0 (n + 1) ≡ range_with_len 0 n ++ n ∷ []
range_next n =
    let e : n + 1 ≡ suc n = omega arith in
    let z : 0 + n ≡ n = omega arith in
    ap (λ m. range_with_len 0 m) e ∙ range_push 0 n ∙ ap (λ x. range_with_len 0 n ++ x ∷ []) z

-- a number of a range
range_from : (a m k : ℕ) → has nat_eq (range_with_len a m) k ≡ true → (a ≤ k) × (k < a + m)
range_from a zero k h = cc
range_from a (suc m) k h = by (nat_eq a k) refl h (range_from (a + 1) m k)
  where
    by : (b : Bool) → nat_eq a k ≡ b → (b || has nat_eq (range_with_len (a + 1) m) k) ≡ true → (has nat_eq (range_with_len (a + 1) m) k ≡ true → (a + 1 ≤ k) × (k < a + 1 + m)) → (a ≤ k) × (k < a + suc m)
    by true e h later = let same : a ≡ k = numbers_exact.exact a k e in (omega (arith, same), omega (arith, same))
    by false e h later = let r = later h in let one = r.0 in let two = r.1 in (omega (arith, one), omega (arith, two))

pub below_from : (m k : ℕ) → has nat_eq (range_with_len 0 m) k ≡ true → k < m
below_from m k h = let r = (range_from 0 m k h).1 in omega (arith, r)

pub range_rises : (m i j : ℕ) → i < j → j < length (range_with_len 0 m) → get_or (range_with_len 0 m) i 0 < get_or (range_with_len 0 m) j 0
range_rises m i j lt within =
    let hj : j < m = omega (arith, within, length-range_with_len 0 m) in
    let hi : i < m = omega (arith, lt, hj) in
    omega (arith, get_or-range_with_len 0 m i 0 hi, get_or-range_with_len 0 m j 0 hj, lt)

-- a filter of a range by what agrees on it
filter_alike : (p q : ℕ → Bool) (xs : List ℕ) → ((k : ℕ) → has nat_eq xs k ≡ true → p k ≡ q k) → filter p xs ≡ filter q xs
filter_alike p q [] same = refl
filter_alike p q (x ∷ xs) same =
    (λ i. cond (same x (or_left (nat_eq x x) (has nat_eq xs x) (numbers_exact.itself x)) i) (x ∷ filter p xs) (filter p xs))
    ∙ ap (λ (ys : List ℕ). cond (q x) (x ∷ ys) ys) (filter_alike p q xs (λ k h. same k (or_right (nat_eq x k) (has nat_eq xs k) h)))

pub range_filter : (p q : ℕ → Bool) (m : ℕ) → ((k : ℕ) → k < m → p k ≡ q k) → filter p (range_with_len 0 m) ≡ filter q (range_with_len 0 m)
range_filter p q m same = filter_alike p q (range_with_len 0 m) (λ k h. same k (below_from m k h))
