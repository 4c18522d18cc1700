-- Sums over a list whose terms nowhere fall.
use Rattle.std.proofs.Common.{◌≡◌, refl, ℕ, ◌*◌, ◌<◌, ◌≤◌, Bool, true, false, cond, List, [], ◌∷◌, length, sym, subst, arith}
use Rattle.std.specs.Prelude.{sum_by, All, Contains}
use Rattle.std.proofs.Math.Nat.{lt_of_not-le}
use Rattle.std.proofs.lemmas.Bool.{true≢false}
use Rattle.std.proofs.lemmas.List.Elements.{All-nil, All-cons, All-head, All-tail, All-contains}
use Rattle.std.proofs.lemmas.List.Sums.{sum_by-cons, sum_by-le}

module _ {X : Type 0} (f g : X → ℕ) where
  abbrev pub NoLess : List X → Type 0
  NoLess xs = All (λ x. f x ≤ g x) xs

  pub sum_le : (xs : List X) → NoLess xs → sum_by f xs ≤ sum_by g xs
  sum_le [] le = omega arith
  sum_le (x ∷ xs) le = omega (arith, All-head (λ x. f x ≤ g x) x xs le, sum_le xs (All-tail (λ x. f x ≤ g x) x xs le), sum_by-cons f x xs, sum_by-cons g x xs)

  -- where the sums don't rise, no term does
  pub sums_agree : (xs : List X) → NoLess xs → sum_by g xs ≤ sum_by f xs → All (λ x. g x ≤ f x) xs
  sums_agree [] le sums = All-nil (λ x. g x ≤ f x)
  sums_agree (x ∷ xs) le sums =
      let head = All-head (λ x. f x ≤ g x) x xs le in
      let tail = All-tail (λ x. f x ≤ g x) x xs le in
      let rest = sum_le xs tail in
      All-cons (λ x. g x ≤ f x) x xs (omega (arith, sums, rest, sum_by-cons f x xs, sum_by-cons g x xs))
      (sums_agree xs tail (omega (arith, sums, head, sum_by-cons f x xs, sum_by-cons g x xs)))

  pub agree_at : (xs : List X) → NoLess xs → sum_by g xs ≤ sum_by f xs → (x : X) → Contains xs x → g x ≤ f x
  agree_at xs le sums x had = All-contains (λ x. g x ≤ f x) xs x (sums_agree xs le sums) had

-- a sum of terms that are at most m
pub sum_within : {X : Type 0} (f : X → ℕ) (m : ℕ) (xs : List X) → ((x : X) → f x ≤ m) → sum_by f xs ≤ length xs * m
sum_within f m xs le = sum_by-le f m xs (λ k d h. le _)

-- all terms are 1
ones : {X : Type 0} (xs : List X) → sum_by (λ x. 1) xs ≡ length xs
ones [] = omega arith
ones (x ∷ xs) = omega (arith, ones xs, sum_by-cons (λ x. 1) x xs)

-- a sum of terms that are at most 1, one of which is 0, is less than their number
pub sum_below : {X : Type 0} (f : X → ℕ) (xs : List X) → ((x : X) → f x ≤ 1) → (x : X) → Contains xs x → f x ≤ 0 → sum_by f xs < length xs
sum_below f xs le x had none =
    lt_of_not-le (λ h. let one : 1 ≤ f x = agree_at f (λ x. 1) xs (λ k d lt. le _) (omega (arith, h, ones xs)) x had in absurd (omega (arith, one, none)))

-- TESTS AS NUMBERS

pub one_within : (b : Bool) → cond b 1 0 ≤ 1
one_within true = omega arith
one_within false = omega arith

pub none_within : (b : Bool) → cond b 0 1 ≤ 1
none_within true = omega arith
none_within false = omega arith

pub one_le : (a b : Bool) → (a ≡ true → b ≡ true) → cond a 1 0 ≤ cond b 1 0
one_le true b h = subst (λ c. 1 ≤ cond c 1 0) (sym (h refl)) (omega arith)
one_le false b h = omega arith

pub one_back : (a b : Bool) → cond b 1 0 ≤ cond a 1 0 → b ≡ true → a ≡ true
one_back true b h e = refl
one_back false true h e = absurd (omega (arith, h))
one_back false false h e = e

pub none_le : (a b : Bool) → (b ≡ true → a ≡ true) → cond a 0 1 ≤ cond b 0 1
none_le true b h = omega arith
none_le false true h = absurd (true≢false (sym (h refl)))
none_le false false h = omega arith

pub none_back : (a b : Bool) → cond b 0 1 ≤ cond a 0 1 → a ≡ true → b ≡ true
none_back true true h e = refl
none_back true false h e = absurd (omega (arith, h))
none_back false b h e = absurd (true≢false (sym e))

pub none_zero : (a : Bool) → a ≡ true → cond a 0 1 ≤ 0
none_zero true h = omega arith
none_zero false h = absurd (true≢false (sym h))
