-- Numbers without repeats, told apart by their own test.
use Rattle.std.proofs.Common.{◌≡◌, ◌≢◌, zero, ℕ, ◌<◌, ◌≤◌, suc, true, List, [], ◌∷◌, length, refl, ap, arith, inl, inr}
use Rattle.std.specs.Prelude.{nat_eq}
use Rattle.std.proofs.lemmas.Bool.{or_left, or_right, eqb-true, eqb-false, eq-eqb, cases_Bool}
use Rattle.list_theory.specs.Lists.{has, distinct, IsExact}
use Rattle.list_theory.proofs.ListLemmas.{length_distinct}

pub numbers_exact : IsExact nat_eq
numbers_exact = record { itself = λ a. eq-eqb a a refl; exact = λ a b e. eqb-true a b e }

abbrev below_list : ℕ → List ℕ
below_list zero = []
below_list (suc n) = n ∷ below_list n

length-below_list : (n : ℕ) → length (below_list n) ≡ n
length-below_list zero = refl
length-below_list (suc n) = ap suc (length-below_list n)

has-below_list : (n x : ℕ) → x < n → has nat_eq (below_list n) x ≡ true
has-below_list zero x h = absurd (omega arith)
has-below_list (suc n) x h =
    elim (cases_Bool (nat_eq n x)) [
      | inl e ↦ or_left (nat_eq n x) (has nat_eq (below_list n) x) e
      | inr e ↦ let ne : n ≢ x = eqb-false n x e in or_right (nat_eq n x) (has nat_eq (below_list n) x) (has-below_list n x (omega arith))
    ]

-- there are at most n numbers below n
pub length_distinct_below : (xs : List ℕ) (n : ℕ) → distinct nat_eq xs ≡ true → ((x : ℕ) → has nat_eq xs x ≡ true → x < n) → length xs ≤ n
length_distinct_below xs n once below = omega (arith, length-below_list n, length_distinct nat_eq numbers_exact xs (below_list n) once (λ x h. has-below_list n x (below x h)))
