-- Sets of numbers whose items change places.
use Rattle.std.proofs.Common.{◌≡◌, ℕ, Bool, true, false, not, ◌||◌, List, [], ◌∷◌, refl, sym, ap, ◌∙◌}
use Rattle.std.specs.Prelude.{nat_eq}
use Rattle.std.specs.List.{AllByRecursion, IsDistinct, list_any}
use Rattle.std.specs.List.Sorted.{IsPermutation}
use Rattle.std.proofs.lemmas.Bool.{and_from, and_parts, not-true, not_from_false, or_parts}
use Rattle.std.proofs.lemmas.List.Sorted.{list_any-IsPermutation}
use Rattle.std.proofs.lemmas.Map.Keys.{IsDistinct-IsPermutation}
use Rattle.list_theory.specs.Lists.{distinct, has}
use Rattle.flow_solver.specs.inner.NumberSets.{IsNumberSet}
use Rattle.flow_solver.proofs.LoopLemmas.{same_sym}

has_any : (xs : List ℕ) (k : ℕ) → has nat_eq xs k ≡ list_any (λ x. nat_eq x k) xs
has_any [] k = refl
has_any (x ∷ xs) k = ap (λ b. nat_eq x k || b) (has_any xs k)

-- the same items are there
pub has_permuted : (xs ys : List ℕ) → IsPermutation xs ys → (k : ℕ) → has nat_eq ys k ≡ has nat_eq xs k
has_permuted xs ys moved k = has_any ys k ∙ sym (list_any-IsPermutation (λ x. nat_eq x k) xs ys moved) ∙ sym (has_any xs k)

-- what isn't there differs from each
apart : (x : ℕ) (xs : List ℕ) → has nat_eq xs x ≡ false → AllByRecursion (λ y. nat_eq x y ≡ false) xs
apart x [] h = tt
apart x (y ∷ ys) h = let p : (nat_eq y x ≡ false) × (has nat_eq ys x ≡ false) = or_parts (nat_eq y x) (has nat_eq ys x) h in (same_sym x y ∙ p.0, apart x ys p.1)

apart_back : (x : ℕ) (xs : List ℕ) → AllByRecursion (λ y. nat_eq x y ≡ false) xs → has nat_eq xs x ≡ false
apart_back x [] h = refl
apart_back x (y ∷ ys) h = ap (λ b. b || has nat_eq ys x) (same_sym y x ∙ h.0) ∙ apart_back x ys h.1

apart_all : (xs : List ℕ) → distinct nat_eq xs ≡ true → IsDistinct nat_eq xs
unfolding IsDistinct
apart_all [] h = tt
apart_all (x ∷ xs) h = let p : (not (has nat_eq xs x) ≡ true) × (distinct nat_eq xs ≡ true) = and_parts (not (has nat_eq xs x)) (distinct nat_eq xs) h in (apart x xs (not-true (has nat_eq xs x) p.0), apart_all xs p.1)

distinct_back : (xs : List ℕ) → IsDistinct nat_eq xs → distinct nat_eq xs ≡ true
unfolding IsDistinct
distinct_back [] h = refl
distinct_back (x ∷ xs) h = and_from (not (has nat_eq xs x)) (distinct nat_eq xs) (not_from_false (has nat_eq xs x) (apart_back x xs h.0)) (distinct_back xs h.1)

-- and each once still
pub distinct_permuted : (xs ys : List ℕ) → IsPermutation xs ys → distinct nat_eq xs ≡ true → distinct nat_eq ys ≡ true
distinct_permuted xs ys moved once = distinct_back ys (IsDistinct-IsPermutation nat_eq same_sym xs ys moved (apart_all xs once))

pub set_permuted : (items items' : List ℕ) (marks : List Bool) → IsPermutation items items' → IsNumberSet items marks → IsNumberSet items' marks
set_permuted items items' marks moved set = record {
  once = distinct_permuted items items' moved set.once;
  marked = λ x. set.marked x ∙ sym (has_permuted items items' moved x);
}
