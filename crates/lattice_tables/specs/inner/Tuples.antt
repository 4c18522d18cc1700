-- Tuples of numbers below bounds, in their order.
use Rattle.std.specs.Prelude.{ℕ, List, Option}
use Rattle.std.specs.Iterator.{AlwaysYields}
use Rattle.std.specs.List.{range_with_len}
use Rattle.itertools.specs.Product.{rows}

-- an iterator gives these items, and then no more
pub record Gives {S A : Type 0} (steps : S → Option A → S → Type 0) (s : S) (items : List A) : Type 0 where
  pub yields : AlwaysYields steps (λ x. x) s items

abbrev pub numbers_below : ℕ → List ℕ
numbers_below n = range_with_len 0 n

abbrev pub pairs_below : ℕ → ℕ → List (ℕ × ℕ)
pairs_below m n = rows (numbers_below m) (numbers_below n)

abbrev pub triples_below : ℕ → List ((ℕ × ℕ) × ℕ)
triples_below n = rows (pairs_below n n) (numbers_below n)

abbrev pub quadruples_below : ℕ → ℕ → List (((ℕ × ℕ) × ℕ) × ℕ)
quadruples_below m n = rows (rows (pairs_below m n) (numbers_below m)) (numbers_below n)
