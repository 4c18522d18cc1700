-- The first of things that have something, by tuples of numbers.
use Rattle.std.specs.Prelude.{◌≡◌, ◌<◌, ◌⊎◌, ℕ, List, ◌∷◌}

-- a tuple stands before another of its length: where the two first differ it has the lesser number
abbrev pub IsBefore : List ℕ → List ℕ → Type 0
IsBefore (x ∷ xs) (y ∷ ys) = (x < y) ⊎ ((x ≡ y) × IsBefore xs ys)
IsBefore _ _ = ⊥

-- it has something, and none whose tuple stands before its own has it
pub record IsFirst {X : Type 0} (tuple_of : X → List ℕ) (Has : X → Type 0) (x : X) : Type 0 where
  pub has : Has x
  pub none_before : (y : X) → IsBefore (tuple_of y) (tuple_of x) → Has y → ⊥
