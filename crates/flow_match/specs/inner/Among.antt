-- The first of some that are given by their numbers.
use Rattle.std.specs.Prelude.{ℕ, List, [], ◌∷◌, Option, None, slice_get, option_and_then}
use Rattle.std.specs.Option.{option_or}

-- what the first of those with these numbers gives that gives something
abbrev pub first_among : {X Y : Type 0} → (ℕ → X → Option Y) → List X → List ℕ → Option Y
first_among f xs [] = None
first_among f xs (n ∷ numbers) = option_or (option_and_then (f n) (slice_get xs n)) (first_among f xs numbers)
