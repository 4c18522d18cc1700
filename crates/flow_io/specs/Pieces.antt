-- What a sink takes of the bytes that it is given.
use Rattle.std.specs.Prelude.{◌≡◌, ℕ, ◌<◌, ◌≤◌, List, ◌++◌, Option, length, take}
use Rattle.std.specs.Option.{option_map}

-- a number of bytes of the piece: at least one, unless the piece is empty
abbrev pub IsTakenOf : List ℕ → ℕ → Type 0
IsTakenOf piece n = (n ≤ length piece) × (0 < length piece → 0 < n)

-- what was written, where it is known, and then these bytes
abbrev pub appended : Option (List ℕ) → List ℕ → Option (List ℕ)
appended written bytes = option_map (λ before. before ++ bytes) written

-- some of the bytes were appended, from their front, and not all
abbrev pub GainsPartOf : List ℕ → Option (List ℕ) → Option (List ℕ) → Type 0
GainsPartOf bytes before now = (n : ℕ) × (n < length bytes) × (now ≡ appended before (take n bytes))
