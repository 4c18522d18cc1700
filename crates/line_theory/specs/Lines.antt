-- The lines of a text.
use Rattle.std.specs.Prelude.{◌≡◌, ◌==◌, ℕ, Bool, true, not, if◌then◌else◌, List, [], ◌∷◌, ◌++◌}
use Rattle.std.specs.List.{list_all}

-- whether no such byte is there
abbrev pub lacks : ℕ → List ℕ → Bool
lacks byte = list_all (λ b. not (b == byte))

-- the bytes are these before the first such byte, it, and these behind it
pub record IsSplit (byte : ℕ) (bytes front behind : List ℕ) : Type 0 where
  pub first : lacks byte front ≡ true
  pub whole : bytes ≡ front ++ byte ∷ behind

-- a byte put in front of the first line
abbrev pub before_first : ℕ → List (List ℕ) → List (List ℕ)
before_first b [] = (b ∷ []) ∷ []
before_first b (line ∷ lines) = (b ∷ line) ∷ lines

-- the lines of a text, each with its line feed; the last may lack it
abbrev pub lines_of : List ℕ → List (List ℕ)
lines_of [] = []
lines_of (b ∷ bs) = if b == 10 then (10 ∷ []) ∷ lines_of bs else before_first b (lines_of bs)
