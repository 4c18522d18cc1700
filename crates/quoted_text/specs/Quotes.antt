-- What stands between double quotes for a text.
use Rattle.std.specs.Prelude.{◌≡◌, ℕ, ◌⊎◌, Bool, not, ◌==◌, ◌&&◌, IsTrue, List, [], ◌∷◌, ◌++◌}
use Rattle.quoted_text.specs.Escapes.{IsEscape}

-- what stands for itself: all but `"` and `\`
abbrev pub is_plain : ℕ → Bool
is_plain c = not (c == 34) && not (c == 92)

-- what stands for one byte: the byte itself, where it is neither `"` nor `\`, or an escape
abbrev pub IsPiece : List ℕ → ℕ → Type 0
IsPiece bytes value = ((bytes ≡ value ∷ []) × IsTrue (is_plain value)) ⊎ IsEscape bytes value

-- what stands between quotes for a text
abbrev pub IsInside : List ℕ → List ℕ → Type 0
IsInside bytes [] = bytes ≡ []
IsInside bytes (c ∷ text) = (piece rest : List ℕ) × IsPiece piece c × IsInside rest text × (bytes ≡ piece ++ rest)

-- a text between quotes
abbrev pub IsQuoted : List ℕ → List ℕ → Type 0
IsQuoted bytes text = (inside : List ℕ) × IsInside inside text × (bytes ≡ 34 ∷ (inside ++ 34 ∷ []))
