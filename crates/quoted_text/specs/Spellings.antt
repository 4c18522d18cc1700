-- The one spelling of a byte and of a text between quotes of a kind, `"` or `'`.
use Rattle.std.specs.Prelude.{ℕ, ◌+◌, ◌/◌, ◌%◌, ◌==◌, ◌||◌, nat_lt, if◌then◌else◌, List, [], ◌∷◌, ◌++◌}
use Rattle.std.specs.List.{flat_map}
use Rattle.quoted_text.specs.declared.spelling.Spelling.{Spelling}
use Rattle.quoted_text.specs.declared.spelling.Spelling.TheVariants.{Plain, Short, Octal}

-- a backslash and three octal digits
abbrev pub octal_escape : ℕ → List ℕ
octal_escape c = 92 ∷ (48 + c / 64) ∷ (48 + c / 8 % 8) ∷ (48 + c % 8) ∷ []

-- one byte between two quotes of this kind: the quote, `\`, line feed, tab and carriage return by their short escapes, other bytes below 32 and
-- 127 by octal digits, and any other as it is
abbrev pub byte_text : ℕ → ℕ → List ℕ
byte_text quote c =
    if c == quote then 92 ∷ quote ∷ [] else (
    if c == 92 then 92 ∷ 92 ∷ [] else (
    if c == 10 then 92 ∷ 110 ∷ [] else (
    if c == 9 then 92 ∷ 116 ∷ [] else (
    if c == 13 then 92 ∷ 114 ∷ [] else (
    if nat_lt c 32 || c == 127 then octal_escape c else c ∷ [])))))

-- a text between two quotes
abbrev pub quoted : ℕ → List ℕ → List ℕ
quoted quote text = quote ∷ (flat_map (byte_text quote) text ++ quote ∷ [])

-- the bytes of a spelling
abbrev pub spelling_text : Spelling → List ℕ
spelling_text (Plain bytes) = bytes
spelling_text (Short bytes) = bytes
spelling_text (Octal bytes) = bytes
