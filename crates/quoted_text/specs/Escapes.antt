-- What a backslash and the bytes behind it stand for between quotes.
use Rattle.std.specs.Prelude.{◌≡◌, ℕ, ◌+◌, ◌-◌, ◌*◌, ◌<◌, Bool, ◌==◌, ◌&&◌, nat_le, if◌then◌else◌, IsTrue, Option, Some, None, List, [], ◌∷◌}

-- what one byte behind a backslash stands for: `"`, `\`, and `n`, `t` and `r`
abbrev pub short_escape : ℕ → Option ℕ
short_escape c =
    if c == 34 then Some 34 else (
    if c == 92 then Some 92 else (
    if c == 110 then Some 10 else (
    if c == 116 then Some 9 else (
    if c == 114 then Some 13 else None))))

-- `0` to `7`
abbrev pub is_octal : ℕ → Bool
is_octal c = nat_le 48 c && nat_le c 55

-- `0` and `1`, with which the octal digits of a value below 128 begin
abbrev pub is_low_octal : ℕ → Bool
is_low_octal c = nat_le 48 c && nat_le c 49

-- the number that three octal digits write
abbrev pub octal_value : ℕ → ℕ → ℕ → ℕ
octal_value a b c = ((a - 48) * 8 + (b - 48)) * 8 + (c - 48)

-- the byte that three bytes stand for, if they are octal digits of a value below 128
abbrev pub octal_byte : ℕ → ℕ → ℕ → Option ℕ
octal_byte a b c = if is_low_octal a && is_octal b && is_octal c then Some (octal_value a b c) else None

-- an escape, and the byte that it stands for: a backslash and one byte, or a backslash and three octal digits with a value below 128
pub data IsEscape : List ℕ → ℕ → Type 0 where
  short : {bytes : List ℕ} {value : ℕ} (c : ℕ) → short_escape c ≡ Some value → bytes ≡ 92 ∷ c ∷ [] → IsEscape bytes value
  octal : {bytes : List ℕ} {value : ℕ} (a b c : ℕ) → IsTrue (is_octal a) → IsTrue (is_octal b) → IsTrue (is_octal c) → value ≡ octal_value a b c → value < 128
      → bytes ≡ 92 ∷ a ∷ b ∷ c ∷ [] → IsEscape bytes value
