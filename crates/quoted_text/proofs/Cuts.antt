-- Where a text in UTF-8 may be cut, and bytes of ASCII at its ends.
use Rattle.std.proofs.Common.{◌≡◌, ℕ, ◌+◌, ◌<◌, List, [], ◌∷◌, ◌++◌, length, drop, sym, ap, ◌∙◌, subst, append_assoc, length-append, arith}
use Rattle.std.specs.Prelude.{IsUtf8}
use Rattle.std.specs.Str.{IsCharBoundary}
use Rattle.std.proofs.Math.Seq.{take-append_seam, drop-append_seam, get_or-append_seam}
use Rattle.std.proofs.lemmas.Str.{IsUtf8-append, IsUtf8-from_ascii, IsUtf8-take, IsUtf8-drop, IsCharBoundary-before_ascii, IsCharBoundary-after_ascii}
use Rattle.std.proofs.lemmas.Str.Ascii.{IsAscii-nil, IsAscii-cons}

-- a byte of ASCII
pub ascii_byte : (c : ℕ) → c < 128 → IsUtf8 (c ∷ [])
ascii_byte c h = IsUtf8-from_ascii (c ∷ []) (IsAscii-cons c [] h IsAscii-nil)

-- a byte of ASCII before a text
pub before_text : (c : ℕ) (p : List ℕ) → c < 128 → IsUtf8 p → IsUtf8 (c ∷ p)
before_text c p h k = IsUtf8-append (c ∷ []) p (ascii_byte c h) k

-- a text and a byte of ASCII behind it
pub with_byte : (p : List ℕ) (c : ℕ) → c < 128 → IsUtf8 p → IsUtf8 (p ++ c ∷ [])
with_byte p c h k = IsUtf8-append p (c ∷ []) k (ascii_byte c h)

-- a text before a byte of ASCII, and behind it
pub utf8_before : (a b : List ℕ) (c : ℕ) → c < 128 → IsUtf8 (a ++ c ∷ b) → IsUtf8 a
utf8_before a b c h u =
    subst IsUtf8 (take-append_seam a (c ∷ b))
    (IsUtf8-take (a ++ c ∷ b) (length a) u (IsCharBoundary-before_ascii (a ++ c ∷ b) (length a) (omega (arith, length-append a (c ∷ b))) (subst (λ (n : ℕ). n < 128) (sym (get_or-append_seam a c b 0)) h)))

pub utf8_behind : (a b : List ℕ) (c : ℕ) → c < 128 → IsUtf8 (a ++ c ∷ b) → IsUtf8 b
utf8_behind a b c h u =
    let e : (a ++ c ∷ []) ++ b ≡ a ++ c ∷ b = append_assoc a (c ∷ []) b in
    let n : length (a ++ c ∷ []) ≡ length a + 1 = length-append a (c ∷ []) in
    subst IsUtf8 (ap (λ (xs : List ℕ). drop (length (a ++ c ∷ [])) xs) (sym e) ∙ drop-append_seam (a ++ c ∷ []) b)
    (IsUtf8-drop (a ++ c ∷ b) (length (a ++ c ∷ [])) u
    (subst (λ (i : ℕ). IsCharBoundary (a ++ c ∷ b) i) (sym n) (IsCharBoundary-after_ascii (a ++ c ∷ b) (length a) u (omega (arith, length-append a (c ∷ b))) (subst (λ (m : ℕ). m < 128) (sym (get_or-append_seam a c b 0)) h))))
