-- The one spelling of a text stands for it.
use Rattle.std.proofs.Common.{◌≡◌, ℕ, ◌+◌, ◌/◌, ◌%◌, ◌<◌, ◌≤◌, Bool, true, false, Some, List, [], ◌∷◌, ◌++◌, refl, sym, subst, inl, inr, append_assoc, arith, lit<}
use Rattle.std.specs.Prelude.{◌⊎◌, ◌==◌, ◌||◌, if◌then◌else◌, nat_lt, IsUtf8}
use Rattle.std.specs.List.{flat_map}
use Rattle.std.proofs.lemmas.Bool.Decides.{nat_tests}
use Rattle.std.proofs.lemmas.Str.{IsUtf8-nil, IsUtf8-append}
use Rattle.quoted_text.specs.Escapes.{short_escape, octal_value, IsEscape, short, octal}
use Rattle.quoted_text.specs.Quotes.{IsPiece, IsInside, IsQuoted}
use Rattle.quoted_text.specs.Spellings.{octal_escape, byte_text, quoted}
use Rattle.quoted_text.proofs.Cuts.{before_text, with_byte, utf8_before, utf8_behind}
use Rattle.quoted_text.proofs.Escapes.{same_byte, plain_byte, octal_between, octal_parts}

-- what octal digits spell is ASCII
pub control_ascii : (c : ℕ) → (nat_lt c 32 || c == 127) ≡ true → c < 128
control_ascii c h = grind (arith, nat_tests)

octal_piece : (c : ℕ) → c < 128 → IsEscape (octal_escape c) c
octal_piece c h =
    let p : (48 + c / 64 ≤ 49) × (48 + c / 8 % 8 ≤ 55) × (48 + c % 8 ≤ 55) × (octal_value (48 + c / 64) (48 + c / 8 % 8) (48 + c % 8) ≡ c) = octal_parts c h in
    octal (48 + c / 64) (48 + c / 8 % 8) (48 + c % 8) (octal_between (48 + c / 64) (omega arith) (omega (arith, p.0))) (octal_between (48 + c / 8 % 8) (omega arith) p.1) (octal_between (48 + c % 8) (omega arith) p.2) (sym p.3) h refl

-- a byte is written as a piece of itself; as itself, or it is ASCII
record Piece (c : ℕ) (bytes : List ℕ) : Type 0 where
  piece : IsPiece bytes c
  sort : (bytes ≡ c ∷ []) ⊎ ((c < 128) × IsUtf8 bytes)

chosen_piece : (x : Bool) (a b : List ℕ) (c : ℕ) → (x ≡ true → Piece c a) → (x ≡ false → Piece c b) → Piece c (if x then a else b)
chosen_piece true a b c h k = h refl
chosen_piece false a b c h k = k refl

short_piece : (c d : ℕ) → short_escape d ≡ Some c → d < 128 → c < 128 → Piece c (92 ∷ d ∷ [])
short_piece c d h ascii small = record { piece = inr (short d h refl); sort = inr (small, before_text 92 (d ∷ []) (lit< tt) (before_text d [] ascii IsUtf8-nil)) }

short_at : (c n d : ℕ) → c ≡ n → short_escape d ≡ Some n → d < 128 → n < 128 → Piece c (92 ∷ d ∷ [])
short_at c n d e h ascii small = subst (λ (m : ℕ). Piece m (92 ∷ d ∷ [])) (sym e) (short_piece n d h ascii small)

octal_utf8 : (c : ℕ) → c < 128 → IsUtf8 (octal_escape c)
octal_utf8 c h =
    let p : (48 + c / 64 ≤ 49) × (48 + c / 8 % 8 ≤ 55) × (48 + c % 8 ≤ 55) × (octal_value (48 + c / 64) (48 + c / 8 % 8) (48 + c % 8) ≡ c) = octal_parts c h in
    before_text 92 ((48 + c / 64) ∷ (48 + c / 8 % 8) ∷ (48 + c % 8) ∷ []) (lit< tt)
    (before_text (48 + c / 64) ((48 + c / 8 % 8) ∷ (48 + c % 8) ∷ []) (omega (arith, p.0)) (before_text (48 + c / 8 % 8) ((48 + c % 8) ∷ []) (omega (arith, p.1)) (before_text (48 + c % 8) [] (omega (arith, p.2)) IsUtf8-nil)))

byte_piece : (c : ℕ) → Piece c (byte_text 34 c)
byte_piece c =
    chosen_piece (c == 34) _ _ c (λ e. short_at c 34 34 (same_byte c 34 e) refl (lit< tt) (lit< tt)) (λ no_quote.
    chosen_piece (c == 92) _ _ c (λ e. short_at c 92 92 (same_byte c 92 e) refl (lit< tt) (lit< tt)) (λ no_backslash.
    chosen_piece (c == 10) _ _ c (λ e. short_at c 10 110 (same_byte c 10 e) refl (lit< tt) (lit< tt)) (λ _.
    chosen_piece (c == 9) _ _ c (λ e. short_at c 9 116 (same_byte c 9 e) refl (lit< tt) (lit< tt)) (λ _.
    chosen_piece (c == 13) _ _ c (λ e. short_at c 13 114 (same_byte c 13 e) refl (lit< tt) (lit< tt)) (λ _.
    chosen_piece (nat_lt c 32 || c == 127) _ _ c
    (λ e. let small : c < 128 = control_ascii c e in record { piece = inr (octal_piece c small); sort = inr (small, octal_utf8 c small) })
    (λ _. record { piece = inl (refl, plain_byte c no_quote no_backslash); sort = inl refl }))))))

text_inside : (chars : List ℕ) → IsInside (flat_map (byte_text 34) chars) chars
text_inside [] = refl
text_inside (c ∷ chars) = (byte_text 34 c, flat_map (byte_text 34) chars, (byte_piece c).piece, text_inside chars, refl)

pub quoted_is : (chars : List ℕ) → IsQuoted (quoted 34 chars) chars
quoted_is chars = (flat_map (byte_text 34) chars, text_inside chars, refl)

spelling_utf8 : (before bytes chars : List ℕ) (c : ℕ) (rest : List ℕ) → (bytes ≡ c ∷ []) ⊎ ((c < 128) × IsUtf8 bytes) → IsUtf8 (before ++ c ∷ chars) → ((front : List ℕ) → IsUtf8 (front ++ chars) → IsUtf8 (front ++ rest)) → IsUtf8 (before ++ (bytes ++ rest))
spelling_utf8 before bytes chars c rest (inl e) u later =
    subst (λ (xs : List ℕ). IsUtf8 (before ++ (xs ++ rest))) (sym e) (subst IsUtf8 (append_assoc before (c ∷ []) rest) (later (before ++ c ∷ []) (subst IsUtf8 (sym (append_assoc before (c ∷ []) chars)) u)))
spelling_utf8 before bytes chars c rest (inr h) u later =
    IsUtf8-append before (bytes ++ rest) (utf8_before before chars c h.0 u) (IsUtf8-append bytes rest h.1 (later [] (utf8_behind before chars c h.0 u)))

written_utf8 : (chars before : List ℕ) → IsUtf8 (before ++ chars) → IsUtf8 (before ++ flat_map (byte_text 34) chars)
written_utf8 [] before u = u
written_utf8 (c ∷ chars) before u = spelling_utf8 before (byte_text 34 c) chars c (flat_map (byte_text 34) chars) (byte_piece c).sort u (λ front w. written_utf8 chars front w)

pub quoted_utf8 : (chars : List ℕ) → IsUtf8 chars → IsUtf8 (quoted 34 chars)
quoted_utf8 chars u = before_text 34 (flat_map (byte_text 34) chars ++ 34 ∷ []) (lit< tt) (with_byte (flat_map (byte_text 34) chars) 34 (lit< tt) (written_utf8 chars [] u))
