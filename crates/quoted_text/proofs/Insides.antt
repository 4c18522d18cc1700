-- Pieces between quotes, and what they stand for.
use Rattle.std.proofs.Common.{◌≡◌, ℕ, ◌<◌, List, [], ◌∷◌, ◌++◌, refl, sym, ap, ◌∙◌, subst, inl, inr, append-nil, append_assoc, lit<}
use Rattle.std.specs.Prelude.{IsUtf8}
use Rattle.std.proofs.lemmas.Str.{IsUtf8-append}
use Rattle.quoted_text.specs.Escapes.{IsEscape, short, octal}
use Rattle.quoted_text.specs.Quotes.{IsPiece, IsInside}
use Rattle.quoted_text.proofs.Cuts.{utf8_before, utf8_behind, with_byte}
use Rattle.quoted_text.proofs.Escapes.{octal_ascii, short_ascii}

-- one piece more between quotes
pub piece_more : (inside chars piece : List ℕ) (value : ℕ) → IsInside inside chars → IsPiece piece value → IsInside (inside ++ piece) (chars ++ value ∷ [])
piece_more inside [] piece value h k = (piece, [], k, refl, ap (λ (xs : List ℕ). xs ++ piece) h ∙ sym (append-nil piece))
piece_more inside (d ∷ chars) piece value h k = (h.0, h.1 ++ piece, h.2, piece_more h.1 chars piece value h.3 k, ap (λ (xs : List ℕ). xs ++ piece) h.4 ∙ append_assoc h.0 h.1 piece)

-- an escape cuts a text, and stands for ASCII
escape_behind : (before escape rest : List ℕ) (value : ℕ) → IsEscape escape value → IsUtf8 (before ++ (escape ++ rest)) → IsUtf8 before × IsUtf8 rest × (value < 128)
escape_behind before escape rest value (short c h e) u =
    let w : IsUtf8 (before ++ 92 ∷ c ∷ rest) = subst (λ (xs : List ℕ). IsUtf8 (before ++ (xs ++ rest))) e u in
    let ascii : (c < 128) × (value < 128) = short_ascii c value h in
    (utf8_before before (c ∷ rest) 92 (lit< tt) w, utf8_behind [] rest c ascii.0 (utf8_behind before (c ∷ rest) 92 (lit< tt) w), ascii.1)
escape_behind before escape rest value (octal a b c ha hb hc v small e) u =
    let w : IsUtf8 (before ++ 92 ∷ a ∷ b ∷ c ∷ rest) = subst (λ (xs : List ℕ). IsUtf8 (before ++ (xs ++ rest))) e u in (
      utf8_before before (a ∷ b ∷ c ∷ rest) 92 (lit< tt) w,
      utf8_behind [] rest c (octal_ascii c hc) (utf8_behind [] (c ∷ rest) b (octal_ascii b hb) (utf8_behind [] (b ∷ c ∷ rest) a (octal_ascii a ha) (utf8_behind before (a ∷ b ∷ c ∷ rest) 92 (lit< tt) w))),
      small,
    )

piece_utf8 : (before inside piece rest text : List ℕ) (c : ℕ) → inside ≡ piece ++ rest → IsPiece piece c → IsUtf8 (before ++ inside) → (IsUtf8 ((before ++ c ∷ []) ++ rest) → IsUtf8 ((before ++ c ∷ []) ++ text)) → IsUtf8 (before ++ c ∷ text)
piece_utf8 before inside piece rest text c e (inl k) u goes_on =
    subst IsUtf8 (append_assoc before (c ∷ []) text) (goes_on (subst IsUtf8 (ap (λ (xs : List ℕ). before ++ xs) (e ∙ ap (λ (xs : List ℕ). xs ++ rest) k.0) ∙ sym (append_assoc before (c ∷ []) rest)) u))
piece_utf8 before inside piece rest text c e (inr k) u goes_on =
    let s : IsUtf8 before × IsUtf8 rest × (c < 128) = escape_behind before piece rest c k (subst (λ (xs : List ℕ). IsUtf8 (before ++ xs)) e u) in
    subst IsUtf8 (append_assoc before (c ∷ []) text) (goes_on (IsUtf8-append (before ++ c ∷ []) rest (with_byte before c s.2 s.0) s.1))

-- what stands between quotes in a text in UTF-8 spells a text in UTF-8
pub spelled_utf8 : (before inside text : List ℕ) → IsInside inside text → IsUtf8 (before ++ inside) → IsUtf8 (before ++ text)
spelled_utf8 before inside [] h u = subst (λ (xs : List ℕ). IsUtf8 (before ++ xs)) h u
spelled_utf8 before inside (c ∷ text) h u = piece_utf8 before inside h.0 h.1 text c h.4 h.2 u (spelled_utf8 (before ++ c ∷ []) h.1 text h.3)

pub inside_utf8 : (front inside rest text : List ℕ) → IsInside inside text → IsUtf8 ((front ++ 34 ∷ inside) ++ 34 ∷ rest) → IsUtf8 text
inside_utf8 front inside rest text h u = spelled_utf8 [] inside text h (utf8_behind front inside 34 (lit< tt) (utf8_before (front ++ 34 ∷ inside) rest 34 (lit< tt) u))
