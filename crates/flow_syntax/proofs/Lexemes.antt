-- Tokens in front of bytes, against the first piece of the bytes.
use Rattle.std.proofs.Common.{◌≡◌, ℕ, ◌<◌, ◌≤◌, Bool, true, false, List, [], ◌∷◌, ◌++◌, length, take, Some, None, Option, refl, sym, subst, arith, inl, inr, one-add}
use Rattle.std.specs.Prelude.{◌==◌, ◌&&◌, not, find, nat_eq, codes, Contains, pos}
use Rattle.std.specs.Char.{is_ascii_alphabetic, is_ascii_digit, digit_value}
use Rattle.std.specs.List.{starts_with, list_all}
use Rattle.std.specs.Str.Parse.{IsNumeral, AllDigits, digits_value}
use Rattle.std.proofs.lemmas.Bool.{cases_Bool, and_parts, and_from, false_from_ne_true}
use Rattle.std.proofs.lemmas.Bool.Decides.{nat_tests}
use Rattle.quoted_text.specs.Quotes.{IsInside}
use Rattle.flow_syntax.specs.declared.token.TokenKind.{TokenKind}
use Rattle.flow_syntax.specs.declared.token.TokenKind.TheVariants as kinds
use Rattle.flow_syntax.specs.declared.lexer.piece.Piece.{Piece}
use Rattle.flow_syntax.specs.declared.lexer.piece.Piece.TheVariants as pieces
use Rattle.flow_syntax.specs.Tokens.{is_blank, is_name_byte, symbols, reserved_words, IsName, IsLexeme, identifier, word, symbol, number, quoted}
use Rattle.flow_syntax.specs.Lexing.{first_piece, name_len, digits_len, is_reserved, name_kind}
use Rattle.flow_syntax.proofs.Fronts.{is_longest_first, front, all_at, longest_found, some_found, prefix_of_passing, list_all_prefix, any_found, found_any}
use Rattle.flow_syntax.proofs.Pieces.{a_blank, a_name, a_number, a_quote, a_comment, a_symbol, is_piece}

-- a name, as a test
pub is_name : List ℕ → Bool
is_name [] = false
is_name (b ∷ bs) = is_ascii_alphabetic b && list_all is_name_byte bs

-- a text whose first byte begins nothing but a symbol
is_apart : List ℕ → Bool
is_apart [] = false
is_apart (b ∷ bs) = not (is_blank b) && not (is_ascii_alphabetic b) && not (is_ascii_digit b) && not (b == 34) && not (b == 47)

symbols_apart : list_all is_apart symbols ≡ true
unfolding is_apart
symbols_apart = refl

pub words_named : list_all is_name reserved_words ≡ true
unfolding is_name
words_named = refl

symbols_ordered : is_longest_first symbols ≡ true
unfolding is_longest_first
symbols_ordered = refl

pub named : (text : List ℕ) → IsName text → is_name text ≡ true
unfolding is_name
named [] h = absurd h
named (b ∷ bs) h = and_from (is_ascii_alphabetic b) (list_all is_name_byte bs) h.0 h.1

pub some_name : (text : List ℕ) → is_name text ≡ true → 0 < length text
unfolding is_name
some_name [] h = cc
some_name (b ∷ text) h = omega arith

is_named : (text : List ℕ) → is_name text ≡ true → IsName text
unfolding is_name
is_named [] h = cc
is_named (b ∷ bs) h = and_parts (is_ascii_alphabetic b) (list_all is_name_byte bs) h

-- NUMERALS

digit_small : (b : ℕ) → is_ascii_digit b ≡ true → digit_value b < 10
digit_small b h = grind (arith, nat_tests)

small_digit : (b : ℕ) → digit_value b < 10 → is_ascii_digit b ≡ true
small_digit b h = grind (arith, nat_tests)

pub digits_passing : (bs : List ℕ) → AllDigits 10 bs → list_all is_ascii_digit bs ≡ true
digits_passing [] h = refl
digits_passing (b ∷ bs) h = rw (small_digit b h.0) (digits_passing bs h.1)

passing_digits : (bs : List ℕ) → list_all is_ascii_digit bs ≡ true → AllDigits 10 bs
passing_digits [] h = tt
passing_digits (b ∷ bs) h = let parts = and_parts (is_ascii_digit b) (list_all is_ascii_digit bs) h in (digit_small b parts.0, passing_digits bs parts.1)

pub name_not_number : (text : List ℕ) → is_name text ≡ true → IsNumeral 10 text → ⊥
unfolding is_name
name_not_number [] h n = cc
name_not_number (b ∷ bs) h n =
    let digit = small_digit b n.1.0 in
    let letter = (and_parts (is_ascii_alphabetic b) (list_all is_name_byte bs) h).0 in
    let neither : is_ascii_alphabetic b ≡ false = grind (arith, nat_tests) in
    cc

unset : (b : Bool) → not b ≡ true → b ≡ false
unset true h = cc
unset false h = refl

-- what an apart text begins with
record IsApart (b : ℕ) : Type 0 where
  not_blank : is_blank b ≡ false
  not_letter : is_ascii_alphabetic b ≡ false
  not_digit : is_ascii_digit b ≡ false
  not_quote : (b == 34) ≡ false
  not_slash : (b == 47) ≡ false

apart_parts : (b : ℕ) (bs : List ℕ) → is_apart (b ∷ bs) ≡ true → IsApart b
unfolding is_apart
apart_parts b bs h =
    let p = and_parts (not (is_blank b) && not (is_ascii_alphabetic b) && not (is_ascii_digit b) && not (b == 34)) (not (b == 47)) h in
    let q = and_parts (not (is_blank b) && not (is_ascii_alphabetic b) && not (is_ascii_digit b)) (not (b == 34)) p.0 in
    let r = and_parts (not (is_blank b) && not (is_ascii_alphabetic b)) (not (is_ascii_digit b)) q.0 in
    let s = and_parts (not (is_blank b)) (not (is_ascii_alphabetic b)) r.0 in
    record {
      not_blank = unset (is_blank b) s.0;
      not_letter = unset (is_ascii_alphabetic b) s.1;
      not_digit = unset (is_ascii_digit b) r.1;
      not_quote = unset (b == 34) q.1;
      not_slash = unset (b == 47) p.1;
    }

apart_not_number : (text : List ℕ) → is_apart text ≡ true → IsNumeral 10 text → ⊥
apart_not_number [] h n = absurd (omega (arith, n.0))
apart_not_number (b ∷ bs) h n = let digit = small_digit b n.1.0 in let other = (apart_parts b bs h).not_digit in cc

pub symbol_not_number : (text : List ℕ) → Contains symbols text → IsNumeral 10 text → ⊥
symbol_not_number text c n = apart_not_number text (all_at is_apart symbols text symbols_apart c) n

pub quoted_not_number : (rest : List ℕ) → IsNumeral 10 (34 ∷ rest) → ⊥
quoted_not_number rest n = absurd (omega (arith, n.1.0))

-- A TOKEN IN FRONT OF BYTES TELLS THEIR FIRST PIECE

name_first : (text after : List ℕ) → is_name text ≡ true → first_piece (text ++ after) ≡ Some (pieces.Name (name_len (text ++ after)))
unfolding is_name
name_first [] after h = cc
name_first (b ∷ bs) after h =
    let letter = (and_parts (is_ascii_alphabetic b) (list_all is_name_byte bs) h).0 in
    let other : is_blank b ≡ false = grind (arith, nat_tests) in
    rw (other, letter) refl

number_first : (text after : List ℕ) → 0 < length text → list_all is_ascii_digit text ≡ true → first_piece (text ++ after) ≡ Some (pieces.Number (digits_len (text ++ after)))
number_first [] after some h = absurd (omega arith)
number_first (b ∷ bs) after some h =
    let digit = (and_parts (is_ascii_digit b) (list_all is_ascii_digit bs) h).0 in
    let other : is_blank b ≡ false = grind (arith, nat_tests) in
    let another : is_ascii_alphabetic b ≡ false = grind (arith, nat_tests) in
    rw (other, another, digit) refl

none_apart : is_apart [] ≡ true → ⊥
unfolding is_apart
none_apart e = cc

apart_first : (text after s : List ℕ) → is_apart text ≡ true → find (λ t. starts_with nat_eq (text ++ after) t) symbols ≡ Some s → first_piece (text ++ after) ≡ Some (pieces.Symbol (length s))
apart_first [] after s h f = absurd (none_apart h)
apart_first (b ∷ bs) after s h f =
    let p = apart_parts b bs h in
    let slashes : starts_with nat_eq (b ∷ bs ++ after) (codes "//") ≡ false =
    false_from_ne_true (starts_with nat_eq (b ∷ bs ++ after) (codes "//")) (λ x. let e = front (b ∷ bs ++ after) (codes "//") x in let same : b ≡ 47 = cc in let holds : (b == 47) ≡ true = rw same refl in let fails = p.not_slash in cc) in
    rw (p.not_blank, p.not_letter, p.not_digit, p.not_quote, slashes, f) refl

-- a name is all name bytes
pub name_bytes : (text : List ℕ) → is_name text ≡ true → list_all is_name_byte text ≡ true
unfolding is_name
name_bytes [] h = cc
name_bytes (b ∷ bs) h =
    let parts = and_parts (is_ascii_alphabetic b) (list_all is_name_byte bs) h in
    let passes : is_name_byte b ≡ true = grind (arith, nat_tests) in
    rw passes parts.1

-- what a token in front of bytes is, by their first piece
abbrev pub Covers : Option Piece → List ℕ → TokenKind → Type 0
Covers None text kind = ⊥
Covers (Some (pieces.Blank n)) text kind = ⊥
Covers (Some (pieces.Name n)) text kind = (length text ≤ n) × (is_name text ≡ true) × (kind ≡ name_kind text)
Covers (Some (pieces.Number n)) text kind = (length text ≤ n) × IsNumeral 10 text × (kind ≡ kinds.Number (pos (digits_value 10 text)))
Covers (Some (pieces.Symbol n)) text kind = (length text ≤ n) × Contains symbols text × (kind ≡ kinds.Symbol text)
Covers (Some pieces.Quote) text kind = (inside : List ℕ) × (value : List ℕ) × (text ≡ 34 ∷ inside ++ 34 ∷ []) × IsInside inside value × (kind ≡ kinds.Quoted value)

name_covered : (text after : List ℕ) (kind : TokenKind) → is_name text ≡ true → kind ≡ name_kind text → Covers (first_piece (text ++ after)) text kind
name_covered text after kind h k =
    subst (λ o. Covers o text kind) (sym (name_first text after h)) (prefix_of_passing is_name_byte text after (name_bytes text h), h, k)

covered : (text after : List ℕ) (kind : TokenKind) → IsLexeme text kind → Covers (first_piece (text ++ after)) text kind
covered text after kind (identifier n r) = let none : is_reserved text ≡ false = false_from_ne_true (is_reserved text) (λ h. r (any_found reserved_words text h)) in name_covered text after kind (named text n) (rw none refl)
covered text after kind (word r) = name_covered text after kind (all_at is_name reserved_words text words_named r) (rw (found_any reserved_words text r) refl)
covered text after kind (symbol s) =
    let some = some_found symbols (text ++ after) text after s refl in
    subst (λ o. Covers o text kind) (sym (apart_first text after some.0 (all_at is_apart symbols text symbols_apart s) some.1)) (longest_found symbols (text ++ after) some.0 text after symbols_ordered some.1 s refl, s, refl)
covered text after kind (number n) =
    let passes = digits_passing text n.1 in
    subst (λ o. Covers o text kind) (sym (number_first text after n.0 passes)) (prefix_of_passing is_ascii_digit text after passes, n, refl)
covered text after kind (quoted value (inside, s, e)) =
    let first : first_piece (text ++ after) ≡ Some pieces.Quote = rw e refl in
    subst (λ o. Covers o text kind) (sym first) (inside, value, e, s, refl)

pub covers : (bytes text after : List ℕ) (kind : TokenKind) → bytes ≡ text ++ after → IsLexeme text kind → Covers (first_piece bytes) text kind
covers bytes text after kind e l = subst (λ bs. Covers (first_piece bs) text kind) (sym e) (covered text after kind l)

-- A PIECE IS A TOKEN

pub name_lexeme : (text : List ℕ) → is_name text ≡ true → IsLexeme text (name_kind text)
name_lexeme text h = elim (cases_Bool (is_reserved text)) [
  | inl holds ↦ rw holds (word (any_found reserved_words text holds))
  | inr fails ↦ rw fails (identifier (is_named text h) (λ c. let r : is_reserved text ≡ true = found_any reserved_words text c in cc))
]

-- the name that bytes begin with
pub piece_name : (bytes : List ℕ) (n : ℕ) → first_piece bytes ≡ Some (pieces.Name n) → is_name (take n bytes) ≡ true
unfolding is_name
piece_name [] n e = cc
piece_name (b ∷ bytes) n e = elim (is_piece b (b ∷ bytes) (pieces.Name n) e) [
  | a_blank h d ↦ cc
  | a_name h d ↦ (let len : n ≡ name_len (b ∷ bytes) = cc in
      let passes : is_name_byte b ≡ true = grind (arith, nat_tests) in
      rw len (rw passes (rw one-add (rw h (list_all_prefix is_name_byte bytes)))))
  | a_number h d ↦ cc
  | a_quote h d ↦ cc
  | a_comment h m d ↦ cc
  | a_symbol s f d ↦ cc
]

pub piece_number : (bytes : List ℕ) (n : ℕ) → first_piece bytes ≡ Some (pieces.Number n) → IsNumeral 10 (take n bytes)
piece_number [] n e = cc
piece_number (b ∷ bytes) n e = elim (is_piece b (b ∷ bytes) (pieces.Number n) e) [
  | a_blank h d ↦ cc
  | a_name h d ↦ cc
  | a_number h d ↦ (let len : n ≡ digits_len (b ∷ bytes) = cc in
      let full : 0 < length (take (digits_len (b ∷ bytes)) (b ∷ bytes)) = rw h (rw one-add (omega arith)) in
      rw len (full, passing_digits (take (digits_len (b ∷ bytes)) (b ∷ bytes)) (list_all_prefix is_ascii_digit (b ∷ bytes))))
  | a_quote h d ↦ cc
  | a_comment h m d ↦ cc
  | a_symbol s f d ↦ cc
]

-- THE KIND OF A NAME

pub reserved_kind : (text : List ℕ) → Contains reserved_words text → name_kind text ≡ kinds.Word text
reserved_kind text c = rw (found_any reserved_words text c) refl

pub other_kind : (text : List ℕ) → (Contains reserved_words text → ⊥) → name_kind text ≡ kinds.Ident text
other_kind text h = let none : is_reserved text ≡ false = false_from_ne_true (is_reserved text) (λ r. h (any_found reserved_words text r)) in rw none refl
