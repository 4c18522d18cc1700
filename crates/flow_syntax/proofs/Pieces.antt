-- Pieces of a text, and why each is the first.
use Rattle.std.proofs.Common.{◌≡◌, ℕ, ◌≤◌, true, false, List, [], ◌∷◌, length, take, drop, Some, None, Option, refl, sym, ap, ◌∙◌, arith, inl, inr, length-append}
use Rattle.std.specs.Prelude.{option_map, find, nat_eq, nat_le, nat_lt, codes, ◌==◌, ◌||◌, IsUtf8, Contains, not}
use Rattle.std.specs.Char.{is_ascii_alphabetic, is_ascii_digit}
use Rattle.std.specs.List.{starts_with, list_all}
use Rattle.std.proofs.lemmas.Bool.{and_parts, or_parts}
use Rattle.std.proofs.lemmas.Bool.Decides.{nat_tests}
use Rattle.std.proofs.lemmas.List.{take_at, length-take-le}
use Rattle.std.proofs.lemmas.Str.{IsUtf8-from_ascii}
use Rattle.std.proofs.lemmas.List.Sums.{prefix_len-le-length}
use Rattle.flow_syntax.specs.declared.lexer.piece.Piece.{Piece}
use Rattle.flow_syntax.specs.declared.lexer.piece.Piece.TheVariants as pieces
use Rattle.flow_syntax.specs.Tokens.{is_blank, is_name_byte, symbols}
use Rattle.flow_syntax.specs.Lexing.{first_piece, piece_at, name_len, digits_len, line_len, symbol_len}
use Rattle.flow_syntax.proofs.Characters.{ascii_text}
use Rattle.flow_syntax.proofs.Fronts.{chosen, front, is_found, all_at, list_all_prefix}

-- Why a piece is the first of bytes that begin with b:
pub data IsPiece (b : ℕ) (bytes : List ℕ) (p : Piece) : Type 0 where
  a_blank : is_blank b ≡ true → p ≡ pieces.Blank 1 → IsPiece b bytes p
  a_name : is_ascii_alphabetic b ≡ true → p ≡ pieces.Name (name_len bytes) → IsPiece b bytes p
  a_number : is_ascii_digit b ≡ true → p ≡ pieces.Number (digits_len bytes) → IsPiece b bytes p
  a_quote : b ≡ 34 → p ≡ pieces.Quote → IsPiece b bytes p
  a_comment : is_blank b ≡ false → starts_with nat_eq bytes (codes "//") ≡ true → p ≡ pieces.Blank (line_len bytes) → IsPiece b bytes p
  a_symbol : (s : List ℕ) → find (λ t. starts_with nat_eq bytes t) symbols ≡ Some s → p ≡ pieces.Symbol (length s) → IsPiece b bytes p

pub mapped : {X Y : Type 0} (f : X → Y) (o : Option X) (y : Y) → option_map f o ≡ Some y → (x : X) × (o ≡ Some x) × (f x ≡ y)
mapped f None y e = cc
mapped f (Some x) y e = (x, refl, cc)

symbol_piece : (bytes : List ℕ) (p : Piece) → option_map pieces.Symbol (symbol_len bytes) ≡ Some p
    → (s : List ℕ) × (find (λ t. starts_with nat_eq bytes t) symbols ≡ Some s) × (p ≡ pieces.Symbol (length s))
symbol_piece bytes p e =
    let n = mapped pieces.Symbol (symbol_len bytes) p e in
    let s = mapped length (find (λ t. starts_with nat_eq bytes t) symbols) n.0 n.1 in
    (s.0, s.1, rw s.2 (sym n.2))

pub is_piece : (b : ℕ) (bytes : List ℕ) (p : Piece) → piece_at b bytes ≡ Some p → IsPiece b bytes p
is_piece b bytes p e = elim (chosen (is_blank b) _ _ _ e) [
  | inl h ↦ a_blank h.0 cc
  | inr h ↦ elim (chosen (is_ascii_alphabetic b) _ _ _ h.1) [
    | inl k ↦ a_name k.0 cc
    | inr k ↦ elim (chosen (is_ascii_digit b) _ _ _ k.1) [
      | inl d ↦ a_number d.0 cc
      | inr d ↦ elim (chosen (b == 34) _ _ _ d.1) [
        | inl q ↦ (let quote : b ≡ 34 = grind (arith, nat_tests) in a_quote quote cc)
        | inr q ↦ elim (chosen (starts_with nat_eq bytes (codes "//")) _ _ _ q.1) [
          | inl m ↦ a_comment h.0 m.0 cc
          | inr m ↦ (let s = symbol_piece bytes p m.1 in a_symbol s.0 s.1 s.2)
        ]
      ]
    ]
  ]
]

-- each symbol has a byte
pub symbols_full : list_all (λ s. nat_le 1 (length s)) symbols ≡ true
symbols_full = refl

front_within : (bytes s : List ℕ) → starts_with nat_eq bytes s ≡ true → length s ≤ length bytes
front_within bytes s h = omega (arith, ap length (front bytes s h), length-append s (drop (length s) bytes))

abbrev piece_len : Piece → ℕ
piece_len (pieces.Blank n) = n
piece_len (pieces.Name n) = n
piece_len (pieces.Number n) = n
piece_len (pieces.Symbol n) = n
piece_len pieces.Quote = 1

within_at : (b : ℕ) (bytes : List ℕ) (p : Piece) → IsPiece b (b ∷ bytes) p → (1 ≤ piece_len p) × (piece_len p ≤ length (b ∷ bytes))
within_at b bytes p (a_blank h e) = rw e (omega arith, omega arith)
within_at b bytes p (a_name k e) = rw e (let passes : is_name_byte b ≡ true = grind (arith, nat_tests) in rw passes (omega arith), prefix_len-le-length is_name_byte (b ∷ bytes))
within_at b bytes p (a_number k e) = rw e (rw k (omega arith), prefix_len-le-length is_ascii_digit (b ∷ bytes))
within_at b bytes p (a_quote k e) = rw e (omega arith, omega arith)
within_at b bytes p (a_comment h m e) = rw e (let other : (b == 10) ≡ false = (or_parts ((b == 32) || (b == 9)) (b == 10) (or_parts ((b == 32) || (b == 9) || (b == 10)) (b == 13) h).0).1 in rw other (omega arith), prefix_len-le-length (λ c. not (c == 10)) (b ∷ bytes))
within_at b bytes p (a_symbol s f e) =
    let found = is_found symbols (b ∷ bytes) s f in
    let full : nat_le 1 (length s) ≡ true = all_at (λ t. nat_le 1 (length t)) symbols s symbols_full found.0 in
    rw e (grind (arith, nat_tests), front_within (b ∷ bytes) s found.1)

-- a piece is of the bytes, and isn't empty
pub piece_within : (bytes : List ℕ) (p : Piece) → first_piece bytes ≡ Some p → (1 ≤ piece_len p) × (piece_len p ≤ length bytes)
piece_within [] p e = cc
piece_within (b ∷ bytes) p e = within_at b bytes p (is_piece b (b ∷ bytes) p e)

pub piece_taken : (bytes : List ℕ) (p : Piece) → first_piece bytes ≡ Some p → length (take (piece_len p) bytes) ≡ piece_len p
piece_taken bytes p e = length-take-le (piece_len p) bytes (piece_within bytes p e).1

pub names_ascii : (bs : List ℕ) → list_all is_name_byte bs ≡ true → list_all (λ b. nat_lt b 128) bs ≡ true
names_ascii [] h = refl
names_ascii (b ∷ bs) h = let parts = and_parts (is_name_byte b) (list_all is_name_byte bs) h in let low : nat_lt b 128 ≡ true = grind (arith, nat_tests) in rw low (names_ascii bs parts.1)

pub digits_ascii : (bs : List ℕ) → list_all is_ascii_digit bs ≡ true → list_all (λ b. nat_lt b 128) bs ≡ true
digits_ascii [] h = refl
digits_ascii (b ∷ bs) h = let parts = and_parts (is_ascii_digit b) (list_all is_ascii_digit bs) h in let low : nat_lt b 128 ≡ true = grind (arith, nat_tests) in rw low (digits_ascii bs parts.1)

pub symbols_ascii : list_all (λ s. list_all (λ b. nat_lt b 128) s) symbols ≡ true
symbols_ascii = refl

-- a piece that is a symbol is one of the table
pub piece_symbol : (bytes : List ℕ) (n : ℕ) → first_piece bytes ≡ Some (pieces.Symbol n) → Contains symbols (take n bytes)
piece_symbol [] n e = cc
piece_symbol (b ∷ bytes) n e = elim (is_piece b (b ∷ bytes) (pieces.Symbol n) e) [
  | a_blank h d ↦ cc
  | a_name h d ↦ cc
  | a_number h d ↦ cc
  | a_quote h d ↦ cc
  | a_comment h m d ↦ cc
  | a_symbol s f d ↦ (let found = is_found symbols (b ∷ bytes) s f in
      let len : n ≡ length s = cc in
      let same : take n (b ∷ bytes) ≡ s = rw len (ap (take (length s)) (front (b ∷ bytes) s found.1) ∙ take_at s (drop (length s) (b ∷ bytes)) (length s) refl) in
      rw same found.0)
]

-- and its text is one
pub symbol_text : (bytes : List ℕ) (n : ℕ) → first_piece bytes ≡ Some (pieces.Symbol n) → IsUtf8 (take n bytes)
symbol_text bytes n e = let text : List ℕ = take n bytes in IsUtf8-from_ascii text (ascii_text text (all_at (λ s. list_all (λ b. nat_lt b 128) s) symbols text symbols_ascii (piece_symbol bytes n e)))

-- so is that of a name
pub name_text : (bytes : List ℕ) (n : ℕ) → first_piece bytes ≡ Some (pieces.Name n) → IsUtf8 (take n bytes)
name_text [] n e = cc
name_text (b ∷ bytes) n e = elim (is_piece b (b ∷ bytes) (pieces.Name n) e) [
  | a_blank h d ↦ cc
  | a_name k d ↦ (let len : n ≡ name_len (b ∷ bytes) = cc in
      let text : List ℕ = take (name_len (b ∷ bytes)) (b ∷ bytes) in
      rw len (IsUtf8-from_ascii text (ascii_text text (names_ascii text (list_all_prefix is_name_byte (b ∷ bytes))))))
  | a_number k d ↦ cc
  | a_quote k d ↦ cc
  | a_comment h m d ↦ cc
  | a_symbol s f d ↦ cc
]
