-- What the lexer's functions compute, and what its steps answer.
use Rattle.std.specs.Prelude.{◌≡◌, ℕ, ◌+◌, ◌≤◌, ◌==◌, nat_le, Bool, not, if◌then◌else◌, List, [], ◌∷◌, length, take, drop, Option, Some, None, option_map, option_and_then, find, slice_get, nat_eq, bytes_eq, codes, ℤ, pos, Result, Ok, Err}
use Rattle.std.specs.Char.{is_ascii_alphabetic, is_ascii_digit}
use Rattle.std.specs.List.{list_any, prefix_len, starts_with}
use Rattle.std.specs.Str.Parse.{digits_value}
use Rattle.quoted_text.specs.Escapes.{short_escape, octal_byte}
use Rattle.flow_syntax.specs.declared.token.TokenKind.{TokenKind}
use Rattle.flow_syntax.specs.declared.token.TokenKind.TheVariants as kinds
use Rattle.flow_syntax.specs.declared.lexer.piece.Piece.{Piece}
use Rattle.flow_syntax.specs.declared.lexer.piece.Piece.TheVariants as pieces
use Rattle.flow_syntax.specs.declared.lexer.refusal.LexRefusal.{LexRefusal}
use Rattle.flow_syntax.specs.declared.lexer.refusal.LexRefusal.TheVariants as refusals
use Rattle.flow_syntax.specs.Tokens.{is_blank, is_name_byte, symbols, reserved_words, IsPassed}
use Rattle.flow_syntax.specs.TokenFaults.{IsFaultAt}

abbrev pub name_len : List ℕ → ℕ
name_len bytes = prefix_len is_name_byte bytes

abbrev pub digits_len : List ℕ → ℕ
digits_len bytes = prefix_len is_ascii_digit bytes

-- up to the line feed
abbrev pub line_len : List ℕ → ℕ
line_len bytes = prefix_len (λ b. not (b == 10)) bytes

-- the first symbol of the table that the bytes begin with
abbrev pub symbol_len : List ℕ → Option ℕ
symbol_len bytes = option_map length (find (λ s. starts_with nat_eq bytes s) symbols)

-- the first piece of bytes that begin with b
abbrev pub piece_at : ℕ → List ℕ → Option Piece
piece_at b bytes = if is_blank b then Some (pieces.Blank 1)
    else (if is_ascii_alphabetic b then Some (pieces.Name (name_len bytes))
    else (if is_ascii_digit b then Some (pieces.Number (digits_len bytes))
    else (if b == 34 then Some pieces.Quote
    else (if starts_with nat_eq bytes (codes "//") then Some (pieces.Blank (line_len bytes)) else option_map pieces.Symbol (symbol_len bytes)))))

abbrev pub first_piece : List ℕ → Option Piece
first_piece bytes = option_and_then (λ b. piece_at b bytes) (slice_get bytes 0)

abbrev pub is_reserved : List ℕ → Bool
is_reserved text = list_any (λ w. bytes_eq w text) reserved_words

abbrev pub name_kind : List ℕ → TokenKind
name_kind text = if is_reserved text then kinds.Word text else kinds.Ident text

-- the value of digits, if it's an `i64`
abbrev pub number_of : List ℕ → Option ℤ
number_of digits = if nat_le (digits_value 10 digits) 9223372036854775807 then Some (pos (digits_value 10 digits)) else None

-- a backslash and three octal digits in front: the byte that they stand for, and their length
abbrev pub octal_at : List ℕ → Option (ℕ × ℕ)
octal_at (h ∷ m ∷ l ∷ rest) = option_map (λ b. (b, 4)) (octal_byte h m l)
octal_at _ = None

-- the same, from what the first of these bytes stands for by itself
abbrev pub escape_from : Option ℕ → List ℕ → Option (ℕ × ℕ)
escape_from (Some b) bytes = Some (b, 2)
escape_from None bytes = octal_at bytes

-- the escape of a backslash in front of these bytes: the byte that it stands for, and its length
abbrev pub escape_at : List ℕ → Option (ℕ × ℕ)
escape_at [] = None
escape_at (b ∷ rest) = escape_from (short_escape b) (b ∷ rest)

-- the first piece of quoted bytes: the byte that it stands for, and its length
abbrev pub part_at : List ℕ → Option (ℕ × ℕ)
part_at [] = None
part_at (b ∷ rest) = if b == 34 then None else (if b == 92 then escape_at rest else Some (b, 1))

abbrev pub quoted_kind : List ℕ → Option TokenKind
quoted_kind value = Some (kinds.Quoted value)

-- What was read at a place is passed over, or has the fault.
abbrev pub IsStep : {X : Type 0} → ℕ → List ℕ → (X → Option TokenKind) → Result (X × ℕ) LexRefusal → Type 0
IsStep place bytes kind (Ok x) = (x.1 ≤ length bytes) × IsPassed (take x.1 bytes) (drop x.1 bytes) (kind x.0)
IsStep place bytes kind (Err (refusals.Fault offset fault)) = (n : ℕ) × (offset ≡ place + n) × IsFaultAt bytes n fault
IsStep place bytes kind (Err refusals.NoMemory) = Unit {0}
