-- Where bytes are no text of tokens.
use Rattle.std.specs.Prelude.{◌≡◌, ◌≢◌, ℕ, ◌+◌, ◌<◌, List, ◌∷◌, ◌++◌, length, codes, IsTrue, Option, Result, Ok, Err, IsUtf8}
use Rattle.std.specs.Char.{IsScalar, encode_utf8}
use Rattle.quoted_text.specs.Quotes.{IsPiece, IsInside}
use Rattle.flow_syntax.specs.declared.lexer.refusal.LexFaultKind.{LexFaultKind}
use Rattle.flow_syntax.specs.declared.lexer.refusal.LexFaultKind.TheVariants as faults
use Rattle.flow_syntax.specs.declared.lexer.refusal.LexRefusal.{LexRefusal}
use Rattle.flow_syntax.specs.declared.lexer.refusal.LexRefusal.TheVariants as refusals
use Rattle.flow_syntax.specs.declared.token.Token.{Token}
use Rattle.flow_syntax.specs.declared.token.TokenKind.{TokenKind}
use Rattle.flow_syntax.specs.Tokens.{is_blank, IsLexeme, IsLongest, IsTooLarge, IsPassed}

-- No character begins these bytes.
abbrev pub BeginsNoCharacter : List ℕ → Type 0
BeginsNoCharacter bytes = (c : ℕ) (after : List ℕ) → IsScalar c → bytes ≢ encode_utf8 c ++ after

-- No token begins these bytes.
abbrev pub BeginsNoToken : List ℕ → Type 0
BeginsNoToken bytes = (text after : List ℕ) (kind : TokenKind) → bytes ≡ text ++ after → ¬ IsLexeme text kind

-- No piece of a quoted text begins these bytes.
abbrev pub BeginsNoPiece : List ℕ → Type 0
BeginsNoPiece bytes = (text after : List ℕ) (b : ℕ) → bytes ≡ text ++ after → ¬ IsPiece text b

-- A fault stands so many bytes behind a place where a blank, a comment or a token is to begin:
pub data IsFaultAt (bytes : List ℕ) : ℕ → LexFaultKind → Type 0 where
  -- a character that begins none of these, and no quoted text either
  bad_character : (b : ℕ) (rest : List ℕ) → bytes ≡ b ∷ rest → ¬ IsTrue (is_blank b) → b ≢ 34 → ((after : List ℕ) → bytes ≢ codes "//" ++ after) → BeginsNoToken bytes
      → IsFaultAt bytes 0 faults.BadCharacter
  -- a backslash that begins no escape, in a quoted text
  bad_escape : (inside rest value : List ℕ) → bytes ≡ 34 ∷ inside ++ 92 ∷ rest → IsInside inside value → BeginsNoPiece (92 ∷ rest) → IsFaultAt bytes (length inside + 1) faults.BadEscape
  -- the quote of a quoted text that doesn't end
  unclosed : (inside value : List ℕ) → bytes ≡ 34 ∷ inside → IsInside inside value → IsFaultAt bytes 0 faults.Unclosed
  -- the first digit of an integer that is too large
  int_range : (text rest : List ℕ) (kind : TokenKind) → bytes ≡ text ++ rest → IsLongest text kind bytes → IsTooLarge text → IsFaultAt bytes 0 faults.IntRange

-- The first fault in bytes of which the first has a given offset stands at an offset:
pub data FaultFrom : ℕ → List ℕ → ℕ → LexFaultKind → Type 0 where
  -- where the bytes begin
  here : {at : ℕ} {bytes : List ℕ} {offset : ℕ} {kind : LexFaultKind} (n : ℕ) → offset ≡ at + n → IsFaultAt bytes n kind → FaultFrom at bytes offset kind
  -- behind what is passed over
  behind : {at : ℕ} {bytes : List ℕ} {offset : ℕ} {kind : LexFaultKind} (text rest : List ℕ) (passed : Option TokenKind) → bytes ≡ text ++ rest → IsPassed text rest passed
      → FaultFrom (at + length text) rest offset kind → FaultFrom at bytes offset kind

-- The bytes are no text of tokens, since they have this fault first:
pub data LexFaulty (bytes : List ℕ) (offset : ℕ) : LexFaultKind → Type 0 where
  -- a byte that begins no character
  not_utf8 : (front rest : List ℕ) → bytes ≡ front ++ rest → offset ≡ length front → IsUtf8 front → 0 < length rest → BeginsNoCharacter rest → LexFaulty bytes offset faults.NotUtf8
  -- the first fault in reading from the left
  in_text : {kind : LexFaultKind} → IsUtf8 bytes → FaultFrom 0 bytes offset kind → LexFaulty bytes offset kind

-- The answer is these tokens, unless memory ran out.
abbrev pub IsLexedAs : Result (List Token) LexRefusal → List Token → Type 0
IsLexedAs (Ok read) tokens = read ≡ tokens
IsLexedAs (Err (refusals.Fault offset kind)) tokens = ⊥
IsLexedAs (Err refusals.NoMemory) tokens = Unit {0}

-- The answer is this fault, unless memory ran out.
abbrev pub IsFaultedAs : Result (List Token) LexRefusal → ℕ → LexFaultKind → Type 0
IsFaultedAs (Ok read) offset kind = ⊥
IsFaultedAs (Err (refusals.Fault o k)) offset kind = (o ≡ offset) × (k ≡ kind)
IsFaultedAs (Err refusals.NoMemory) offset kind = Unit {0}

-- what holds of a fault that is answered
abbrev pub IfFault : {X : Type 0} → Result X LexRefusal → (ℕ → LexFaultKind → Type 0) → Type 0
IfFault (Ok x) P = Unit {0}
IfFault (Err (refusals.Fault offset kind)) P = P offset kind
IfFault (Err refusals.NoMemory) P = Unit {0}
