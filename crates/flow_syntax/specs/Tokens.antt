-- Texts as tokens.
use Rattle.std.specs.Prelude.{◌≡◌, ℕ, ◌+◌, ◌<◌, ◌≤◌, ◌==◌, ◌||◌, Bool, IsTrue, List, [], ◌∷◌, ◌++◌, length, codes, Contains, Option, Some, None, pos, IsUtf8}
use Rattle.std.specs.Char.{is_ascii_alphabetic, is_ascii_alphanumeric}
use Rattle.std.specs.List.{list_all}
use Rattle.std.specs.Str.Parse.{IsNumeral, digits_value}
use Rattle.quoted_text.specs.Quotes.{IsQuoted}
use Rattle.flow_syntax.specs.declared.token.Token.{Token}
use Rattle.flow_syntax.specs.declared.token.TokenKind.{TokenKind}
use Rattle.flow_syntax.specs.declared.token.TokenKind.TheVariants as kinds

-- space, tab, line feed and carriage return
abbrev pub is_blank : ℕ → Bool
is_blank b = (b == 32) || (b == 9) || (b == 10) || (b == 13)

-- a letter, a digit or `_`
abbrev pub is_name_byte : ℕ → Bool
is_name_byte b = is_ascii_alphanumeric b || (b == 95)

abbrev pub symbols : List (List ℕ)
symbols = codes "|->" ∷ codes "->" ∷ codes ":=" ∷ codes "==" ∷ codes "!=" ∷ codes "<=" ∷ codes "<" ∷ codes "=" ∷ codes ":" ∷ codes "(" ∷ codes ")"
    ∷ codes "[" ∷ codes "]" ∷ codes "{" ∷ codes "}" ∷ codes "," ∷ codes "+" ∷ codes "-" ∷ codes "*" ∷ codes "|" ∷ codes "@" ∷ codes "." ∷ codes "_" ∷ []

abbrev pub reserved_words : List (List ℕ)
reserved_words = codes "module" ∷ codes "signature" ∷ codes "sorts" ∷ codes "lattices" ∷ codes "functions" ∷ codes "control" ∷ codes "properties" ∷ codes "rules" ∷ codes "messages"
    ∷ codes "root" ∷ codes "node" ∷ codes "start" ∷ codes "end" ∷ codes "entry" ∷ codes "exit" ∷ codes "this" ∷ codes "prev" ∷ codes "next" ∷ codes "name" ∷ codes "pos"
    ∷ codes "str" ∷ codes "int" ∷ codes "list" ∷ codes "any" ∷ codes "elements" ∷ codes "bottom" ∷ codes "join" ∷ codes "MaySet" ∷ codes "MustSet" ∷ codes "Flat" ∷ codes "Map"
    ∷ codes "Pair" ∷ codes "if" ∷ codes "then" ∷ codes "else" ∷ codes "bind" ∷ codes "yield" ∷ codes "for" ∷ codes "in" ∷ codes "union" ∷ codes "inter" ∷ codes "minus"
    ∷ codes "and" ∷ codes "or" ∷ codes "not" ∷ codes "true" ∷ codes "false" ∷ codes "top" ∷ codes "unreached" ∷ codes "flat" ∷ codes "fst" ∷ codes "snd" ∷ codes "error"
    ∷ codes "warning" ∷ codes "note" ∷ codes "on" ∷ []

-- A name is a letter, followed by letters, digits and `_`.
abbrev pub IsName : List ℕ → Type 0
IsName [] = ⊥
IsName (b ∷ bs) = IsTrue (is_ascii_alphabetic b) × IsTrue (list_all is_name_byte bs)

-- The text is a token of this kind:
pub data IsLexeme (text : List ℕ) : TokenKind → Type 0 where
  -- a name that is no reserved word
  identifier : IsName text → ¬ Contains reserved_words text → IsLexeme text (kinds.Ident text)
  -- a reserved word
  word : Contains reserved_words text → IsLexeme text (kinds.Word text)
  -- a symbol
  symbol : Contains symbols text → IsLexeme text (kinds.Symbol text)
  -- one or more decimal digits
  number : IsNumeral 10 text → IsLexeme text (kinds.Number (pos (digits_value 10 text)))
  -- a quoted text
  quoted : (value : List ℕ) → IsQuoted text value → IsLexeme text (kinds.Quoted value)

-- The text is a token of this kind, and none that these bytes begin with is longer.
pub record IsLongest (text : List ℕ) (kind : TokenKind) (bytes : List ℕ) : Type 0 where
  pub lexeme : IsLexeme text kind
  pub longest : (other after : List ℕ) (k : TokenKind) → bytes ≡ other ++ after → IsLexeme other k → length other ≤ length text

-- an integer above the greatest `i64`
abbrev pub IsTooLarge : List ℕ → Type 0
IsTooLarge text = IsNumeral 10 text × (9223372036854775807 < digits_value 10 text)

-- nothing, or a line feed in front
abbrev pub EndsLine : List ℕ → Type 0
EndsLine [] = Unit {0}
EndsLine (b ∷ rest) = b ≡ 10

-- A text in front of other bytes is passed over, as the token that it is, if it's one:
pub data IsPassed : List ℕ → List ℕ → Option TokenKind → Type 0 where
  -- a blank
  blank : {rest : List ℕ} (b : ℕ) → IsTrue (is_blank b) → IsPassed (b ∷ []) rest None
  -- a comment, which ends with its line
  comment : {rest : List ℕ} (text : List ℕ) → ¬ Contains text 10 → EndsLine rest → IsPassed (codes "//" ++ text) rest None
  -- the longest token, if it's no integer that is too large
  token : {text rest : List ℕ} {kind : TokenKind} → IsLongest text kind (text ++ rest) → ¬ IsTooLarge text → IsPassed text rest (Some kind)

-- the token that is passed over at a place, if it's one
abbrev pub tokens_at : ℕ → Option TokenKind → List Token
tokens_at at None = []
tokens_at at (Some kind) = record { place = at; kind = kind } ∷ []

-- Bytes of which the first has this offset are these tokens, with blanks and comments between them:
pub data TokensFrom : ℕ → List ℕ → List Token → Type 0 where
  -- nothing is left
  finish : {at : ℕ} → TokensFrom at [] (record { place = at; kind = kinds.Eof } ∷ [])
  -- something is passed over
  pass : {at : ℕ} {bytes : List ℕ} {tokens : List Token} (text rest : List ℕ) (kind : Option TokenKind) (later : List Token) → bytes ≡ text ++ rest → tokens ≡ tokens_at at kind ++ later
      → IsPassed text rest kind → TokensFrom (at + length text) rest later → TokensFrom at bytes tokens

-- The bytes are a text of these tokens.
pub record TokenText (bytes : List ℕ) (tokens : List Token) : Type 0 where
  pub utf8 : IsUtf8 bytes
  pub read : TokensFrom 0 bytes tokens

-- each token begins at this place or behind it, and behind where the one before it begins
abbrev pub RiseFrom : ℕ → List Token → Type 0
RiseFrom at [] = Unit {0}
RiseFrom at (t ∷ tokens) = (at ≤ t.place) × RiseFrom (t.place + 1) tokens

-- The places of the tokens rise strictly.
abbrev pub HasRisingPlaces : List Token → Type 0
HasRisingPlaces tokens = RiseFrom 0 tokens

-- The last token is the end of a text of this length.
abbrev pub EndsAt : ℕ → List Token → Type 0
EndsAt len tokens = (front : List Token) × (tokens ≡ front ++ record { place = len; kind = kinds.Eof } ∷ [])
