-- The table of faults: what stands where in a text, and which is the first.
use Rattle.std.specs.Prelude.{◌≡◌, ℕ, ◌+◌, ◌<◌, ◌≤◌, ◌^◌, ◌⊎◌, Bool, true, false, ◌==◌, ◌||◌, IsTrue, IsUtf8, List, [], ◌∷◌, ◌++◌, length, sum_by, ℤ}
use Rattle.std.specs.Str.{IsValidUpTo}
use Rattle.flow_term.specs.Trees.{parts, term_size}
use Rattle.flow_term.specs.declared.term.Term.{Term}
use Rattle.flow_term.specs.declared.term.Kind.{out-Kind}
use Rattle.quoted_text.specs.Escapes.{IsEscape}
use Rattle.quoted_text.specs.Quotes.{IsInside}
use Rattle.aterm_text.specs.declared.class.ByteClass.{ByteClass}
use Rattle.aterm_text.specs.declared.class.ByteClass.TheVariants.{Digit}
use Rattle.aterm_text.specs.declared.open.Open.{Open}
use Rattle.aterm_text.specs.declared.open.Opener.{Opener}
use Rattle.aterm_text.specs.declared.open.Opener.TheVariants.{Call, Tuple, Items, Annotations}
use Rattle.aterm_text.specs.declared.refusal.TermFaultKind.{TermFaultKind}
use Rattle.aterm_text.specs.declared.refusal.TermFaultKind.TheVariants.{NotUtf8, Unexpected, Shared, Placeholder, Real, Blob, BadEscape, IntRange, TooDeep, TooMany}
use Rattle.aterm_text.specs.Bytes.{class_of, is_real_mark, begins_term}
use Rattle.aterm_text.specs.Grammar.{IsBlank, IsName, IsNumeral, IsI64, IsTerm, IsBody, IsText}

-- Some text begins with these bytes, however deep and large its term is.
pub record Begins (bytes : List ℕ) : Type 0 where
  pub more : List ℕ
  pub value : Term
  pub text : IsText (bytes ++ more) value

-- from the first byte of a term to a bracket of it that is open
abbrev pub IsHead : Opener → List ℕ → Type 0
IsHead (Call name) bytes = (spelled blank : List ℕ) × IsName spelled name × IsBlank blank × (bytes ≡ spelled ++ (blank ++ 40 ∷ []))
IsHead Tuple bytes = bytes ≡ 40 ∷ []
IsHead Items bytes = bytes ≡ 91 ∷ []
IsHead (Annotations kind) bytes = (body blank : List ℕ) × IsBody body kind × IsBlank blank × (bytes ≡ body ++ (blank ++ 123 ∷ []))

-- the terms behind an open bracket so far, each with its comma, and blanks
pub data AreFollowed : List Term → List ℕ → Type 0 where
  no_item : {ts : List Term} {bytes : List ℕ} → ts ≡ [] → IsBlank bytes → AreFollowed ts bytes
  item : {ts : List Term} {bytes : List ℕ} (us : List Term) (t : Term) (inside spelling behind blank : List ℕ) → AreFollowed us inside → IsTerm spelling t → IsBlank behind → IsBlank blank
      → ts ≡ us ++ t ∷ [] → bytes ≡ inside ++ (spelling ++ (behind ++ 44 ∷ blank)) → AreFollowed ts bytes

-- A term is to begin behind these bytes, inside these open brackets, of which the innermost comes first.
abbrev pub IsDue : List Open → List ℕ → Type 0
IsDue [] bytes = IsBlank bytes
IsDue (o ∷ below) bytes = (front head inside : List ℕ) × IsDue below front × IsHead o.opener head × AreFollowed o.items inside × (bytes ≡ front ++ (head ++ inside))

-- how many terms have begun inside these open brackets, those with the brackets included
abbrev pub opener_size : Opener → ℕ
opener_size (Annotations kind) = sum_by term_size (parts (out-Kind kind))
opener_size _ = 0

abbrev pub begun_in : List Open → ℕ
begun_in [] = 0
begun_in (o ∷ below) = 1 + opener_size o.opener + sum_by term_size o.items + begun_in below

-- the first byte is one of these
abbrev pub StartsWith : (ℕ → Bool) → List ℕ → Type 0
StartsWith p [] = ⊥
StartsWith p (c ∷ rest) = IsTrue (p c)

-- a number ends before these bytes, and is an integer
abbrev pub is_digit : ByteClass → Bool
is_digit Digit = true
is_digit _ = false

abbrev pub continues_number : ℕ → Bool
continues_number c = is_digit (class_of c) || is_real_mark c || c == 58

abbrev pub EndsNumber : List ℕ → Type 0
EndsNumber [] = Unit {0}
EndsNumber (c ∷ rest) = continues_number c ≡ false

-- a number stands where a term is to begin, and these bytes behind it
pub record NumberBetween (front rest : List ℕ) (n : ℤ) (behind : List ℕ) : Type 0 where
  pub stack : List Open
  pub due : IsDue stack front
  pub numeral : List ℕ
  pub is_numeral : IsNumeral numeral n
  pub whole : rest ≡ numeral ++ behind

-- a backslash stands inside quotes, and no escape begins with it
pub record BadEscapeBetween (front rest : List ℕ) : Type 0 where
  pub stack : List Open
  pub outside : List ℕ
  pub due : IsDue stack outside
  pub inside : List ℕ
  pub text : List ℕ
  pub is_inside : IsInside inside text
  pub place : front ≡ outside ++ 34 ∷ inside
  pub backslash : StartsWith (λ c. c == 92) rest
  pub no_escape : (escape tail : List ℕ) (value : ℕ) → rest ≡ escape ++ tail → ¬ IsEscape escape value

-- no text goes on with the first byte of the rest; at the end, the bytes are no text
abbrev pub CannotGoOn : List ℕ → List ℕ → Type 0
CannotGoOn front [] = (t : Term) → ¬ IsText front t
CannotGoOn front (c ∷ rest) = ¬ Begins (front ++ c ∷ [])

-- The rows of the table: what stands behind a front of the text, and before the rest.
abbrev pub StandsBetween : TermFaultKind → List ℕ → List ℕ → Type 0
StandsBetween NotUtf8 front rest = IsValidUpTo (front ++ rest) (length front)
StandsBetween Shared front rest = ((stack : List Open) × IsDue stack front) × StartsWith (λ c. c == 33) rest
StandsBetween Placeholder front rest = ((stack : List Open) × IsDue stack front) × StartsWith (λ c. c == 60) rest
StandsBetween Real front rest = (n : ℤ) × (behind : List ℕ) × NumberBetween front rest n behind × StartsWith is_real_mark behind
StandsBetween Blob front rest = (n : ℤ) × (behind : List ℕ) × NumberBetween front rest n behind × StartsWith (λ c. c == 58) behind
StandsBetween IntRange front rest = (n : ℤ) × (behind : List ℕ) × NumberBetween front rest n behind × EndsNumber behind × ¬ IsI64 n
StandsBetween BadEscape front rest = BadEscapeBetween front rest
StandsBetween TooDeep front rest = (stack : List Open) × IsDue stack front × (length stack ≡ 512) × StartsWith (λ c. begins_term (class_of c)) rest
StandsBetween TooMany front rest = (stack : List Open) × IsDue stack front × (begun_in stack ≡ 2 ^ 20) × StartsWith (λ c. begins_term (class_of c)) rest
StandsBetween Unexpected front rest = Begins front × CannotGoOn front rest

-- all rows but the first are of texts in UTF-8
abbrev pub IsReadable : TermFaultKind → List ℕ → Type 0
IsReadable NotUtf8 bytes = Unit {0}
IsReadable _ bytes = IsUtf8 bytes

-- A row of the table stands at the offset.
pub record IsFault (bytes : List ℕ) (offset : ℕ) (kind : TermFaultKind) : Type 0 where
  pub readable : IsReadable kind bytes
  pub front : List ℕ
  pub rest : List ℕ
  pub whole : bytes ≡ front ++ rest
  pub place : length front ≡ offset
  pub stands : StandsBetween kind front rest

-- which comes first where several stand at one byte; the order of those that can't is of no account
abbrev pub rank : TermFaultKind → ℕ
rank NotUtf8 = 0
rank TooDeep = 1
rank TooMany = 2
rank Real = 3
rank Blob = 4
rank IntRange = 5
rank Shared = 6
rank Placeholder = 7
rank BadEscape = 8
rank Unexpected = 9

-- a place and a kind come before others, or are the same
abbrev pub ComesFirst : ℕ → TermFaultKind → ℕ → TermFaultKind → Type 0
ComesFirst offset kind other k = (offset < other) ⊎ ((offset ≡ other) × (rank kind ≤ rank k))

-- A row of the table stands at the offset, and no row before it.
pub record TermFaulty (bytes : List ℕ) (offset : ℕ) (kind : TermFaultKind) : Type 0 where
  pub stands : IsFault bytes offset kind
  pub first : (other : ℕ) (k : TermFaultKind) → IsFault bytes other k → ComesFirst offset kind other k
