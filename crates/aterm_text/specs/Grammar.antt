-- The profile of ATerm texts: which bytes are a text of which term.
use Rattle.std.specs.Prelude.{◌≡◌, ℕ, zero, suc, ℤ, pos, negsuc, ◌-◌, ◌<◌, ◌≤◌, ◌^◌, ◌⊎◌, Bool, true, false, IsTrue, IsUtf8, List, [], ◌∷◌, ◌++◌, length, map}
use Rattle.std.specs.List.{AllByRecursion}
use Rattle.std.specs.Int.Digits.{number_from_digits}
use Rattle.flow_term.specs.Trees.{term_size, term_depth}
use Rattle.flow_term.specs.declared.term.Term.{Term, roll-Term}
use Rattle.flow_term.specs.declared.term.Kind.{Kind}
use Rattle.flow_term.specs.declared.term.Kind.TheVariants as kind
use Rattle.quoted_text.specs.Quotes.{IsQuoted}
use Rattle.aterm_text.specs.declared.class.ByteClass.TheVariants.{Letter, Digit, Blank}
use Rattle.aterm_text.specs.Bytes.{class_of, is_in_symbol}

-- a term of its kind and its annotations
abbrev pub term : Kind → List Term → Term
term k annos = roll-Term (record { kind = k; annos = annos })

-- any number of spaces, tabs, line feeds and carriage returns
abbrev pub IsBlank : List ℕ → Type 0
IsBlank bytes = AllByRecursion (λ c. class_of c ≡ Blank) bytes

-- a letter or `_`, and then letters, `_`, digits and signs
abbrev pub IsSymbol : List ℕ → Type 0
IsSymbol [] = ⊥
IsSymbol (c ∷ cs) = (class_of c ≡ Letter) × AllByRecursion (λ d. IsTrue (is_in_symbol (class_of d))) cs

-- a name: itself, where it is a symbol, or between quotes
abbrev pub IsName : List ℕ → List ℕ → Type 0
IsName bytes name = (IsSymbol name × (bytes ≡ name)) ⊎ IsQuoted bytes name

-- one digit or more
pub record IsDigits (bytes : List ℕ) : Type 0 where
  pub digits : AllByRecursion (λ c. class_of c ≡ Digit) bytes
  pub some : 1 ≤ length bytes

-- the number that digits write
abbrev pub number_of : List ℕ → ℕ
number_of bytes = number_from_digits 10 (map (λ c. c - 48) bytes)

-- a number, or the one below zero
abbrev pub signed : Bool → ℕ → ℤ
signed false n = pos n
signed true zero = pos 0
signed true (suc n) = negsuc n

-- the sign of a number: nothing, or `-`
abbrev pub sign_text : Bool → List ℕ
sign_text false = []
sign_text true = 45 ∷ []

-- an optional `-`, directly followed by digits
pub record IsNumeral (bytes : List ℕ) (n : ℤ) : Type 0 where
  pub negative : Bool
  pub digits : List ℕ
  pub are_digits : IsDigits digits
  pub value : n ≡ signed negative (number_of digits)
  pub whole : bytes ≡ sign_text negative ++ digits

-- -2^63 to 2^63 - 1
abbrev pub IsI64 : ℤ → Type 0
IsI64 (pos n) = n < 2 ^ 63
IsI64 (negsuc n) = n < 2 ^ 63

mutual
  -- one term, from its first byte to its last: its body alone, or the body and its annotations between braces
  pub data IsTerm : List ℕ → Term → Type 0 where
    bare : {bytes : List ℕ} {t : Term} (k : Kind) → IsBody bytes k → t ≡ term k [] → IsTerm bytes t
    annotated : {bytes : List ℕ} {t : Term} (body blank inside : List ℕ) (k : Kind) (annos : List Term) → IsBody body k → IsBlank blank → AreTerms inside annos
        → t ≡ term k annos → bytes ≡ body ++ (blank ++ 123 ∷ (inside ++ 125 ∷ [])) → IsTerm bytes t

  -- `name`, `name(..)` or `"name"(..)`, `"text"`, `(..)`, `[..]`, a number
  pub data IsBody : List ℕ → Kind → Type 0 where
    symbol : {bytes : List ℕ} {k : Kind} → IsSymbol bytes → k ≡ kind.Apply bytes [] → IsBody bytes k
    application : {bytes : List ℕ} {k : Kind} (spelled name blank inside : List ℕ) (args : List Term) → IsName spelled name → IsBlank blank → AreTerms inside args
        → k ≡ kind.Apply name args → bytes ≡ spelled ++ (blank ++ 40 ∷ (inside ++ 41 ∷ [])) → IsBody bytes k
    text : {bytes : List ℕ} {k : Kind} (chars : List ℕ) → IsQuoted bytes chars → k ≡ kind.Str chars → IsBody bytes k
    tuple : {bytes : List ℕ} {k : Kind} (inside : List ℕ) (terms : List Term) → AreTerms inside terms → k ≡ kind.Tuple terms → bytes ≡ 40 ∷ (inside ++ 41 ∷ []) → IsBody bytes k
    items : {bytes : List ℕ} {k : Kind} (inside : List ℕ) (terms : List Term) → AreTerms inside terms → k ≡ kind.Items terms → bytes ≡ 91 ∷ (inside ++ 93 ∷ []) → IsBody bytes k
    number : {bytes : List ℕ} {k : Kind} (n : ℤ) → IsNumeral bytes n → IsI64 n → k ≡ kind.Int n → IsBody bytes k

  -- what stands between brackets: blanks alone, or terms with commas between them
  pub data AreTerms : List ℕ → List Term → Type 0 where
    none : {bytes : List ℕ} {ts : List Term} → IsBlank bytes → ts ≡ [] → AreTerms bytes ts
    some : {bytes : List ℕ} {ts : List Term} → AreItems bytes ts → AreTerms bytes ts

  -- one term or more, each with blanks round it, and a comma between two
  pub data AreItems : List ℕ → List Term → Type 0 where
    single : {bytes : List ℕ} {ts : List Term} (before spelling behind : List ℕ) (t : Term) → IsBlank before → IsTerm spelling t → IsBlank behind
        → ts ≡ t ∷ [] → bytes ≡ before ++ (spelling ++ behind) → AreItems bytes ts
    further : {bytes : List ℕ} {ts : List Term} (before spelling behind rest : List ℕ) (t : Term) (others : List Term) → IsBlank before → IsTerm spelling t → IsBlank behind
        → AreItems rest others → ts ≡ t ∷ others → bytes ≡ before ++ (spelling ++ (behind ++ 44 ∷ rest)) → AreItems bytes ts

-- The bytes are a text of the term, however deep and large it is: UTF-8, and the term with blanks round it.
pub record IsText (bytes : List ℕ) (t : Term) : Type 0 where
  pub utf8 : IsUtf8 bytes
  pub before : List ℕ
  pub spelling : List ℕ
  pub behind : List ℕ
  pub blank_before : IsBlank before
  pub spells : IsTerm spelling t
  pub blank_behind : IsBlank behind
  pub whole : bytes ≡ before ++ (spelling ++ behind)

-- The bytes are a text of the term, which is within the limits: its depth is at most 512, and it has at most 2^20 terms.
pub record TermText (bytes : List ℕ) (t : Term) : Type 0 where
  pub is_text : IsText bytes t
  pub shallow : term_depth t ≤ 512
  pub small : term_size t ≤ 2 ^ 20
