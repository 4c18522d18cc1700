-- Where the first fault of tokens stands, and what an answer says of it.
use Rattle.std.specs.Prelude.{◌≡◌, ℕ, List, [], ◌∷◌, Result, Ok, Err}
use Rattle.flow_parse.specs.declared.refusal.ParseFaultKind.{ParseFaultKind}
use Rattle.flow_parse.specs.declared.refusal.ParseFaultKind.TheVariants as told
use Rattle.flow_parse.specs.declared.refusal.ParseRefusal.{ParseRefusal}
use Rattle.flow_parse.specs.declared.refusal.ParseRefusal.TheVariants as refusals
use Rattle.flow_syntax.specs.declared.spec.Spec.{Spec}
use Rattle.flow_syntax.specs.declared.token.Token.{Token}
use Rattle.grammar_theory.specs.Faults.{IsFirstFault}
use Rattle.grammar_theory.specs.declared.Cause.{Cause}
use Rattle.grammar_theory.specs.declared.Cause.TheVariants as causes
use Rattle.spec_grammar.specs.Symbols.{Whole}
use Rattle.spec_grammar.specs.Syntax.{spec_syntax, nesting_limit}
use Rattle.spec_grammar.specs.declared.cursor.Refusal.{Refusal}
use Rattle.spec_grammar.specs.declared.cursor.Refusal.TheVariants as scanned

-- the place of the first token
abbrev pub first_place : List Token → ℕ
first_place [] = 0
first_place (t ∷ ts) = t.place

-- The first fault of the tokens stands at this place: some specification begins with the tokens before it, and with its token none does
-- or only one in which it is nested too deep.
pub record IsFaultAt (tokens : List Token) (place : ℕ) (cause : Cause) : Type 0 where
  pub rest : List Token
  pub fault : IsFirstFault spec_syntax nesting_limit Whole tokens cause rest
  pub stands : place ≡ first_place rest

-- the cause that a kind of fault tells
abbrev pub cause_of : ParseFaultKind → Cause
cause_of told.Unexpected = causes.Unexpected
cause_of told.TooDeep = causes.TooDeep

-- A fault that is answered has this.
abbrev pub IfFault : Result Spec ParseRefusal → (ℕ → Cause → Type 0) → Type 0
IfFault (Ok spec) P = Unit {0}
IfFault (Err (refusals.Fault place kind)) P = P place (cause_of kind)
IfFault (Err refusals.NoMemory) P = Unit {0}

-- The answer is this specification, unless memory ran out.
abbrev pub IsParsedAs : Result Spec ParseRefusal → Spec → Type 0
IsParsedAs (Ok read) spec = read ≡ spec
IsParsedAs (Err (refusals.Fault place kind)) spec = ⊥
IsParsedAs (Err refusals.NoMemory) spec = Unit {0}

-- The answer is this fault, unless memory ran out.
abbrev pub IsFaultedAs : Result Spec ParseRefusal → ℕ → Cause → Type 0
IsFaultedAs (Ok read) place cause = ⊥
IsFaultedAs (Err (refusals.Fault at kind)) place cause = (at ≡ place) × (cause_of kind ≡ cause)
IsFaultedAs (Err refusals.NoMemory) place cause = Unit {0}

-- A refusal tells what the refusal of reading is.
abbrev pub Tells : ParseRefusal → Refusal → Type 0
Tells (refusals.Fault place kind) (scanned.Fault cause rest) = (place ≡ first_place rest.now) × (cause_of kind ≡ cause)
Tells refusals.NoMemory (scanned.Fault cause rest) = ⊥
Tells (refusals.Fault place kind) scanned.NoMemory = ⊥
Tells refusals.NoMemory scanned.NoMemory = Unit {0}
