-- What a function of the parser returned, against what reading by the grammar gives.
use Rattle.std.specs.Prelude.{◌≡◌, ℕ, List, Result, Ok, Err, if◌then◌else◌}
use Rattle.flow_syntax.specs.declared.token.Token.{Token}
use Rattle.spec_grammar.specs.declared.cursor.Refusal.{Refusal}
use Rattle.spec_grammar.specs.declared.cursor.Refusal.TheVariants.{Fault, NoMemory}
use Rattle.grammar_theory.specs.Reading.{Outcome, starts_with}
use Rattle.grammar_theory.specs.declared.Cause.{Cause}
use Rattle.grammar_theory.specs.declared.Cause.TheVariants.{Unexpected, TooDeep}
use Rattle.spec_grammar.specs.Kinds.{kind_of}

-- the refusal is the fault that reading gives, unless memory ran out
abbrev pub Fails : {Z : Type 0} → Refusal → Result Z (Cause × List Token) → Type 0
Fails (Fault cause rest) read = read ≡ Err (cause, rest.now)
Fails NoMemory read = Unit {0}

-- what was returned is what reading gives, unless memory ran out
abbrev pub Gives : {X Y : Type 0} → (X → Y × List Token) → Result X Refusal → Outcome Token Y → Type 0
Gives view (Ok x) read = read ≡ Ok (view x)
Gives view (Err e) read = Fails e read

abbrev pub GivesAll : {X : Type 0} → Result X Refusal → Result X (Cause × List Token) → Type 0
GivesAll (Ok x) read = read ≡ Ok x
GivesAll (Err e) read = Fails e read

-- the refusal of a symbol that is nested too deep from its first token on
abbrev pub IsTooDeep : Refusal → List Token → List ℕ → Type 0
IsTooDeep (Fault cause rest) ts f = (cause ≡ (if starts_with kind_of f ts then TooDeep else Unexpected)) × (rest.now ≡ ts)
IsTooDeep NoMemory ts f = Unit {0}
