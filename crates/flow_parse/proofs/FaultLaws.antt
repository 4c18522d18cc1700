-- What the answer of reading all tokens says of the specification and of the first fault.
use Rattle.std.proofs.Common.{◌≡◌, ℕ, List, Result, Ok, Err, sym, ap, ◌∙◌}
use Rattle.flow_syntax.specs.declared.spec.Spec.{Spec}
use Rattle.flow_syntax.specs.declared.token.Token.{Token}
use Rattle.grammar_theory.specs.Faults.{IsText}
use Rattle.grammar_theory.specs.declared.Cause.{Cause}
use Rattle.spec_grammar.proofs.Wholes.{all_only, all_fault, all_fault_only}
use Rattle.spec_grammar.specs.Reading.{reads_all}
use Rattle.spec_grammar.specs.Symbols.{Whole}
use Rattle.spec_grammar.specs.Syntax.{spec_syntax, nesting_limit}
use Rattle.spec_grammar.specs.Gives.{Fails}
use Rattle.spec_grammar.specs.declared.cursor.Refusal.{Refusal}
use Rattle.spec_grammar.specs.declared.cursor.Refusal.TheVariants as scanned
use Rattle.flow_parse.specs.Faults.{IfFault, IsFaultAt, IsFaultedAs, IsParsedAs, Tells, first_place}
use Rattle.flow_parse.specs.declared.refusal.ParseRefusal.{ParseRefusal}
use Rattle.flow_parse.specs.declared.refusal.ParseRefusal.TheVariants as refusals

-- ** where a specification is read

pub read_only : (ts : List Token) (spec : Spec) → reads_all ts ≡ Ok spec → (other : Spec) → IsText spec_syntax nesting_limit Whole ts other → spec ≡ other
read_only ts spec e other t = let d = all_only ts other t in cc

pub read_first : (ts : List Token) (spec : Spec) → reads_all ts ≡ Ok spec → (place : ℕ) (cause : Cause) → ¬ IsFaultAt ts place cause
read_first ts spec e place cause g = let d = all_fault_only ts cause g.rest g.fault in absurd cc

-- ** where reading fails

pub told_only : (answer : ParseRefusal) (r : Refusal) (ts : List Token) → Tells answer r → Fails r (reads_all ts) → (spec : Spec) → IsText spec_syntax nesting_limit Whole ts spec → IsParsedAs (Err answer) spec
told_only (refusals.Fault place kind) (scanned.Fault cause rest) ts h f spec t = let e = all_only ts spec t in absurd cc
told_only (refusals.Fault place kind) scanned.NoMemory ts h f spec t = absurd h
told_only refusals.NoMemory r ts h f spec t = tt

pub told_fault : (answer : ParseRefusal) (r : Refusal) (ts : List Token) → Tells answer r → Fails r (reads_all ts) → IfFault (Err answer) (IsFaultAt ts)
told_fault (refusals.Fault place kind) (scanned.Fault cause rest) ts h f = record { rest = rest.now; fault = rw h.1 (all_fault ts cause rest.now f); stands = h.0 }
told_fault (refusals.Fault place kind) scanned.NoMemory ts h f = absurd h
told_fault refusals.NoMemory r ts h f = tt

same_error : {A E : Type 0} (o : Result A E) (d e : E) → o ≡ Err d → o ≡ Err e → d ≡ e
same_error o d e h g = cc

same_fault : {A B E : Type 0} (o : Result A (B × E)) (b c : B) (d e : E) → o ≡ Err (b, d) → o ≡ Err (c, e) → (b ≡ c) × (d ≡ e)
same_fault {B = B} {E = E} o b c d e h g = let p = same_error {E = B × E} o (b, d) (c, e) h g in (ap (λ x. x.0) p, ap (λ x. x.1) p)

pub told_first : (answer : ParseRefusal) (r : Refusal) (ts : List Token) → Tells answer r → Fails r (reads_all ts) → (place : ℕ) (cause : Cause) → IsFaultAt ts place cause → IsFaultedAs (Err answer) place cause
told_first (refusals.Fault at kind) (scanned.Fault cause rest) ts h f place other g =
    let same = same_fault (reads_all ts) cause other rest.now g.rest f (all_fault_only ts other g.rest g.fault) in
    (h.0 ∙ ap first_place same.1 ∙ sym g.stands, h.1 ∙ same.0)
told_first (refusals.Fault at kind) scanned.NoMemory ts h f place other g = absurd h
told_first refusals.NoMemory r ts h f place other g = tt
