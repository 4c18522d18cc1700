-- Faults of parts that are faults of the whole.
use Rattle.std.proofs.Common.{◌≡◌, ℕ, ◌<◌, List, Result, Err}
use Rattle.flow_syntax.specs.declared.token.Token.{Token}
use Rattle.grammar_theory.specs.declared.Cause.{Cause}
use Rattle.spec_grammar.proofs.Unrolled.{reads_deep}
use Rattle.spec_grammar.specs.Choice.{begins}
use Rattle.spec_grammar.specs.Reading.{reads}
use Rattle.spec_grammar.specs.Symbols.{Nonterminal}
use Rattle.spec_grammar.specs.Gives.{Fails, IsTooDeep}
use Rattle.spec_grammar.specs.declared.cursor.Refusal.{Refusal}
use Rattle.spec_grammar.specs.declared.cursor.Refusal.TheVariants as refusals

-- where a fault of the part is one of the whole
pub fails_by : {X Y : Type 0} (r : Refusal) (part : Result X (Cause × List Token)) (whole : Result Y (Cause × List Token)) → ((e : Cause × List Token) → part ≡ Err e → whole ≡ Err e) → Fails r part → Fails r whole
fails_by (refusals.Fault cause rest) part whole step h = step (cause, rest.now) h
fails_by refusals.NoMemory part whole step h = tt

-- a symbol that is nested too deep
pub deep_fails : (r : Refusal) (l : ℕ) (i : Nonterminal) (ts : List Token) → 256 < l → IsTooDeep r ts (begins i) → Fails r (reads l i ts)
deep_fails (refusals.Fault cause rest) l i ts h d = rw (d.0, d.1) (reads_deep l i ts h)
deep_fails refusals.NoMemory l i ts h d = tt
