-- What reading answers is the text or the first fault.
use Rattle.std.proofs.Common.{◌≡◌, List, Ok, Err}
use Rattle.flow_syntax.specs.declared.spec.Spec.{Spec}
use Rattle.flow_syntax.specs.declared.token.Token.{Token}
use Rattle.grammar_theory.proofs.WholeLemmas.{whole_found, whole_only, whole_fault, whole_fault_only}
use Rattle.grammar_theory.specs.Faults.{IsText, IsFirstFault}
use Rattle.grammar_theory.specs.declared.Cause.{Cause}
use Rattle.spec_grammar.proofs.Checks.{checks}
use Rattle.spec_grammar.specs.Choice.{begins, continues}
use Rattle.spec_grammar.specs.Reading.{reads_all}
use Rattle.spec_grammar.specs.Symbols.{Whole}
use Rattle.spec_grammar.specs.Syntax.{spec_syntax, nesting_limit}

pub all_found : (ts : List Token) (spec : Spec) → reads_all ts ≡ Ok spec → IsText spec_syntax nesting_limit Whole ts spec
unfolding reads_all checks
all_found ts spec e = whole_found spec_syntax begins continues checks 256 Whole ts spec e

pub all_only : (ts : List Token) (spec : Spec) → IsText spec_syntax nesting_limit Whole ts spec → reads_all ts ≡ Ok spec
unfolding reads_all checks
all_only ts spec t = whole_only spec_syntax begins continues checks 256 Whole ts spec t

pub all_fault : (ts : List Token) (cause : Cause) (rest : List Token) → reads_all ts ≡ Err (cause, rest) → IsFirstFault spec_syntax nesting_limit Whole ts cause rest
unfolding reads_all checks
all_fault ts cause rest e = whole_fault spec_syntax begins continues checks 256 Whole ts cause rest e

pub all_fault_only : (ts : List Token) (cause : Cause) (rest : List Token) → IsFirstFault spec_syntax nesting_limit Whole ts cause rest → reads_all ts ≡ Err (cause, rest)
unfolding reads_all checks
all_fault_only ts cause rest f = whole_fault_only spec_syntax begins continues checks 256 Whole ts cause rest f
