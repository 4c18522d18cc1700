use Rattle.grammar_theory.proofs.BeginLemmas.{to_cases, from_cases}
use Rattle.spec_grammar.proofs.Checks.{checks}
use Rattle.spec_grammar.proofs.beginnings_are_by_cases.Goals as goal
use Rattle.spec_grammar.specs.Choice.{begins, continues}
use Rattle.spec_grammar.specs.Syntax.{spec_syntax}

pub returns : goal.returns
returns c = λ i ts. (to_cases spec_syntax begins continues checks i ts, from_cases spec_syntax begins continues checks i ts)
