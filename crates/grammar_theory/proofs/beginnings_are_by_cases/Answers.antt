use Rattle.grammar_theory.proofs.BeginLemmas.{to_cases, from_cases}
use Rattle.grammar_theory.proofs.beginnings_are_by_cases.Goals as goal

pub returns : goal.returns
returns g c = λ F C checks i ts. (to_cases g.S.Syntax.grammar F C checks i ts, from_cases g.S.Syntax.grammar F C checks i ts)
