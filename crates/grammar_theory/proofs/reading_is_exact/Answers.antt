use Rattle.grammar_theory.proofs.WholeLemmas.{whole_found, whole_only, whole_fault, whole_fault_only}
use Rattle.grammar_theory.proofs.reading_is_exact.Goals as goal

pub returns : goal.returns
returns g c = record {
  value = λ F C checks limit i ts v. (whole_found g.S.Syntax.grammar F C checks limit i ts v, whole_only g.S.Syntax.grammar F C checks limit i ts v);
  fault = λ F C checks limit i ts k r. (whole_fault g.S.Syntax.grammar F C checks limit i ts k r, whole_fault_only g.S.Syntax.grammar F C checks limit i ts k r);
}
