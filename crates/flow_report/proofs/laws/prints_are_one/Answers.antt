use Rattle.flow_report.proofs.PrintLemmas.{prints_one}
use Rattle.flow_report.proofs.laws.prints_are_one.Goals as goal

-- the law
pub returns : goal.returns
returns c = prints_one
