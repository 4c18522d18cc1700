use Rattle.flow_report.proofs.PrintLemmas.{prints_begin}
use Rattle.flow_report.proofs.laws.prints_begin_with_graphs.Goals as goal

-- the law
pub returns : goal.returns
returns c = prints_begin
