use Rattle.flow_report.proofs.PrintLemmas.{graphs_one}
use Rattle.flow_report.proofs.laws.graphs_have_one_text.Goals as goal

-- the law
pub returns : goal.returns
returns c = graphs_one
