use Rattle.graph_laws.proofs.Summaries.{steps_hops}
use Rattle.graph_laws.proofs.edges.steps_are_hops.Goals as goal

pub returns : goal.returns
returns c = steps_hops
