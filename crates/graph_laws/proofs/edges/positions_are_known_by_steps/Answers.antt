use Rattle.graph_laws.proofs.Summaries.{known_by_steps}
use Rattle.graph_laws.proofs.edges.positions_are_known_by_steps.Goals as goal

pub returns : goal.returns
returns c = known_by_steps
