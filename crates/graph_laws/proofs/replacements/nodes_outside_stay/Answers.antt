use Rattle.graph_laws.proofs.NodesOutside.{nodes_outside}
use Rattle.graph_laws.proofs.replacements.nodes_outside_stay.Goals as goal

pub returns : goal.returns
returns c = nodes_outside
