use Rattle.graph_laws.proofs.ListPositions.{lists_known}
use Rattle.graph_laws.proofs.edges.lists_are_known_by_items.Goals as goal

pub returns : goal.returns
returns c = lists_known
