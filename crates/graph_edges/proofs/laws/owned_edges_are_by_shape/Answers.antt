use Rattle.graph_edges.proofs.OwnedAre.{owned_are}
use Rattle.graph_edges.proofs.laws.owned_edges_are_by_shape.Goals as goal

pub returns : goal.returns
returns c spec plans usable turned t s shape small path e = owned_are spec plans usable turned t s shape small path e
