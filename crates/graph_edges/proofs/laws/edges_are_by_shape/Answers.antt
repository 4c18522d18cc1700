use Rattle.graph_edges.proofs.EdgesAre.{edges_are}
use Rattle.graph_edges.proofs.laws.edges_are_by_shape.Goals as goal

pub returns : goal.returns
returns c spec plans are placed lists long bound tree s shape small e = edges_are spec plans are placed lists long bound e tree s shape small
