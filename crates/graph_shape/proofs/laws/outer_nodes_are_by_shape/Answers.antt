use Rattle.graph_shape.proofs.OuterAre.{outer_are}
use Rattle.graph_shape.proofs.laws.outer_nodes_are_by_shape.Goals as goal

pub returns : goal.returns
returns c spec plans usable side used of_side t s shape small path n = outer_are spec plans usable side used of_side n t s path shape small
