use Rattle.graph_edges.proofs.Unentered.{unentered_owns}
use Rattle.graph_edges.proofs.laws.roots_own_alike.Goals as goal

pub returns : goal.returns
returns c spec placed lists t path n m = unentered_owns spec placed lists t path n m
