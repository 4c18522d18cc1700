use Rattle.std.proofs.Common.{[], take}
use Rattle.std.specs.Prelude.{Contains}
use Rattle.flow_links.specs.inner.Gains.{Gains}
use Rattle.flow_graph.proofs.sorted.edge_set.Given as goal

abbrev pub invariant-loop-edge : goal.invariant-loop-edge
invariant-loop-edge l = Gains [] l.set.keys (Contains (take l.edge-index l.edges))
