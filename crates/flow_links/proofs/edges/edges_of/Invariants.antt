use Rattle.std.proofs.Common.{[]}
use Rattle.flow_links.specs.inner.Gains.{Gains}
use Rattle.flow_links.specs.inner.Numbers.{IsEdgeBelow}
use Rattle.flow_links.proofs.edges.edges_of.Given as goal

abbrev pub invariant-loop-number : goal.invariant-loop-number
invariant-loop-number l = Gains [] l.edges.keys (IsEdgeBelow l.graph.points.keys l.graph.successors.items l.number)
