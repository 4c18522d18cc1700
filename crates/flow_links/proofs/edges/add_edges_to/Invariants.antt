use Rattle.std.proofs.Common.{take}
use Rattle.flow_links.specs.inner.Gains.{Gains}
use Rattle.flow_links.specs.inner.Numbers.{IsEdgeTo}
use Rattle.flow_links.proofs.edges.add_edges_to.Given as goal

abbrev pub invariant-loop-number : goal.invariant-loop-number
invariant-loop-number l = Gains l.fn.edges.keys l.edges.keys (IsEdgeTo l.graph.points.keys l.source (take l.number-index l.numbers))
