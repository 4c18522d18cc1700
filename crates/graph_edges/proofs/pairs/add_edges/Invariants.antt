use Rattle.std.proofs.Common.{take}
use Rattle.flow_links.specs.inner.Gains.{Gains}
use Rattle.graph_edges.specs.inner.Pairs.{LeadsTo}
use Rattle.graph_edges.proofs.pairs.add_edges.Given as goal

abbrev pub invariant-loop-target : goal.invariant-loop-target
invariant-loop-target l = Gains l.fn.out l.out (LeadsTo l.source (take l.target-index l.targets))
