use Rattle.std.proofs.Common.{take}
use Rattle.flow_links.specs.inner.Gains.{Gains}
use Rattle.graph_edges.specs.inner.Pairs.{IsPairOf}
use Rattle.graph_edges.proofs.pairs.add_pairs.Given as goal

abbrev pub invariant-loop-source : goal.invariant-loop-source
invariant-loop-source l = Gains l.fn.out l.out (IsPairOf (take l.source-index l.sources) l.targets)
