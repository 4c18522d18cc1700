use Rattle.flow_links.specs.inner.Gains.{Gains}
use Rattle.graph_shape.specs.inner.Planned.{PairSteps}
use Rattle.graph_shape.proofs.planning.add_chain.Given as goal

abbrev pub invariant-loop-k : goal.invariant-loop-k
invariant-loop-k l = Gains l.fn.out l.out (PairSteps l.rule l.items l.k)
