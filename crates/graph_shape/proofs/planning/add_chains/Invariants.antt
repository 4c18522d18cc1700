use Rattle.std.proofs.Common.{take}
use Rattle.flow_links.specs.inner.Gains.{Gains}
use Rattle.graph_shape.specs.inner.Planned.{ChainSteps}
use Rattle.graph_shape.proofs.planning.add_chains.Given as goal

abbrev pub invariant-loop-chain : goal.invariant-loop-chain
invariant-loop-chain l = Gains l.fn.out l.out (ChainSteps l.rule (take l.chain-index l.chains))
