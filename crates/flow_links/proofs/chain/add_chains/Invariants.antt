use Rattle.std.proofs.Common.{take}
use Rattle.flow_links.specs.Below.{Adds}
use Rattle.flow_links.specs.inner.Here.{ChainsOf}
use Rattle.flow_links.proofs.chain.add_chains.Given as goal

abbrev pub invariant-loop-chain : goal.invariant-loop-chain
invariant-loop-chain l = Adds l.fn.out l.out (ChainsOf l.rule (take l.chain-index l.chains) l.path)
