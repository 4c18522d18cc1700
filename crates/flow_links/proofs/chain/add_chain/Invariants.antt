use Rattle.flow_links.specs.Below.{Adds}
use Rattle.flow_links.specs.inner.Here.{PairsBelow}
use Rattle.flow_links.proofs.chain.add_chain.Given as goal

abbrev pub invariant-loop-k : goal.invariant-loop-k
invariant-loop-k l = Adds l.fn.out l.out (PairsBelow l.rule l.items l.path l.k)
