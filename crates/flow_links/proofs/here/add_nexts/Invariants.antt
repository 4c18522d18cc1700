use Rattle.flow_links.specs.Below.{Adds}
use Rattle.flow_links.specs.inner.Here.{NextBelow}
use Rattle.flow_links.proofs.here.add_nexts.Given as goal

abbrev pub invariant-loop-k : goal.invariant-loop-k
invariant-loop-k l = Adds l.fn.out l.out (NextBelow l.path l.k)
