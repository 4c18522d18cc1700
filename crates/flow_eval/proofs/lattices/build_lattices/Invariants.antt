use Rattle.std.proofs.Common.{take}
use Rattle.flow_eval.specs.inner.Built.{AreLatticesOf}
use Rattle.flow_eval.proofs.lattices.build_lattices.Given as goal

abbrev pub invariant-loop-number : goal.invariant-loop-number
invariant-loop-number l = AreLatticesOf (take l.number l.spec.spec.lattices) l.lattices
