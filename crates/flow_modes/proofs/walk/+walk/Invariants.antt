use Rattle.std.proofs.Common.{take}
use Rattle.flow_modes.specs.inner.Walked.{AllWalked}
use Rattle.flow_modes.proofs.walk.+walk.Given as goal

abbrev pub invariant-all_walked-loop-e : goal.invariant-all_walked-loop-e
invariant-all_walked-loop-e l = AllWalked (take l.e-index l.es) l.types l.all l.rest
