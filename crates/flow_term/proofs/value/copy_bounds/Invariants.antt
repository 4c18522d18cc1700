use Rattle.std.proofs.Common.{◌≡◌, take}
use Rattle.flow_term.proofs.value.copy_bounds.Given as goal

abbrev pub invariant-loop-bound : goal.invariant-loop-bound
invariant-loop-bound l = l.copy ≡ take l.bound-index l.bounds
