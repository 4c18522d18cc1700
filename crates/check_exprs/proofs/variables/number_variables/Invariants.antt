use Rattle.std.proofs.Common.{take}
use Rattle.check_exprs.specs.inner.Variables.{AreNumbers}
use Rattle.check_exprs.proofs.variables.number_variables.Given as goal

abbrev pub invariant-loop-number : goal.invariant-loop-number
invariant-loop-number l = AreNumbers (take l.number l.variables) l.numbers
