use Rattle.std.proofs.Common.{take}
use Rattle.flow_eval.specs.Tables.{AreFunctionsOf}
use Rattle.flow_eval.proofs.functions.build_functions.Given as goal

abbrev pub invariant-loop-number : goal.invariant-loop-number
invariant-loop-number l = AreFunctionsOf l.spec.spec (take l.number l.spec.spec.functions) l.functions
