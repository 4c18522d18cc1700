use Rattle.std.proofs.Common.{drop}
use Rattle.flow_modes.proofs.Rules.{IsLeft}
use Rattle.flow_modes.proofs.check.first_fault.Given as goal

abbrev pub invariant-loop-rule : goal.invariant-loop-rule
invariant-loop-rule l = IsLeft l.rules l.types (drop l.rule-index l.rules) l.rest
