use Rattle.std.proofs.Common.{take}
use Rattle.graph_shape.specs.inner.Planned.{AreRulePlans}
use Rattle.graph_shape.proofs.planning.rule_plans.Given as goal

abbrev pub invariant-loop-rule : goal.invariant-loop-rule
invariant-loop-rule l = AreRulePlans (take l.rule-index l.rules) l.plans
