use Rattle.std.proofs.Common.{◌≡◌, List, ◌++◌, take}
use Rattle.flow_links.specs.inner.Gains.{Gains}
use Rattle.rule_plans.specs.declared.stop.Stop.{Stop}
use Rattle.rule_plans.specs.Hops.{IsStepOf}
use Rattle.rule_plans.proofs.hops.add_targets.Given as goal

abbrev pub invariant-loop-step : goal.invariant-loop-step
invariant-loop-step l = record {
  gains : Gains l.fn.found.keys l.found.keys (IsStepOf (take l.step-index l.steps) l.from);
  order : (more : List Stop) × (l.found.keys ≡ l.fn.found.keys ++ more);
}
