use Rattle.check_base.specs.Earliest.{Gathers, FirstHave}
use Rattle.check_rules.specs.Faults.{HasFaultyTrigger}
use Rattle.check_rules.proofs.rules.check_triggers.Given as goal

abbrev pub invariant-loop-rule : goal.invariant-loop-rule
invariant-loop-rule l = Gathers l.fn.earliest l.earliest (FirstHave (λ k. HasFaultyTrigger l.spec) l.rule-index l.rules)
