use Rattle.check_base.specs.Earliest.{Gathers, FirstHave}
use Rattle.check_rules.specs.Faults.{IsFaultyControl}
use Rattle.check_rules.proofs.rules.check_control.Given as goal

abbrev pub invariant-loop-rule : goal.invariant-loop-rule
invariant-loop-rule l = Gathers l.fn.earliest l.earliest (FirstHave (λ k. IsFaultyControl l.spec) l.rule-index l.rules)
