use Rattle.std.proofs.Common.{arith, subst}
use Rattle.check_base.specs.Earliest.{Gathers}
use Rattle.check_base.proofs.GathersLaws.{Gathers-all, Gathers-read}
use Rattle.flow_syntax.specs.declared.pattern.Pattern.{Pattern}
use Rattle.check_rules.specs.Faults.{IsFaultyPattern}
use Rattle.check_rules.proofs.rules.check_triggers.Goals as goal

pub loop-rule-preserved : goal.loop-rule-preserved
loop-rule-preserved c = Gathers-read c.args.rules.now c.loop-rule.rule-index c.rule-item.result c.loop-rule-test.true c.rule-item.is c.loop-rule.invariant
    (subst (λ (p : Pattern). Gathers c.loop-rule.earliest c.check_pattern.new.earliest (IsFaultyPattern c.args.spec.now p)) c.trigger_pattern.ensures c.check_pattern.ensures)

pub returns : goal.returns
returns c = Gathers-all c.args.rules.now _ (omega arith) c.loop-rule.invariant
