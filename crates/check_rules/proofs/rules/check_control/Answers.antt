use Rattle.std.proofs.Common.{arith}
use Rattle.check_base.proofs.GathersLaws.{Gathers-all, Gathers-read, Gathers-then}
use Rattle.check_rules.proofs.rules.check_control.Goals as goal

pub loop-rule-preserved : goal.loop-rule-preserved
loop-rule-preserved c = Gathers-read c.args.rules.now c.loop-rule.rule-index c.rule-item.result c.loop-rule-test.true c.rule-item.is c.loop-rule.invariant
    (Gathers-then c.check_pattern.ensures c.in_ok-check_rule_items.ensures)

pub returns : goal.returns
returns c = Gathers-all c.args.rules.now _ (omega arith) c.loop-rule.invariant
