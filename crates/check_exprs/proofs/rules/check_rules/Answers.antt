use Rattle.std.proofs.Common.{arith}
use Rattle.check_base.proofs.GathersLaws.{Gathers-all, Gathers-start}
use Rattle.check_exprs.proofs.Listed.{Lists-none}
use Rattle.check_exprs.proofs.Occurrences.{gathers_more, rules_listed}
use Rattle.check_exprs.proofs.rules.check_rules.Goals as goal

pub loop-rule-init : goal.loop-rule-init
loop-rule-init c = record { gathers = Gathers-start c.args.rules.now _; lists = Lists-none c.args.cx.now.spec.now _ }

pub loop-rule-preserved : goal.loop-rule-preserved
loop-rule-preserved c = record {
  gathers = gathers_more c.args.rules.now c.loop-rule.rule-index c.rule-item.result c.loop-rule-test.true c.rule-item.is c.loop-rule.invariant.gathers c.in_ok-check_rule.ensures.gathers;
  lists = rules_listed c.args.cx.now.spec.now c.args.rules.now c.loop-rule.rule-index c.rule-item.result c.loop-rule-test.true c.rule-item.is c.loop-rule.invariant.lists c.in_ok-check_rule.ensures.lists;
}

pub returns-clause-gathers : goal.returns-clause-gathers
returns-clause-gathers c = Gathers-all c.args.rules.now _ (omega arith) c.loop-rule.invariant.gathers
