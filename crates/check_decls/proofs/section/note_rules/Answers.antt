use Rattle.check_decls.specs.inner.Sections.{RuleFaults}
use Rattle.check_decls.proofs.Laws.{Gathers-no_item, Gathers-one_more, Gathers-whole}
use Rattle.check_decls.proofs.section.note_rules.Goals as goal

pub loop-rule-init : goal.loop-rule-init
loop-rule-init c = Gathers-no_item (RuleFaults c.args.spec.now c.args.names.now) c.args.earliest.now

pub loop-rule-preserved : goal.loop-rule-preserved
loop-rule-preserved c =
    Gathers-one_more (RuleFaults c.args.spec.now c.args.names.now) c.args.rules.now c.loop-rule.rule-index c.rule-item.result c.loop-rule-test.true c.rule-item.is c.loop-rule.invariant c.note_rule.ensures

pub returns : goal.returns
returns c = Gathers-whole (RuleFaults c.args.spec.now c.args.names.now) (λ xs. xs) c.args.rules.now c.loop-rule.rule-index c.loop-rule-test.false c.loop-rule.invariant
