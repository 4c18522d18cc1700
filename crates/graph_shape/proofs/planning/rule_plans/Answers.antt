use Rattle.std.proofs.Common.{◌≡◌, ◌+◌, ◌++◌, ◌∷◌, [], List, take, sym, ap, ◌∙◌, subst}
use Rattle.std.proofs.lemmas.List.{take_more}
use Rattle.flow_syntax.specs.declared.rule.FlowRule.{FlowRule}
use Rattle.rule_plans.specs.declared.stop.Step.{Step}
use Rattle.graph_shape.specs.inner.Planned.{AreRulePlans}
use Rattle.graph_shape.proofs.Planned.{plans_more}
use Rattle.graph_shape.proofs.planning.rule_plans.Goals as goal

pub loop-rule-preserved : goal.loop-rule-preserved
loop-rule-preserved c =
    let longer : take (c.loop-rule.rule-index + 1) c.args.rules.now ≡ take c.loop-rule.rule-index c.args.rules.now ++ c.rule-item.result ∷ [] =
    take_more c.args.rules.now c.loop-rule.rule-index c.rule-item.result c.loop-rule-test.true
    ∙ ap (λ (y : FlowRule). take c.loop-rule.rule-index c.args.rules.now ++ y ∷ []) (sym c.rule-item.is) in
    subst (λ (rs : List FlowRule). AreRulePlans rs c.push.new.self) (sym longer)
    (subst (λ (ps : List (List Step)). AreRulePlans (take c.loop-rule.rule-index c.args.rules.now ++ c.rule-item.result ∷ []) ps) (sym c.in_ok-push.ensures.ok)
    (plans_more (take c.loop-rule.rule-index c.args.rules.now) c.loop-rule.plans c.rule-item.result c.in_ok-plan.field-0 c.loop-rule.invariant c.in_ok-plan.ensures))
