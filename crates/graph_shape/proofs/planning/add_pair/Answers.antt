use Rattle.std.proofs.Common.{◌≡◌, List, Some, sym, subst, ◌∙◌}
use Rattle.flow_term.proofs.Outcomes.{on_ok}
use Rattle.flow_links.specs.inner.Gains.{Gains}
use Rattle.flow_links.proofs.SetLemmas.{Gains-same}
use Rattle.rule_plans.specs.declared.stop.Step.{Step}
use Rattle.graph_shape.specs.RuleSteps.{arriving_stop, leaving_stop}
use Rattle.graph_shape.specs.inner.Planned.{IsItemStep}
use Rattle.graph_shape.proofs.Planned.{item_step, one_more}
use Rattle.graph_shape.proofs.planning.add_pair.Goals as goal

pub returns : goal.returns
returns c =
    let one : leaving_stop c.args.rule.now c.args.left.now ≡ Some c.in-Some.from = sym c.leaving.ensures ∙ c.in-Some.is in
    let two : arriving_stop c.args.rule.now c.args.right.now ≡ Some c.in-Some-arriving.to = sym c.arriving.ensures ∙ c.in-Some-arriving.is in
    on_ok c.push.result c.push.ensures.ok (λ longer. subst (λ (xs : List Step). Gains c.args.out.now xs (IsItemStep c.args.rule.now c.args.left.now c.args.right.now)) (sym longer)
    (Gains-same (one_more c.args.out.now (record { from = c.in-Some.from; to = c.in-Some-arriving.to })) (item_step c.args.rule.now c.args.left.now c.args.right.now c.in-Some.from c.in-Some-arriving.to one two)))
