use Rattle.std.proofs.Common.{sym, ◌∙◌, subst, List}
use Rattle.flow_term.proofs.Outcomes.{if_ok}
use Rattle.rule_plans.specs.declared.stop.Step.{Step}
use Rattle.flow_syntax.specs.Control.{rule_for}
use Rattle.graph_shape.specs.Plans.{IsPlanOf}
use Rattle.graph_shape.proofs.Passable.{plan_is, ruled_passable, list_passable}
use Rattle.graph_shape.proofs.building.is_passable.Goals as goal

pub returns-then-is_items : goal.returns-then-is_items
returns-then-is_items c spec usable rule shapes =
    let of_list = sym c.is_items.ensures ∙ c.if-is_items.true in
    list_passable spec usable.placed c.args.term.now of_list (usable.lists c.args.term.now of_list) c.args.shapes.now shapes c.are_all_passed.result c.are_all_passed.ensures

pub returns : goal.returns
returns c spec usable rule shapes =
    let plan : IsPlanOf (rule_for spec c.args.term.now) c.args.term.now c.steps.result.now =
    subst (λ (steps : List Step). IsPlanOf (rule_for spec c.args.term.now) c.args.term.now steps) (sym c.steps.ensures)
    (plan_is spec c.args.plans.now c.args.term.now c.args.rule usable.made c.requires rule (sym c.is_items.ensures ∙ c.if-is_items.false)) in
    if_ok c.is_through.result c.is_through.ensures (λ b h. ruled_passable spec usable.placed c.args.term.now c.steps.result.now plan c.args.shapes.now shapes b h)
