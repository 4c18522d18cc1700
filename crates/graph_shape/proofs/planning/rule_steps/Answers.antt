use Rattle.std.proofs.Common.{List, subst}
use Rattle.flow_syntax.specs.declared.rule.Chain.{Chain}
use Rattle.flow_links.specs.inner.Gains.{Gains}
use Rattle.flow_links.proofs.SetLemmas.{Gains-then}
use Rattle.rule_plans.specs.declared.stop.Step.{Step}
use Rattle.graph_shape.specs.inner.Planned.{ChainSteps}
use Rattle.graph_shape.proofs.Planned.{RuleSteps, plan_of_rule}
use Rattle.graph_shape.proofs.planning.rule_steps.Goals as goal

pub returns : goal.returns
returns c = plan_of_rule c.args.rule.now c.add_through.new.out
    (subst (λ (xs : List Step). Gains xs c.add_through.new.out (RuleSteps c.args.rule.now)) c.new-steps.ensures
    (Gains-then
    (subst (λ (cs : List Chain). Gains c.new-steps.result c.add_chains.new.out (ChainSteps c.args.rule.now cs)) c.as_slice.ensures c.in_ok-add_chains.ensures)
    c.in_ok-add_through.ensures))
