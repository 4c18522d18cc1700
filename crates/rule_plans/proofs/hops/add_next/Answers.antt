use Rattle.flow_term.proofs.Outcomes.{on_ok}
use Rattle.flow_links.proofs.SetLemmas.{Gains-same, Gains-then}
use Rattle.rule_plans.proofs.Hopping.{hops_are}
use Rattle.rule_plans.proofs.hops.add_next.Goals as goal

pub returns-clause-gains : goal.returns-clause-gains
returns-clause-gains c = on_ok c.add_exit.result c.add_exit.ensures.gains (λ g. Gains-same (Gains-then c.in_ok-add_targets.ensures.gains g) (hops_are c.args.steps.now c.args.passes.now c.args.from))
