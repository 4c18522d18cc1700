use Rattle.std.proofs.Common.{sym, ◌∙◌}
use Rattle.flow_links.proofs.SetLemmas.{Gains-same}
use Rattle.rule_plans.proofs.Stops.{stop_same}
use Rattle.rule_plans.proofs.hops.add_target.Goals as goal

pub returns-in_ok-add-clause-gains : goal.returns-in_ok-add-clause-gains
returns-in_ok-add-clause-gains c = Gains-same c.in_ok-add.ensures.gains (λ s. (
  λ e. (stop_same c.args.step.from c.args.from (sym c.eq.ensures ∙ c.if-eq.true), sym e),
  λ h. sym h.1,
))
