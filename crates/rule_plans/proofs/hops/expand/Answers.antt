use Rattle.flow_links.proofs.SetLemmas.{Gains-same}
use Rattle.rule_plans.proofs.hops.expand.Goals as goal

pub returns-in_ok-add_next-clause-gains : goal.returns-in_ok-add_next-clause-gains
returns-in_ok-add_next-clause-gains c = Gains-same c.in_ok-add_next.ensures.gains (λ s. (λ h. (c.is_inner.ensures.0 c.if-is_inner.true, h), λ h. h.1))
