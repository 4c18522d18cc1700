use Rattle.std.proofs.Common.{◌≡◌, List, sym, subst, ◌∙◌}
use Rattle.flow_links.specs.inner.Gains.{Gains}
use Rattle.rule_plans.specs.declared.stop.Stop.{Stop}
use Rattle.rule_plans.proofs.Stops.{is_same_stop, stop_same}
use Rattle.flow_links.proofs.Insertions.{gains_insert, longer_insert}
use Rattle.rule_plans.proofs.hops.add.Goals as goal

pub returns-clause-gains : goal.returns-clause-gains
returns-clause-gains c = subst (λ (ks : List Stop). Gains c.args.found.now.keys ks (λ x. x ≡ c.args.stop)) (sym c.in_ok-insert.ensures.keys) (gains_insert is_same_stop stop_same c.args.found.now.keys c.args.stop)

pub returns-clause-order : goal.returns-clause-order
returns-clause-order c = let one = longer_insert is_same_stop stop_same c.args.found.now.keys c.args.stop in (one.0, c.in_ok-insert.ensures.keys ∙ one.1)
