use Rattle.std.proofs.Common.{List, sym, subst}
use Rattle.flow_term.proofs.Outcomes.{on_ok}
use Rattle.flow_links.specs.inner.Gains.{Gains}
use Rattle.rule_plans.specs.declared.stop.Stop.TheVariants.{Entry, Exit}
use Rattle.rule_plans.specs.declared.stop.Step.{Step}
use Rattle.graph_shape.specs.inner.Planned.{IsPassing}
use Rattle.graph_shape.proofs.Planned.{one_more}
use Rattle.graph_shape.proofs.planning.add_passing.Goals as goal

pub returns : goal.returns
returns c = on_ok c.push.result c.push.ensures.ok (λ longer. subst (λ (xs : List Step). Gains c.args.out.now xs IsPassing) (sym longer) (one_more c.args.out.now (record { from = Entry; to = Exit })))
