use Rattle.std.proofs.Common.{sym, ◌∙◌}
use Rattle.std.specs.Prelude.{nat_eq}
use Rattle.list_theory.proofs.ListLemmas.{has-get_or}
use Rattle.list_theory.proofs.NumberLemmas.{numbers_exact}
use Rattle.flow_solver.proofs.plan.fresh_each.Goals as goal

pub fresh-requires-clause-used : goal.fresh-requires-clause-used
fresh-requires-clause-used g c = c.requires.used _ (has-get_or nat_eq numbers_exact c.args.unknowns.now c.loop-unknown.unknown-index 0 c.loop-unknown-test.true) (sym c.contains.ensures ∙ c.if-not-contains.true)
