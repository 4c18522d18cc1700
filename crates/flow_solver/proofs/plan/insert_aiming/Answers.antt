use Rattle.std.proofs.Common.{◌∙◌}
use Rattle.std.specs.Prelude.{nat_eq}
use Rattle.list_theory.proofs.ListLemmas.{has-get_or}
use Rattle.list_theory.proofs.NumberLemmas.{numbers_exact}
use Rattle.flow_solver.proofs.PlanLemmas.{aiming_next}
use Rattle.flow_solver.proofs.plan.insert_aiming.Goals as goal

pub aiming-requires : goal.aiming-requires
aiming-requires g c = c.requires _ (has-get_or nat_eq numbers_exact c.args.unknowns.now c.loop-unknown.unknown-index 0 c.loop-unknown-test.true)

pub loop-unknown-preserved : goal.loop-unknown-preserved
loop-unknown-preserved g c = aiming_next (g.S.System.meaning c.args.system.now) c.args.set.now c.loop-unknown.set c.insert_left.new.set c.args.gone.now c.args.unknowns.now c.as_slice.result.now c.loop-unknown.unknown-index c.loop-unknown-test.true (c.as_slice.ensures ∙ c.aiming.ensures) c.in_ok-insert_left.ensures c.loop-unknown.invariant
