use Rattle.std.proofs.Common.{ap, ◌∙◌}
use Rattle.std.proofs.lemmas.Result.{on_ok_weaker}
use Rattle.std.specs.Prelude.{nat_eq}
use Rattle.list_theory.specs.Lists.{has}
use Rattle.flow_solver.proofs.PlanLemmas.{has_put, renewed_exactly}
use Rattle.flow_solver.proofs.plan.renew.Goals as goal

pub returns : goal.returns
returns g c =
    on_ok_weaker c.insert_each-2.result (λ added.
    renewed_exactly (g.S.System.meaning c.args.system.now) (g.S.System.next c.args.system.now c.args.edit.now) (g.S.System.change c.args.edit.now) (g.met.S.System.edits c.args.system.now c.args.edit.now c.requires.edit).1
    c.clear-2.new.self c.insert_aiming.new.set c.insert_each-2.new.set c.insert_each.new.set c.as_slice-2.result.now c.args.tainted.now c.clear-2.ensures
    (λ k. ap (λ ks. has nat_eq ks k) c.in_ok-insert_each.ensures ∙ has_put c.clear.new.self c.as_slice.result.now c.clear.ensures k ∙ ap (λ ks. has nat_eq ks k) (c.as_slice.ensures ∙ c.gone.ensures))
    (c.as_slice-2.ensures ∙ c.added.ensures) c.in_ok-insert_aiming.ensures added)
    c.insert_each-2.ensures
