use Rattle.std.proofs.Common.{◌≡◌, ℕ, ap, ◌∙◌, ◌++◌, map, not}
use Rattle.std.proofs.lemmas.Result.{on_ok_weaker}
use Rattle.std.specs.Prelude.{nat_eq, filter}
use Rattle.list_theory.specs.Lists.{has}
use Rattle.flow_solver.proofs.PlanLemmas as plans
use Rattle.flow_solver.proofs.plan.make_bottoms.Goals as goal

pub fresh_each-requires-2-clause-used : goal.fresh_each-requires-2-clause-used
fresh_each-requires-2-clause-used g c =
    plans.used_again (g.S.System.meaning c.args.system.now) (g.S.System.next c.args.system.now c.args.edit.now) (g.S.System.change c.args.edit.now) (g.met.S.System.edits c.args.system.now c.args.edit.now c.requires.edit).1 c.args.tainted.now c.requires.used
    c.clear-2.new.self c.insert_each.new.set c.as_slice.result.now c.clear-2.ensures (λ u. ap (λ us. has nat_eq us u) c.in_ok-insert_each.ensures ∙ plans.has_put c.clear-2.new.self c.as_slice-2.result.now c.clear-2.ensures u ∙ ap (λ us. has nat_eq us u) (c.as_slice-2.ensures ∙ c.gone_unknowns.ensures)) (c.as_slice.ensures ∙ c.added_unknowns.ensures)

pub returns : goal.returns
returns g c =
    let are_gone : (u : ℕ) → has nat_eq c.insert_each.new.set u ≡ has nat_eq (g.S.System.change c.args.edit.now).gone_unknowns u = λ u. ap (λ us. has nat_eq us u) c.in_ok-insert_each.ensures ∙ plans.has_put c.clear-2.new.self c.as_slice-2.result.now c.clear-2.ensures u ∙ ap (λ us. has nat_eq us u) (c.as_slice-2.ensures ∙ c.gone_unknowns.ensures) in
    on_ok_weaker c.fresh_each-2.result (λ made.
    plans.bottoms_are (g.S.System.meaning c.args.system.now) (g.S.System.next c.args.system.now c.args.edit.now) (g.S.System.change c.args.edit.now) (g.met.S.System.edits c.args.system.now c.args.edit.now c.requires.edit).1 c.args.tainted.now c.requires.used
    c.clear-2.new.self c.insert_each.new.set c.as_slice.result.now c.clear-2.ensures are_gone (c.as_slice.ensures ∙ c.added_unknowns.ensures)
    c.fresh_each-2.new.pairs.items
    (made ∙ ap (λ ps. ps ++ map (λ u. (u, (g.S.System.next c.args.system.now c.args.edit.now).bottom u)) (filter (λ u. not (has nat_eq c.insert_each.new.set u)) c.args.tainted.now))
    (c.in_ok-fresh_each.ensures ∙ ap (λ ps. ps ++ map (λ u. (u, (g.S.System.next c.args.system.now c.args.edit.now).bottom u)) (filter (λ u. not (has nat_eq c.clear-2.new.self u)) c.as_slice.result.now)) c.clear.ensures.items)))
    c.fresh_each-2.ensures
