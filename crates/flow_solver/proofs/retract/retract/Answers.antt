use Rattle.std.proofs.Common.{ap, sym, ◌∙◌, not, refl}
use Rattle.std.specs.Prelude.{nat_eq, filter}
use Rattle.list_theory.specs.Lists.{has}
use Rattle.flow_solver.specs.Plans.{plan_of, room_of}
use Rattle.flow_solver.proofs.RepairLemmas as repair
use Rattle.flow_solver.proofs.retract.retract.Goals as goal

pub push_each-requires : goal.push_each-requires
push_each-requires g c =
    λ k h. repair.allowed_sorted (g.S.System.meaning c.args.progress.now.system) (g.S.System.next c.args.progress.now.system c.args.edit) (g.S.System.meaning c.retract.new.self.system) (g.S.System.change c.args.edit) (g.met.S.System.laws c.args.progress.now.system).monotone (g.met.S.System.edits c.args.progress.now.system c.args.edit c.requires.edit).0.monotone (g.met.S.System.edits c.args.progress.now.system c.args.edit c.requires.edit).1 c.retract.ensures.meaning
    c.args.progress.now.steps c.retract.new.self.steps c.as_slice.result.now (plan_of c.args.plan.now.tainted c.args.plan.now.renewed c.args.plan.now.bottoms.items) (room_of c.args.progress.now.keys c.args.waiting.now.allowed c.args.progress.now.unknowns)
    c.args.waiting.now c.remove_each.new.queue c.remove_each.new.queue c.requires.engine c.requires.ready refl (c.as_slice.ensures ∙ c.gone.ensures) c.remove_each.ensures
    (g.S.System.order c.retract.new.self.system) (g.met.S.System.ordered c.retract.new.self.system) c.sort.new.self c.sort.ensures.same c.sort.ensures.once (rw c.system-2.ensures at c.sort.ensures.sorted)
    k (ap (λ ks. has nat_eq ks k) (sym c.items-2.ensures.items) ∙ h)

pub returns-clause-edited : goal.returns-clause-edited
returns-clause-edited g c =
    repair.is_edited (g.S.System.meaning c.args.progress.now.system) (g.S.System.next c.args.progress.now.system c.args.edit) (g.S.System.meaning c.retract.new.self.system) (g.S.System.change c.args.edit) (g.met.S.System.laws c.args.progress.now.system).monotone (g.met.S.System.edits c.args.progress.now.system c.args.edit c.requires.edit).0.monotone (g.met.S.System.edits c.args.progress.now.system c.args.edit c.requires.edit).1 c.retract.ensures.meaning
    c.args.progress.now.steps c.retract.new.self.steps c.as_slice.result.now (plan_of c.args.plan.now.tainted c.args.plan.now.renewed c.args.plan.now.bottoms.items) (room_of c.args.progress.now.keys c.args.waiting.now.allowed c.args.progress.now.unknowns)
    c.args.waiting.now c.remove_each.new.queue c.push_each.new.queue c.requires.engine c.requires.ready refl (c.as_slice.ensures ∙ c.gone.ensures) c.remove_each.ensures
    (g.S.System.order c.retract.new.self.system) (g.met.S.System.ordered c.retract.new.self.system) c.sort.new.self c.sort.ensures.same c.sort.ensures.once (rw c.system-2.ensures at c.sort.ensures.sorted)
    (c.retract.ensures.steps ∙ ap (λ us. filter (λ k. not (has nat_eq us ((g.S.System.meaning c.args.progress.now.system).target k))) c.args.progress.now.steps) c.items.ensures.items)
    (rw c.items-2.ensures.items at c.push_each.ensures)

pub returns-clause-engine : goal.returns-clause-engine
returns-clause-engine g c =
    repair.engine_edited (g.S.System.meaning c.args.progress.now.system) (g.S.System.next c.args.progress.now.system c.args.edit) (g.S.System.meaning c.retract.new.self.system) (g.S.System.change c.args.edit) (g.met.S.System.laws c.args.progress.now.system).monotone (g.met.S.System.edits c.args.progress.now.system c.args.edit c.requires.edit).0.monotone (g.met.S.System.edits c.args.progress.now.system c.args.edit c.requires.edit).1 c.retract.ensures.meaning
    c.args.progress.now.steps c.retract.new.self.steps c.as_slice.result.now (plan_of c.args.plan.now.tainted c.args.plan.now.renewed c.args.plan.now.bottoms.items) (room_of c.args.progress.now.keys c.args.waiting.now.allowed c.args.progress.now.unknowns)
    c.args.waiting.now c.remove_each.new.queue c.push_each.new.queue c.requires.engine c.requires.ready refl (c.as_slice.ensures ∙ c.gone.ensures) c.remove_each.ensures
    (g.S.System.order c.retract.new.self.system) (g.met.S.System.ordered c.retract.new.self.system) c.sort.new.self c.sort.ensures.same c.sort.ensures.once (rw c.system-2.ensures at c.sort.ensures.sorted)
    (c.retract.ensures.steps ∙ ap (λ us. filter (λ k. not (has nat_eq us ((g.S.System.meaning c.args.progress.now.system).target k))) c.args.progress.now.steps) c.items.ensures.items)
    (rw c.items-2.ensures.items at c.push_each.ensures)
