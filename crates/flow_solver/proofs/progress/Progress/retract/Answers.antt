use Rattle.std.proofs.Common.{◌≡◌, ℕ, ◌<◌, true, cond, length, ap, sym, ◌∙◌}
use Rattle.std.specs.Prelude.{nat_eq, None, option_map, slice_index_or}
use Rattle.list_theory.specs.Lists.{has}
use Rattle.constraint_theory.specs.Systems.{numbers}
use Rattle.constraint_theory.specs.Edits.{IsTainted}
use Rattle.flow_solver.specs.Assigned.{given}
use Rattle.flow_solver.specs.Engines.{keys_of}
use Rattle.flow_solver.specs.Plans.{AreBottoms}
use Rattle.flow_solver.proofs.RetractLemmas as retracting
use Rattle.flow_solver.proofs.progress.Progress.retract.Goals as goal

pub forget_steps-requires-clause-used : goal.forget_steps-requires-clause-used
forget_steps-requires-clause-used g c =
    let is_edit : g.S.System.is_edit c.self.inside.system c.args.edit = rw (← c.self.view_is) at c.requires.edit in
    let tainted : IsTainted numbers (g.S.System.meaning c.self.inside.system) (g.S.System.next c.self.inside.system c.args.edit) (g.S.System.change c.args.edit) (keys_of c.self.inside.trace) (has nat_eq c.args.tainted.now) = rw (← c.self.view_is) at c.requires.tainted in
    retracting.taint_used (g.S.System.meaning c.self.inside.system) (g.S.System.next c.self.inside.system c.args.edit) (g.S.System.change c.args.edit) (g.met.S.System.laws c.self.inside.system).monotone (g.met.S.System.edits c.self.inside.system c.args.edit is_edit).0.monotone (g.met.S.System.edits c.self.inside.system c.args.edit is_edit).1 (has nat_eq c.args.tainted.now) (keys_of c.self.inside.trace) c.self.invariant.replayed.known tainted

pub shift_each-requires-clause-movable : goal.shift_each-requires-clause-movable
shift_each-requires-clause-movable g c =
    let is_edit : g.S.System.is_edit c.self.inside.system c.args.edit = rw (← c.self.view_is) at c.requires.edit in
    let tainted : IsTainted numbers (g.S.System.meaning c.self.inside.system) (g.S.System.next c.self.inside.system c.args.edit) (g.S.System.change c.args.edit) (keys_of c.self.inside.trace) (has nat_eq c.args.tainted.now) = rw (← c.self.view_is) at c.requires.tainted in
    λ u v h. retracting.left_movable (g.S.System.meaning c.self.inside.system) (g.S.System.next c.self.inside.system c.args.edit) (g.S.System.change c.args.edit) (g.met.S.System.laws c.self.inside.system).monotone (g.met.S.System.edits c.self.inside.system c.args.edit is_edit).0.monotone (g.met.S.System.edits c.self.inside.system c.args.edit is_edit).1 (has nat_eq c.args.tainted.now) c.self.inside.values c.self.inside.trace c.self.inside.made.items c.self.invariant tainted.0 u v (sym (c.clear_each-2.ensures.cleared u ∙ ap (cond (has nat_eq c.args.tainted.now u) None) (c.clear_each.ensures.cleared u ∙ ap (λ us. cond (has nat_eq us u) None (slice_index_or c.self.inside.values u None)) (c.as_slice.ensures ∙ c.gone_unknowns.ensures))) ∙ h)

pub invariant_of-self : goal.invariant_of-self
invariant_of-self g c =
    let is_edit : g.S.System.is_edit c.self.inside.system c.args.edit = rw (← c.self.view_is) at c.requires.edit in
    let tainted : IsTainted numbers (g.S.System.meaning c.self.inside.system) (g.S.System.next c.self.inside.system c.args.edit) (g.S.System.change c.args.edit) (keys_of c.self.inside.trace) (has nat_eq c.args.tainted.now) = rw (← c.self.view_is) at c.requires.tainted in
    let bottoms : AreBottoms (g.S.System.meaning c.self.inside.system) (g.S.System.next c.self.inside.system c.args.edit) (g.S.System.change c.args.edit) (has nat_eq c.args.tainted.now) c.args.bottoms.now.items = rw (← c.self.view_is) at c.requires.bottoms in
    let added : (k : ℕ) → has nat_eq (g.S.System.change c.args.edit).added k ≡ true → k < length c.self.inside.made.items = rw (← c.self.view_is) at c.requires.keys in
    rw c.commit.ensures (retracting.progress_edited (g.S.System.meaning c.self.inside.system) (g.S.System.next c.self.inside.system c.args.edit) (g.S.System.change c.args.edit) (g.met.S.System.laws c.self.inside.system).monotone (g.met.S.System.edits c.self.inside.system c.args.edit is_edit).0.monotone (g.met.S.System.edits c.self.inside.system c.args.edit is_edit).1 (has nat_eq c.args.tainted.now) c.self.inside.values c.self.inside.trace c.self.inside.made.items c.self.invariant tainted.0 c.args.bottoms.now.items bottoms
    c.put_each.new.values c.forget_steps.new.trace c.forget_steps.new.made.items c.forget_steps.ensures.trace
    (λ u. c.put_each.ensures.given u ∙ ap (given c.args.bottoms.now.items u) (c.shift_each.ensures.shifted u ∙ ap (option_map (g.S.System.change c.args.edit).shift) (c.clear_each-2.ensures.cleared u ∙ ap (cond (has nat_eq c.args.tainted.now u) None) (c.clear_each.ensures.cleared u ∙ ap (λ us. cond (has nat_eq us u) None (slice_index_or c.self.inside.values u None)) (c.as_slice.ensures ∙ c.gone_unknowns.ensures)))))
    c.forget_steps.ensures.marked c.forget_steps.ensures.len added)

pub returns-clause-steps : goal.returns-clause-steps
returns-clause-steps g c =
    let is_edit : g.S.System.is_edit c.self.inside.system c.args.edit = rw (← c.self.view_is) at c.requires.edit in
    let tainted : IsTainted numbers (g.S.System.meaning c.self.inside.system) (g.S.System.next c.self.inside.system c.args.edit) (g.S.System.change c.args.edit) (keys_of c.self.inside.trace) (has nat_eq c.args.tainted.now) = rw (← c.self.view_is) at c.requires.tainted in
    rw (← c.self.view_is) (retracting.keys_kept (g.S.System.meaning c.self.inside.system) (g.S.System.next c.self.inside.system c.args.edit) (g.S.System.change c.args.edit) (g.met.S.System.laws c.self.inside.system).monotone (g.met.S.System.edits c.self.inside.system c.args.edit is_edit).0.monotone (g.met.S.System.edits c.self.inside.system c.args.edit is_edit).1 (has nat_eq c.args.tainted.now) c.self.inside.values c.self.inside.trace c.self.inside.made.items c.self.invariant tainted.0 c.forget_steps.new.trace c.forget_steps.ensures.trace)
