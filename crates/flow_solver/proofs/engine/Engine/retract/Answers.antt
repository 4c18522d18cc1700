use Rattle.flow_solver.specs.Engines.{state_of}
use Rattle.flow_solver.proofs.RepairLemmas as repair
use Rattle.flow_solver.proofs.engine.Engine.retract.Goals as goal

pub retract-requires-clause-edit : goal.retract-requires-clause-edit
retract-requires-clause-edit g c = rw (← c.self.view_is) at c.requires.edit

pub retract-requires-clause-reserved : goal.retract-requires-clause-reserved
retract-requires-clause-reserved g c = rw (← c.self.view_is) at c.requires.reserved

pub retract-requires-clause-ready : goal.retract-requires-clause-ready
retract-requires-clause-ready g c = rw (← c.self.view_is) at c.requires.ready

pub returns-clause-values : goal.returns-clause-values
returns-clause-values g c =
    let is_edit : g.S.System.is_edit c.self.inside.progress.system c.args.edit = rw (← c.self.view_is) at c.requires.edit in
    rw (← c.self.view_is, c.retract.ensures.meaning) (repair.values_edited (g.S.System.meaning c.self.inside.progress.system) (g.S.System.next c.self.inside.progress.system c.args.edit) (g.S.System.change c.args.edit) (g.met.S.System.laws c.self.inside.progress.system).monotone (g.met.S.System.edits c.self.inside.progress.system c.args.edit is_edit).0 (g.met.S.System.edits c.self.inside.progress.system c.args.edit is_edit).1 (state_of c.self.inside.progress.steps c.self.inside.waiting) (state_of c.retract.new.progress.steps c.retract.new.waiting) c.self.invariant.sound c.retract.ensures.edited)

pub returns-clause-idle : goal.returns-clause-idle
returns-clause-idle g c =
    let is_edit : g.S.System.is_edit c.self.inside.progress.system c.args.edit = rw (← c.self.view_is) at c.requires.edit in
    rw (← c.self.view_is, c.retract.ensures.meaning) (λ apart. (repair.idle_steps (g.S.System.meaning c.self.inside.progress.system) (g.S.System.next c.self.inside.progress.system c.args.edit) (g.S.System.change c.args.edit) (g.met.S.System.laws c.self.inside.progress.system).monotone (g.met.S.System.edits c.self.inside.progress.system c.args.edit is_edit).0 (g.met.S.System.edits c.self.inside.progress.system c.args.edit is_edit).1 (state_of c.self.inside.progress.steps c.self.inside.waiting) (state_of c.retract.new.progress.steps c.retract.new.waiting) c.self.invariant.sound c.retract.ensures.edited apart, λ u stay. repair.idle_values (g.S.System.meaning c.self.inside.progress.system) (g.S.System.next c.self.inside.progress.system c.args.edit) (g.S.System.change c.args.edit) (g.met.S.System.laws c.self.inside.progress.system).monotone (g.met.S.System.edits c.self.inside.progress.system c.args.edit is_edit).0 (g.met.S.System.edits c.self.inside.progress.system c.args.edit is_edit).1 (state_of c.self.inside.progress.steps c.self.inside.waiting) (state_of c.retract.new.progress.steps c.retract.new.waiting) c.self.invariant.sound c.retract.ensures.edited apart u stay))

pub returns-clause-bounded : goal.returns-clause-bounded
returns-clause-bounded g c =
    let is_edit : g.S.System.is_edit c.self.inside.progress.system c.args.edit = rw (← c.self.view_is) at c.requires.edit in
    rw (← c.self.view_is, c.retract.ensures.meaning) (λ region reach ks rest r reached legal. repair.few_visits (g.S.System.meaning c.self.inside.progress.system) (g.S.System.next c.self.inside.progress.system c.args.edit) (g.S.System.change c.args.edit) (g.met.S.System.laws c.self.inside.progress.system).monotone (g.met.S.System.edits c.self.inside.progress.system c.args.edit is_edit).0 (g.met.S.System.edits c.self.inside.progress.system c.args.edit is_edit).1 (state_of c.self.inside.progress.steps c.self.inside.waiting) (state_of c.retract.new.progress.steps c.retract.new.waiting) c.self.invariant.sound c.retract.ensures.edited region reach ks rest r reached legal)
