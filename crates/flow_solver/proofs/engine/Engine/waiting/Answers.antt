use Rattle.std.proofs.Common.{sym, ◌∙◌}
use Rattle.constraint_theory.specs.Systems.{numbers}
use Rattle.constraint_theory.proofs.LeastLemmas as least
use Rattle.constraint_theory.proofs.BoundLemmas as bounds
use Rattle.constraint_theory.proofs.NumberLemmas.{numbers_tell}
use Rattle.flow_solver.specs.Engines.{state_of}
use Rattle.flow_solver.proofs.BeginLemmas.{has-empty}
use Rattle.flow_solver.proofs.engine.Engine.waiting.Goals as goal

pub returns-clause-least : goal.returns-clause-least
returns-clause-least g c =
    rw (← c.self.view_is) (λ none. least.least_at_rest numbers numbers_tell (g.S.System.meaning c.self.inside.progress.system) (g.met.S.System.laws c.self.inside.progress.system).monotone (state_of c.self.inside.progress.steps c.self.inside.waiting) c.self.invariant.sound
    (has-empty c.self.inside.waiting.items (sym c.len.ensures.len ∙ none)))

pub returns-clause-least_of_valid : goal.returns-clause-least_of_valid
returns-clause-least_of_valid g c =
    rw (← c.self.view_is) (λ valid law none. least.least_valid numbers (g.S.System.meaning c.self.inside.progress.system) valid law numbers_tell (state_of c.self.inside.progress.steps c.self.inside.waiting) c.self.invariant.sound
    (has-empty c.self.inside.waiting.items (sym c.len.ensures.len ∙ none)))

pub returns-clause-bounded : goal.returns-clause-bounded
returns-clause-bounded g c =
    rw (← c.self.view_is) (λ ks legal. bounds.visits_from_sound numbers numbers_tell (g.S.System.meaning c.self.inside.progress.system) (g.met.S.System.laws c.self.inside.progress.system) ks (state_of c.self.inside.progress.steps c.self.inside.waiting) c.self.invariant.sound legal)

pub returns-clause-bounded_within : goal.returns-clause-bounded_within
returns-clause-bounded_within g c =
    rw (← c.self.view_is) (λ us ks closed legal. bounds.visits_bounded numbers numbers_tell (g.S.System.meaning c.self.inside.progress.system) (g.met.S.System.laws c.self.inside.progress.system) us ks (state_of c.self.inside.progress.steps c.self.inside.waiting) c.self.invariant.sound closed legal)
