use Rattle.std.proofs.Common.{◌≡◌, sym, ◌∙◌, ap, true, ℕ, arith, max, ◌<◌}
use Rattle.std.specs.Prelude.{nat_eq}
use Rattle.list_theory.specs.Lists.{has}
use Rattle.constraint_theory.specs.Systems.{numbers}
use Rattle.constraint_theory.proofs.NumberLemmas.{numbers_tell}
use Rattle.constraint_theory.proofs.BoundLemmas as bounds
use Rattle.flow_solver.proofs.BeginLemmas as facts
use Rattle.flow_solver.proofs.engine.Engine.new.Goals as goal

pub invariant_of-result : goal.invariant_of-result
invariant_of-result g c =
    let above : (k : ℕ) → has nat_eq c.as_slice.result.now k ≡ true → k < c.in_ok-number_above.field-0 = c.in_ok-number_above.ensures in
    let grown : c.grow.new.self.allowed ≡ max c.new-waiting.result.allowed c.in_ok-number_above.field-0 = ap (λ q. q.allowed) c.in_ok-grow.ensures.ok in
    rw c.in_ok-new.ensures.system
    (facts.engine_begin (g.S.System.meaning c.args.system) (g.met.S.System.laws c.args.system) c.in_ok-new.field-0.steps c.as_slice-2.result.now c.grow.new.self c.push_each.new.queue
    (c.in_ok-new.ensures.steps) (c.as_slice-2.ensures ∙ c.keys-2.ensures) (ap (λ q. q.items) c.in_ok-grow.ensures.ok ∙ ap (λ q. q.items) c.new-waiting.ensures) c.push_each.ensures
    (λ k h. let lt : k < c.in_ok-number_above.field-0 = above k (ap (λ ks. has nat_eq ks k) ((c.as_slice.ensures ∙ c.keys.ensures) ∙ sym (c.as_slice-2.ensures ∙ c.keys-2.ensures)) ∙ h) in omega (arith, lt, grown)))

pub returns-clause-begin : goal.returns-clause-begin
returns-clause-begin g c =
    facts.state_begin (g.S.System.meaning c.args.system) (g.met.S.System.laws c.args.system) c.in_ok-new.field-0.steps c.as_slice-2.result.now c.grow.new.self c.push_each.new.queue
    (c.in_ok-new.ensures.steps) (c.as_slice-2.ensures ∙ c.keys-2.ensures) (ap (λ q. q.items) c.in_ok-grow.ensures.ok ∙ ap (λ q. q.items) c.new-waiting.ensures) c.push_each.ensures

pub returns-clause-bounded : goal.returns-clause-bounded
returns-clause-bounded g c =
    rw (facts.state_begin (g.S.System.meaning c.args.system) (g.met.S.System.laws c.args.system) c.in_ok-new.field-0.steps c.as_slice-2.result.now c.grow.new.self c.push_each.new.queue
    (c.in_ok-new.ensures.steps) (c.as_slice-2.ensures ∙ c.keys-2.ensures) (ap (λ q. q.items) c.in_ok-grow.ensures.ok ∙ ap (λ q. q.items) c.new-waiting.ensures) c.push_each.ensures)
    (λ ks legal. bounds.visits_from_begin numbers numbers_tell (g.S.System.meaning c.args.system) (g.met.S.System.laws c.args.system) ks legal)
