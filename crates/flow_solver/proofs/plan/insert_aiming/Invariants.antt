use Rattle.std.proofs.Common.{◌≡◌, ℕ, ◌||◌, ◌&&◌, not, take}
use Rattle.std.specs.Prelude.{nat_eq}
use Rattle.list_theory.specs.Lists.{has}
use Rattle.flow_solver.proofs.plan.insert_aiming.Given as goal

-- those that aim at the unknowns that were passed are in
abbrev pub invariant-loop-unknown : goal.invariant-loop-unknown
invariant-loop-unknown g l = (k : ℕ) → has nat_eq l.set k ≡ (has nat_eq l.fn.set k || ((has nat_eq (g.S.System.meaning l.system).keys k && not (has nat_eq l.gone k)) && has nat_eq (take l.unknown-index l.unknowns) ((g.S.System.meaning l.system).target k)))
