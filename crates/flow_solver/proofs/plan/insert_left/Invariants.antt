use Rattle.std.proofs.Common.{◌≡◌, drop, not}
use Rattle.std.specs.Prelude.{nat_eq, filter}
use Rattle.list_theory.specs.Lists.{has, push_all}
use Rattle.flow_solver.proofs.plan.insert_left.Given as goal

-- putting in what is left gives what putting in all gives
abbrev pub invariant-loop-key : goal.invariant-loop-key
invariant-loop-key l = push_all nat_eq l.set (filter (λ k. not (has nat_eq l.gone k)) (drop l.key-index l.keys)) ≡ push_all nat_eq l.fn.set (filter (λ k. not (has nat_eq l.gone k)) l.keys)
