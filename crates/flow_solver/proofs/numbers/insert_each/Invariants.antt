use Rattle.std.proofs.Common.{◌≡◌, drop}
use Rattle.std.specs.Prelude.{nat_eq}
use Rattle.list_theory.specs.Lists.{push_all}
use Rattle.flow_solver.proofs.numbers.insert_each.Given as goal

-- putting in what is left gives what putting in all gives
abbrev pub invariant-loop-item : goal.invariant-loop-item
invariant-loop-item l = push_all nat_eq l.set (drop l.item-index l.items) ≡ push_all nat_eq l.fn.set l.items
