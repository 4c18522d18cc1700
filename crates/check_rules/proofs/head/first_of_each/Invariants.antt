use Rattle.std.proofs.Common.{◌≡◌, ℕ, List, map, take}
use Rattle.check_rules.specs.inner.Tables.{first_position, known_by}
use Rattle.check_base.specs.Tables.{value_in}
use Rattle.check_rules.proofs.head.first_of_each.Given as goal

abbrev pub invariant-loop-variable : goal.invariant-loop-variable
invariant-loop-variable l = (x : List ℕ) → value_in l.table x ≡ first_position x (map known_by (take l.variable-index l.variables))
