use Rattle.std.proofs.Common.{◌≡◌, ◌++◌, take}
use Rattle.tree_system.proofs.rows.add_each.Given as goal

abbrev pub invariant-loop-at : goal.invariant-loop-at
invariant-loop-at l = l.table.items ≡ l.initial.table.items ++ take l.at l.numbers
