use Rattle.std.proofs.Common.{◌≡◌, ◌++◌, map, take}
use Rattle.tree_system.specs.inner.Rows.{number_by}
use Rattle.tree_system.proofs.rows.add_readings.Given as goal

abbrev pub invariant-loop-at : goal.invariant-loop-at
invariant-loop-at l = l.row ≡ l.initial.row ++ map (number_by l.bases l.places) (take l.at l.readings)
