use Rattle.std.proofs.Common.{◌≡◌, map, take}
use Rattle.tree_system.specs.inner.Rows.{bases_by}
use Rattle.tree_system.proofs.rows.bases_of.Given as goal

abbrev pub invariant-loop-at : goal.invariant-loop-at
invariant-loop-at l = l.bases.items ≡ map (bases_by l.properties) (take l.at l.ends)
