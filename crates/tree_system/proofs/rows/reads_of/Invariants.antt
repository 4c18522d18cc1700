use Rattle.std.proofs.Common.{◌≡◌, ◌<◌, ℕ, [], get_or, length}
use Rattle.tree_system.specs.Tables.{no_bases, no_constraint}
use Rattle.tree_system.specs.inner.Rows.{IsRow, no_ends}
use Rattle.tree_system.proofs.rows.reads_of.Given as goal

abbrev pub invariant-loop-at : goal.invariant-loop-at
invariant-loop-at g l = (length l.rows.items ≡ l.at)
    × ((k : ℕ) → k < l.at → IsRow (g.B.Bodies.spec l.bodies) (get_or l.bases k no_bases) (get_or l.ends k no_ends).place l.places (get_or l.constraints k no_constraint).rule (get_or l.rows.items k []))
