use Rattle.std.proofs.Common.{◌≡◌, ◌+◌, ◌++◌, length}
use Rattle.lattice_sets.specs.Maps.{IsMap, map_join}
use Rattle.lattice_sets.proofs.map_merge.join_entries.Given as goal

abbrev pub invariant-loop-x : goal.invariant-loop-x
invariant-loop-x g l = record {
  left : IsMap g.K.Ord.cmp (g.L.Lattice.valid l.values) (g.L.Lattice.least l.values) l.left;
  right : IsMap g.K.Ord.cmp (g.L.Lattice.valid l.values) (g.L.Lattice.least l.values) l.right;
  whole : l.list ++ map_join g.K.Ord.cmp (g.L.Lattice.joined l.values) l.left l.right ≡ map_join g.K.Ord.cmp (g.L.Lattice.joined l.values) l.a l.b;
}

abbrev pub decreases-loop-x : goal.decreases-loop-x
decreases-loop-x g l = length l.left + length l.right
