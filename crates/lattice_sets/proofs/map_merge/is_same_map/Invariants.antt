use Rattle.std.proofs.Common.{◌≡◌, ◌↔◌, length}
use Rattle.lattice_sets.specs.Maps.{AllKept}
use Rattle.lattice_sets.proofs.map_merge.is_same_map.Given as goal

abbrev pub invariant-loop-x : goal.invariant-loop-x
invariant-loop-x g l = record {
  left : AllKept (g.L.Lattice.valid l.values) (g.L.Lattice.least l.values) l.left;
  right : AllKept (g.L.Lattice.valid l.values) (g.L.Lattice.least l.values) l.right;
  answer : (l.left ≡ l.right) ↔ (l.a ≡ l.b);
}

abbrev pub decreases-loop-x : goal.decreases-loop-x
decreases-loop-x g l = length l.left
