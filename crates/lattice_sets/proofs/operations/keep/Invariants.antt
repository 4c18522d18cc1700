use Rattle.std.proofs.Common.{◌≡◌, ◌+◌, ◌++◌, length}
use Rattle.std.specs.List.Sorted.{IsStrictlySortedBy}
use Rattle.lattice_sets.proofs.Merges.{kept_of}
use Rattle.lattice_sets.proofs.operations.keep.Given as goal

abbrev pub invariant-loop-x : goal.invariant-loop-x
invariant-loop-x g l = record {
  left : IsStrictlySortedBy g.E.Ord.cmp l.left;
  right : IsStrictlySortedBy g.E.Ord.cmp l.right;
  whole : l.list ++ kept_of g.E.Ord.cmp l.held l.left l.right ≡ kept_of g.E.Ord.cmp l.held l.a l.b;
}

abbrev pub decreases-loop-x : goal.decreases-loop-x
decreases-loop-x g l = length l.left + length l.right
