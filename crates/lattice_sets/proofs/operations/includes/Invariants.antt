use Rattle.std.proofs.Common.{◌≡◌, ◌+◌, length}
use Rattle.std.specs.List.Sorted.{IsStrictlySortedBy}
use Rattle.lattice_sets.proofs.Merges.{includes_all}
use Rattle.lattice_sets.proofs.operations.includes.Given as goal

abbrev pub invariant-loop-y : goal.invariant-loop-y
invariant-loop-y g l = record {
  set : IsStrictlySortedBy g.E.Ord.cmp l.set;
  items : IsStrictlySortedBy g.E.Ord.cmp l.items;
  answer : includes_all g.E.Ord.cmp l.set l.items ≡ includes_all g.E.Ord.cmp l.a l.b;
}

abbrev pub decreases-loop-y : goal.decreases-loop-y
decreases-loop-y g l = length l.set + length l.items
