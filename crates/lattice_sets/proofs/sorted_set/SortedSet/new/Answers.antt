use Rattle.std.proofs.Common.{sym, subst}
use Rattle.std.specs.List.Sorted.{IsStrictlySortedBy}
use Rattle.lattice_sets.specs.SetLaws.{rising_nothing}
use Rattle.lattice_sets.proofs.sorted_set.SortedSet.new.Goals as goal

pub invariant_of-result : goal.invariant_of-result
invariant_of-result g c = subst (IsStrictlySortedBy g.E.Ord.cmp) (sym c.new.ensures.items) (rising_nothing g.E.Ord.cmp g.met.E.Ord.total)
