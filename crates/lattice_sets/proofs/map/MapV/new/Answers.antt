use Rattle.std.proofs.Common.{sym, subst}
use Rattle.std.specs.List.Sorted.{IsStrictlySortedBy}
use Rattle.std.specs.Map.{keys_of}
use Rattle.lattice_sets.specs.SetLaws.{rising_nothing}
use Rattle.lattice_sets.proofs.map.MapV.new.Goals as goal

pub invariant_of-result : goal.invariant_of-result
invariant_of-result g c = subst (λ m. IsStrictlySortedBy g.K.Ord.cmp (keys_of m)) (sym c.new.ensures.items) (rising_nothing g.K.Ord.cmp g.met.K.Ord.total)
