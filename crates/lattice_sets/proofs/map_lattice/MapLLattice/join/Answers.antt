use Rattle.std.proofs.Common.{sym, subst}
use Rattle.std.specs.List.Sorted.{IsStrictlySortedBy}
use Rattle.std.specs.Map.{keys_of}
use Rattle.lattice_sets.specs.MapLaws.{rising_join}
use Rattle.lattice_sets.proofs.map_lattice.MapLLattice.join.Goals as goal

pub from_rising-requires : goal.from_rising-requires
from_rising-requires g c =
    let rising = subst (λ m. IsStrictlySortedBy g.K.Ord.cmp (keys_of m)) (sym c.entries.ensures.entries) c.entries.ensures.rising in
    subst (λ m. IsStrictlySortedBy g.K.Ord.cmp (keys_of m)) (sym c.in_ok-entries.ensures) (rising_join g.K.Ord.cmp g.met.K.Ord.total g.met.K.Element.exact (g.L.Lattice.joined c.args.self.now.values) c.entries.result.now c.entries-2.result.now rising)
