use Rattle.std.proofs.Common.{refl}
use Rattle.lattice_sets.specs.Sets.{intersection_of}
use Rattle.lattice_sets.specs.SetLaws.{intersection_is_intersection}
use Rattle.lattice_sets.proofs.laws.must_joins_are_intersections.Goals as goal

pub returns : goal.returns
returns g c a b ra rb = (intersection_of g.E.Ord.cmp a b, refl, intersection_is_intersection g.E.Ord.cmp g.met.E.Ord.total g.met.E.Element.exact a b ra)
