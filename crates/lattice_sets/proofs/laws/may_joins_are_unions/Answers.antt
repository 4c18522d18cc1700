use Rattle.lattice_sets.specs.SetLaws.{union_is_union}
use Rattle.lattice_sets.proofs.laws.may_joins_are_unions.Goals as goal

pub returns : goal.returns
returns g c a b ra rb = union_is_union g.E.Ord.cmp g.met.E.Ord.total g.met.E.Element.exact a b ra
