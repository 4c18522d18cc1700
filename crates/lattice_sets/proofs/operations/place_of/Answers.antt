use Rattle.lattice_sets.proofs.Searches.{place_searched}
use Rattle.lattice_sets.proofs.operations.place_of.Goals as goal

pub returns : goal.returns
returns g c = place_searched g.E.Ord.cmp g.met.E.Ord.total g.met.E.Element.exact _ _ _ c.requires c.binary_search.ensures.bound c.binary_search.ensures.position
