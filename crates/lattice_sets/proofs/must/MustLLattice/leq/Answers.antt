use Rattle.std.proofs.Common.{◌↔◌, IsTrue}
use Rattle.lattice_sets.specs.Sets.{Includes}
use Rattle.lattice_sets.proofs.MustSets.{order_of_sets}
use Rattle.lattice_sets.proofs.must.MustLLattice.leq.Goals as goal

pub returns-in-Set-Set : goal.returns-in-Set-Set
returns-in-Set-Set g c =
    let told : IsTrue c.includes.result ↔ Includes c.in-Set-Set.x c.in-Set-Set.y = rw (c.items.ensures.items, c.items-in-Set-Set.ensures.items) at c.includes.ensures in
    order_of_sets g.E.Ord.cmp g.met.E.Ord.total g.met.E.Element.exact _ _ _ _ c.in-Set-Set.is-0 c.in-Set-Set.is-1 c.items.ensures.rising c.items-in-Set-Set.ensures.rising _ told
