use Rattle.std.proofs.Common.{◌∙◌, ap}
use Rattle.lattice_sets.specs.Sets.{IsIntersection}
use Rattle.lattice_sets.specs.declared.must.MustV.TheVariants.{Set}
use Rattle.lattice_sets.proofs.MustSets.{join_of_sets}
use Rattle.lattice_sets.proofs.must.MustLLattice.join.Goals as goal

pub returns-in_ok-items-in-Set-Set : goal.returns-in_ok-items-in-Set-Set
returns-in_ok-items-in-Set-Set g c =
    let items : IsIntersection g.E.Ord.cmp c.in-Set-Set.x c.in-Set-Set.y c.in_ok-items-in-Set-Set.items = rw (c.items.ensures.items, c.items-in-Set-Set.ensures.items) at c.in_ok-items-in-Set-Set.ensures in
    ap Set c.from_rising.ensures ∙ join_of_sets g.E.Ord.cmp g.met.E.Ord.total g.met.E.Element.exact _ _ _ _ _ c.in-Set-Set.is-0 c.in-Set-Set.is-1 c.items.ensures.rising items
