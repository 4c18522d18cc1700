use Rattle.std.proofs.Common.{◌∙◌}
use Rattle.lattice_sets.specs.Sets.{IsUnion}
use Rattle.lattice_sets.specs.SetLaws.{union_unique}
use Rattle.lattice_sets.proofs.may.MayLLattice.join.Goals as goal

pub returns : goal.returns
returns g c =
    let items : IsUnion g.E.Ord.cmp c.args.a.now c.args.b.now c.in_ok-items.items = rw (c.items.ensures.items, c.items-2.ensures.items) at c.in_ok-items.ensures in
    c.from_rising.ensures ∙ union_unique g.E.Ord.cmp g.met.E.Ord.total g.met.E.Element.exact _ _ _ c.requires.left items
