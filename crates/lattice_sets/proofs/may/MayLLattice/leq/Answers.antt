use Rattle.std.proofs.Common.{◌↔◌, IsTrue}
use Rattle.lattice_sets.specs.Sets.{Includes}
use Rattle.lattice_sets.specs.MayLaws.{may_order}
use Rattle.lattice_sets.proofs.may.MayLLattice.leq.Goals as goal

pub returns : goal.returns
returns g c =
    let told : IsTrue c.includes.result ↔ Includes c.args.b.now c.args.a.now = rw (c.items.ensures.items, c.items-2.ensures.items) at c.includes.ensures in
    let order = may_order g.E.Ord.cmp g.met.E.Ord.total g.met.E.Element.exact c.args.a.now c.args.b.now c.requires.left c.requires.right in
    (λ h. order.0 (told.0 h), λ e. told.1 (order.1 e))
