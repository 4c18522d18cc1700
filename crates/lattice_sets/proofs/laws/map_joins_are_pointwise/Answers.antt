use Rattle.lattice_sets.specs.MapLaws.{map_pointwise}
use Rattle.lattice_sets.proofs.laws.map_joins_are_pointwise.Goals as goal

pub returns : goal.returns
returns g c =
    let l = c.args._lattice.now.values in
    map_pointwise g.K.Ord.cmp g.met.K.Ord.total g.met.K.Element.exact (g.L.Lattice.valid l) (g.L.Lattice.least l) (g.L.Lattice.joined l) (g.met.L.Lattice.laws l)
