use Rattle.lattice_sets.proofs.Puts.{puts_kept}
use Rattle.lattice_sets.proofs.laws.puts_keep_maps_valid.Goals as goal

pub returns : goal.returns
returns g c =
    let l = c.args._lattice.now.values in
    puts_kept g.K.Ord.cmp g.met.K.Ord.total g.met.K.Element.exact (g.L.Lattice.valid l) (g.L.Lattice.least l) (g.L.Lattice.joined l) (g.met.L.Lattice.laws l)
