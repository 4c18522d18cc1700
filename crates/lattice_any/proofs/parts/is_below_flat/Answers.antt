use Rattle.lattice_any.proofs.Orders.{below_flats}
use Rattle.lattice_any.proofs.parts.is_below_flat.Goals as goal

pub returns-in-Flat-Flat : goal.returns-in-Flat-Flat
returns-in-Flat-Flat c = below_flats _ _ _ _ _ c.in-Flat-Flat.is-0 c.in-Flat-Flat.is-1 c.is_same.ensures
