use Rattle.lattice_any.proofs.Orders.{below_sets}
use Rattle.lattice_any.proofs.parts.is_below_must.Goals as goal

pub returns-in-Set-Set : goal.returns-in-Set-Set
returns-in-Set-Set c = below_sets _ _ _ _ _ _ _ c.in-Set-Set.is-0 c.in-Set-Set.is-1 c.as_slice.ensures c.as_slice-in-Set-Set.ensures c.includes.ensures
