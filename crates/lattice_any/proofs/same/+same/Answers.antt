use Rattle.lattice_any.proofs.SameValues.{elem_told, other_entry, same_entry, same_flats}
use Rattle.lattice_any.proofs.same.+same.Goals as goal

pub is_same_entry-returns-then-is_same : goal.is_same_entry-returns-then-is_same
is_same_entry-returns-then-is_same t c = same_entry _ _ _ ((elem_told _ _ _ c.is_same.ensures).0 c.if-is_same.true) c.is_same_value.ensures

pub is_same_entry-returns-else-is_same : goal.is_same_entry-returns-else-is_same
is_same_entry-returns-else-is_same t c = other_entry _ _ _ c.if-is_same.false c.is_same.ensures

pub is_same_value-returns-in-Flat-b : goal.is_same_value-returns-in-Flat-b
is_same_value-returns-in-Flat-b t c = same_flats _ _ _ _ _ c.in-Flat.is c.in-Flat-b.is c.is_same.ensures
