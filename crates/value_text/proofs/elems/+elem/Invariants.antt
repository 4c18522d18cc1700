use Rattle.std.proofs.Common.{◌+◌, ◌*◌}
use Rattle.value_text.proofs.elems.+elem.Given as goal

abbrev pub decreases-read_elem : goal.decreases-read_elem
decreases-read_elem l = 3 * l.nesting + 2

abbrev pub decreases-read_pair : goal.decreases-read_pair
decreases-read_pair l = 3 * l.nesting + 1

abbrev pub decreases-read_elem_below : goal.decreases-read_elem_below
decreases-read_elem_below l = 3 * l.nesting
