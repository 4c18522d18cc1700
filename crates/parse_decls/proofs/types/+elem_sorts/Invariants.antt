use Rattle.std.proofs.Common.{◌+◌, ◌-◌, ◌*◌}
use Rattle.parse_decls.proofs.types.+elem_sorts.Given as goal

abbrev pub decreases-read_elem_pair : goal.decreases-read_elem_pair
decreases-read_elem_pair l = 2 * (257 - l.nesting)

abbrev pub decreases-read_elem_sort : goal.decreases-read_elem_sort
decreases-read_elem_sort l = 2 * (257 - l.nesting) + 1
