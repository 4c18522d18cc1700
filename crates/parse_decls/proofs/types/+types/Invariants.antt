use Rattle.std.proofs.Common.{◌+◌, ◌-◌, ◌*◌}
use Rattle.parse_decls.proofs.types.+types.Given as goal

abbrev pub decreases-read_key_and_value : goal.decreases-read_key_and_value
decreases-read_key_and_value l = 2 * (257 - l.nesting)

abbrev pub decreases-read_type_pair : goal.decreases-read_type_pair
decreases-read_type_pair l = 2 * (257 - l.nesting)

abbrev pub decreases-read_type : goal.decreases-read_type
decreases-read_type l = 2 * (257 - l.nesting) + 1
