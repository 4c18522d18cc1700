use Rattle.std.proofs.Common.{◌≡◌, ◌+◌, ◌*◌, ◌≤◌, length}
use Rattle.value_text.specs.inner.Reading.{all_listed, continued, elem_below, entry_with, value_below}
use Rattle.value_text.proofs.values.+value.Given as goal

abbrev pub decreases-read_any : goal.decreases-read_any
decreases-read_any l = 5 * l.nesting + 4

abbrev pub decreases-read_pair : goal.decreases-read_pair
decreases-read_pair l = 5 * l.nesting + 1

abbrev pub decreases-read_map : goal.decreases-read_map
decreases-read_map l = 5 * l.nesting + 3

abbrev pub decreases-read_entries : goal.decreases-read_entries
decreases-read_entries l = 5 * l.nesting + 2

abbrev pub decreases-read_entry : goal.decreases-read_entry
decreases-read_entry l = 5 * l.nesting + 1

abbrev pub decreases-read_any_below : goal.decreases-read_any_below
decreases-read_any_below l = 5 * l.nesting

abbrev pub invariant-read_entries-loop-alloc : goal.invariant-read_entries-loop-alloc
invariant-read_entries-loop-alloc l = record {
  read : continued l.entries (all_listed 93 (entry_with (elem_below l.nesting) (value_below l.nesting)) l.rest) ≡ all_listed 93 (entry_with (elem_below l.nesting) (value_below l.nesting)) l.fn.bytes;
  within : length l.rest ≤ length l.fn.bytes;
}

abbrev pub decreases-read_entries-loop-alloc : goal.decreases-read_entries-loop-alloc
decreases-read_entries-loop-alloc l = length l.rest
