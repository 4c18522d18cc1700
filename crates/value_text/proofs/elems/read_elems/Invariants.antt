use Rattle.std.proofs.Common.{◌≡◌, ◌≤◌, length}
use Rattle.value_text.specs.inner.Reading.{all_listed, continued, elem_below}
use Rattle.value_text.proofs.elems.read_elems.Given as goal

abbrev pub invariant-loop-alloc : goal.invariant-loop-alloc
invariant-loop-alloc l = record {
  read : continued l.elems (all_listed 125 (elem_below l.nesting) l.rest) ≡ all_listed 125 (elem_below l.nesting) l.fn.bytes;
  within : length l.rest ≤ length l.fn.bytes;
}

abbrev pub decreases-loop-alloc : goal.decreases-loop-alloc
decreases-loop-alloc l = length l.rest
