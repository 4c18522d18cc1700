use Rattle.std.proofs.Common.{◌≡◌, ◌≤◌, length}
use Rattle.value_text.specs.inner.Reading.{all_until, continued, part_of}
use Rattle.value_text.proofs.quoted.read_parts.Given as goal

abbrev pub invariant-loop-rest : goal.invariant-loop-rest
invariant-loop-rest l = record {
  read : continued l.parts (all_until l.quote (part_of l.quote) l.rest) ≡ all_until l.quote (part_of l.quote) l.fn.bytes;
  within : length l.rest ≤ length l.fn.bytes;
}

abbrev pub decreases-loop-rest : goal.decreases-loop-rest
decreases-loop-rest l = length l.rest
