-- The bytes so far lead here, and what is left leads from here where all of them lead from the start.
use Rattle.std.proofs.Common.{◌≡◌, true, Ok, take, drop}
use Rattle.aterm_text.specs.inner.Answers.{state_of}
use Rattle.aterm_text.specs.inner.Machine.{run, nothing}
use Rattle.aterm_text.proofs.reader.read_all.Given as goal

abbrev pub invariant-loop-at : goal.invariant-loop-at
invariant-loop-at l = record {
  behind : run true nothing 0 (take l.at l.bytes) ≡ Ok (state_of l.reader);
  ahead : run true (state_of l.reader) l.at (drop l.at l.bytes) ≡ run true nothing 0 l.bytes;
}
