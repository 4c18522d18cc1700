use Rattle.std.proofs.Common.{◌≡◌, take}
use Rattle.flow_term.proofs.value.+copy_value.Given as goal

abbrev pub invariant-copy_entries-loop-entry : goal.invariant-copy_entries-loop-entry
invariant-copy_entries-loop-entry l = l.copy ≡ take l.entry-index l.entries
