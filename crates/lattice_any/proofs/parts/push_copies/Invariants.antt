use Rattle.std.proofs.Common.{◌≡◌, ◌++◌, take}
use Rattle.value_domains.specs.Values.{pairs_of}
use Rattle.lattice_any.proofs.parts.push_copies.Given as goal

abbrev pub invariant-loop-entry : goal.invariant-loop-entry
invariant-loop-entry l = pairs_of l.list ≡ pairs_of l.fn.list ++ pairs_of (take l.entry-index l.entries)
