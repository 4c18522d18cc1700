use Rattle.std.proofs.Common.{◌≡◌, take}
use Rattle.lattice_any.proofs.same.+same.Given as goal

abbrev pub invariant-are_same_entries-loop-at : goal.invariant-are_same_entries-loop-at
invariant-are_same_entries-loop-at l = take l.at l.a ≡ take l.at l.b
