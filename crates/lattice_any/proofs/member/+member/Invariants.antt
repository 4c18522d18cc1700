use Rattle.std.specs.Prelude.{All}
use Rattle.std.proofs.Common.{◌+◌, ◌*◌, take}
use Rattle.lattice_any.specs.declared.any.AnyL.{size-AnyL}
use Rattle.lattice_any.specs.Members.{IsKeptIn}
use Rattle.lattice_any.specs.Types.{domain_of_any}
use Rattle.lattice_any.proofs.member.+member.Given as goal

abbrev pub decreases-is_value : goal.decreases-is_value
decreases-is_value l = 3 * size-AnyL l.lattice.now

abbrev pub decreases-is_map : goal.decreases-is_map
decreases-is_map l = 3 * size-AnyL l.values.now + 2

abbrev pub decreases-are_kept : goal.decreases-are_kept
decreases-are_kept l = 3 * size-AnyL l.values.now + 1

abbrev pub invariant-are_kept-loop-entry : goal.invariant-are_kept-loop-entry
invariant-are_kept-loop-entry l = All (λ e. IsKeptIn (domain_of_any l.values) e.value) (take l.entry-index l.entries)
