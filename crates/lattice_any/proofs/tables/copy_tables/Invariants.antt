use Rattle.std.proofs.Common.{◌≡◌, take}
use Rattle.lattice_any.proofs.tables.copy_tables.Given as goal

abbrev pub invariant-loop-declared : goal.invariant-loop-declared
invariant-loop-declared l = l.copy.items ≡ take l.declared-index l.tables
