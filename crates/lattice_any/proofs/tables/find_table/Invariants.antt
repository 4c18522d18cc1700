use Rattle.std.proofs.Common.{◌≡◌, drop}
use Rattle.lattice_any.specs.Tables.{declarations_in, table_among}
use Rattle.lattice_any.proofs.tables.find_table.Given as goal

abbrev pub invariant-loop-declared : goal.invariant-loop-declared
invariant-loop-declared l = table_among (declarations_in l.tables) l.name ≡ table_among (declarations_in (drop l.declared-index l.tables)) l.name
