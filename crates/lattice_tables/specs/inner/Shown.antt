-- What a table is as it is looked at before it is known to be that of a lattice.
use Rattle.table_laws.specs.JoinTables.{JoinTable, table_by}
use Rattle.lattice_tables.specs.declared.joins.Joins.{Joins}

abbrev pub shown : Joins → JoinTable
shown j = table_by j.count j.bottom j.join.now
