-- What a lattice of a table is, what is built of a declaration, and why a table is refused.
use Rattle.std.specs.Prelude.{◌≡◌, Some, ⊤}
use Rattle.flow_syntax.specs.declared.tables.TableDecl.{TableDecl}
use Rattle.value_domains.specs.Domains.{table_of}
use Rattle.table_laws.specs.JoinTables.{JoinTable, IsFirstFault, numbered, table_by}
use Rattle.lattice_tables.specs.declared.lattice.TableL.{TableL}
use Rattle.lattice_tables.specs.declared.refusal.TableRefusal.{TableRefusal}
use Rattle.lattice_tables.specs.declared.refusal.TableRefusal.TheVariants.{Law, NoMemory}

-- its count, bottom and joins
abbrev pub join_table : TableL → JoinTable
join_table l = table_by l.count l.bottom l.join

-- the numbers of a declaration
abbrev pub declared_numbers : TableDecl → JoinTable
declared_numbers decl = numbered (table_of (Some decl))

-- a lattice has the table of a declaration
abbrev pub IsBuiltFrom : TableDecl → TableL → Type 0
IsBuiltFrom decl l = join_table l ≡ declared_numbers decl

-- a table breaks a law as a refusal says
abbrev pub IsRefusal : JoinTable → TableRefusal → Type 0
IsRefusal t (Law fault) = IsFirstFault t fault
IsRefusal t NoMemory = ⊤
