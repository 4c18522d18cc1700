-- The tables of declared lattices, and the domains that types have by them.
use Rattle.std.specs.Prelude.{◌≡◌, ℕ, List, map, find, bytes_eq, Option, Some, None}
use Rattle.flow_syntax.specs.declared.tables.TableDecl.{TableDecl}
use Rattle.flow_syntax.specs.declared.types.LatticeType.{LatticeType}
use Rattle.flow_syntax.specs.Types.{Lattice, lattice_of}
use Rattle.flow_syntax.specs.Types as typed
use Rattle.lattice_tables.specs.Tables.{join_table}
use Rattle.table_laws.specs.JoinTables.{named}
use Rattle.value_domains.specs.Domains.{Domain, Table, may, must, flat, map_to, pair_of, listed, one_element, table_of, texts_of, type_domain}
use Rattle.lattice_any.specs.declared.named.NamedTable.{NamedTable}
use Rattle.lattice_any.specs.declared.tables.DeclaredTable.{DeclaredTable}

-- a lattice of a table by the names of its elements
abbrev pub table_of_names : NamedTable → Table
table_of_names n = named (texts_of n.elements) (join_table n.table)

-- a name with the table of the lattice of that name
pub record Declared : Type 0 where
  pub name : List ℕ
  pub table : Table

abbrev pub declared_by : DeclaredTable → Declared
declared_by d = record { name = d.name; table = table_of_names d.table }

-- what tables declare
abbrev pub declarations_in : List DeclaredTable → List Declared
declarations_in tables = map declared_by tables

-- what a declaration declares
abbrev pub declaration_of : TableDecl → Declared
declaration_of d = record { name = d.name.text; table = table_of (Some d) }

-- tables are those of all declarations
abbrev pub AreDeclared : List TableDecl → List DeclaredTable → Type 0
AreDeclared declared tables = declarations_in tables ≡ map declaration_of declared

abbrev pub found_table : Option NamedTable → Table
found_table (Some n) = table_of_names n
found_table None = one_element

abbrev pub first_table : Option Declared → Table
first_table (Some d) = d.table
first_table None = one_element

-- the table of this name: the first, and that of the lattice of one element where there is none
abbrev pub table_among : List Declared → List ℕ → Table
table_among ds x = first_table (find (λ d. bytes_eq x d.name) ds)

-- the domain of a lattice with these tables
abbrev pub domain_among : List Declared → Lattice → Domain
domain_among ds (typed.may s) = may s
domain_among ds (typed.must s) = must s
domain_among ds (typed.flat s) = flat s
domain_among ds (typed.map_to s l) = map_to s (domain_among ds l)
domain_among ds (typed.pair_of a b) = pair_of (domain_among ds a) (domain_among ds b)
domain_among ds (typed.table x) = listed (table_among ds x)

-- the domain of a type with these tables
abbrev pub domain_in : List DeclaredTable → LatticeType → Domain
domain_in tables type = domain_among (declarations_in tables) (lattice_of type)

-- With the tables of all declarations a type has the domain that it has by them.
abbrev pub DeclaredHaveDomains : Type 0
DeclaredHaveDomains = (declared : List TableDecl) (tables : List DeclaredTable) → AreDeclared declared tables → (type : LatticeType) → domain_in tables type ≡ type_domain declared type
