-- What the laws by numbers are to declared tables.
use Rattle.std.specs.Prelude.{◌↔◌, ◌≤◌, Contains, Some, length}
use Rattle.flow_term.specs.Orders.{EachOnce}
use Rattle.flow_syntax.specs.declared.spec.Spec.{Spec}
use Rattle.flow_syntax.specs.declared.tables.TableDecl.{TableDecl}
use Rattle.flow_syntax.specs.DeclFaults.{element_limit}
use Rattle.flow_syntax.specs.Faults as specs
use Rattle.value_domains.specs.Domains.{Table, table_of}
use Rattle.value_domains.specs.Lawful.{IsLawfulTable}
use Rattle.table_laws.specs.JoinTables.{JoinTable, IsComplete, IsLawful, HasNoFault, numbered}

-- A complete table breaks no law exactly where it is that of a lattice.
abbrev pub FaultlessIsLawful : Type 0
FaultlessIsLawful = (t : JoinTable) → IsComplete t → HasNoFault t ↔ IsLawful t

-- A table of names is that of a lattice where its numbers are.
abbrev pub LawfulByNumbers : Type 0
LawfulByNumbers = (t : Table) → IsComplete (numbered t) → IsLawful (numbered t) → IsLawfulTable t

-- And only there, where no name stands twice among its elements.
abbrev pub LawfulInNumbers : Type 0
LawfulInNumbers = (t : Table) → EachOnce t.elements → IsComplete (numbered t) → IsLawfulTable t → IsLawful (numbered t)

-- a declared lattice has a complete table of few elements, each named once
pub record IsWellDeclared (l : TableDecl) : Type 0 where
  pub few : length l.elements ≤ element_limit
  pub complete : IsComplete (numbered (table_of (Some l)))
  pub distinct : EachOnce (table_of (Some l)).elements

-- The lattices of a specification without faults are well declared.
abbrev pub AcceptedIsWellDeclared : Type 0
AcceptedIsWellDeclared = (spec : Spec) → specs.HasNoFault spec → (l : TableDecl) → Contains spec.lattices l → IsWellDeclared l
