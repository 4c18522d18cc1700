-- When the tables of a domain keep the laws of lattices, and lattices without a table.
use Rattle.std.specs.Prelude.{IsTrue, ⊤}
use Rattle.flow_syntax.specs.Types.{Lattice}
use Rattle.flow_syntax.specs.Types as typed
use Rattle.lattice_base.specs.Laws.{JoinLaws}
use Rattle.value_domains.specs.Domains.{Domain, map_to, pair_of, listed, Table, has_element, table_join}

-- the join of a table is one of a lattice
abbrev pub IsLawfulTable : Table → Type 0
IsLawfulTable t = JoinLaws (λ x. IsTrue (has_element t x)) t.bottom (table_join t)

-- each table of a domain is lawful
abbrev pub IsLawful : Domain → Type 0
IsLawful (map_to sort inner) = IsLawful inner
IsLawful (pair_of left right) = IsLawful left × IsLawful right
IsLawful (listed t) = IsLawfulTable t
IsLawful _ = ⊤

-- no part of the lattice is a declared one
abbrev pub HasNoTable : Lattice → Type 0
HasNoTable (typed.map_to sort values) = HasNoTable values
HasNoTable (typed.pair_of left right) = HasNoTable left × HasNoTable right
HasNoTable (typed.table name) = ⊥
HasNoTable _ = ⊤
