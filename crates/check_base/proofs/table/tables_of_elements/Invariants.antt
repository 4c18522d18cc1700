use Rattle.std.proofs.Common.{◌≡◌, ℕ, List, take, map}
use Rattle.check_base.specs.Names.{element_named}
use Rattle.check_base.specs.Tables.{value_in}
use Rattle.check_base.proofs.table.tables_of_elements.Given as goal

abbrev pub invariant-loop-lattice : goal.invariant-loop-lattice
invariant-loop-lattice l = (x : List ℕ) → map (λ table. value_in table x) l.tables.items ≡ map (λ lattice. element_named lattice x) (take l.lattice-index l.lattices)
