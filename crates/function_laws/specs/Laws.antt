-- Declared functions by the numbers of the elements, and what they are to the meaning of calls.
use Rattle.std.specs.Prelude.{◌≡◌, ◌⊎◌, Contains, List, [], ◌∷◌, length, map}
use Rattle.flow_term.specs.Orders.{EachOnce}
use Rattle.flow_syntax.specs.declared.spec.Named.{Named}
use Rattle.flow_syntax.specs.declared.spec.Spec.{Spec}
use Rattle.flow_syntax.specs.declared.tables.FunctionDecl.{FunctionDecl}
use Rattle.flow_syntax.specs.declared.tables.TableDecl.{TableDecl}
use Rattle.flow_syntax.specs.Accepted.{HasSmallFunctions}
use Rattle.flow_syntax.specs.Faults.{HasNoFault}
use Rattle.value_domains.specs.Domains.{Table, one_element, place_in, table_named, texts_of}
use Rattle.table_laws.specs.FunctionTables.{FunctionTable, IsTotal}
use Rattle.table_laws.specs.FunctionTables as numbers
use Rattle.table_laws.specs.JoinTables.{IsComplete, numbered}
use Rattle.expr_meaning.specs.Functions.{GivesElements}
use Rattle.expr_meaning.specs.Functions as meaning

-- the lattice of the first of these arguments, and that of the second; where there is none, that of one element
abbrev pub first_lattice : List TableDecl → List Named → Table
first_lattice declared (n ∷ ns) = table_named declared n.text
first_lattice declared [] = one_element

abbrev pub second_lattice : List TableDecl → List Named → Table
second_lattice declared (n ∷ ns) = first_lattice declared ns
second_lattice declared [] = one_element

module _ (spec : Spec) (f : FunctionDecl) where
  abbrev pub left : Table
  left = first_lattice spec.lattices f.args

  abbrev pub right : Table
  right = second_lattice spec.lattices f.args

  abbrev pub to : Table
  to = table_named spec.lattices f.result.text

  -- a declared function by numbers
  abbrev pub numbered_function : FunctionTable
  numbered_function = record { left = numbered left; right = numbered right; to = numbered to; results = map (place_in to.elements) (texts_of f.table) }

  -- a function has one or two arguments, its lattices have complete tables, and it has a result for each two arguments, which is an element
  pub record IsWellDeclared : Type 0 where
    pub few : (length f.args ≡ 1) ⊎ (length f.args ≡ 2)
    pub first : IsComplete (numbered left)
    pub second : IsComplete (numbered right)
    pub result : IsComplete (numbered to)
    pub total : IsTotal numbered_function

  -- no name stands twice among the elements of its lattices
  pub record HasDistinctElements : Type 0 where
    pub first : EachOnce left.elements
    pub second : EachOnce right.elements

-- A function whose numbers are monotone is monotone.
abbrev pub MonotoneByNumbers : Type 0
MonotoneByNumbers = (spec : Spec) (f : FunctionDecl) → IsWellDeclared spec f → numbers.IsMonotone (numbered_function spec f) → meaning.IsMonotone spec f

-- A monotone function has monotone numbers, where its lattices have distinct elements.
abbrev pub MonotoneInNumbers : Type 0
MonotoneInNumbers = (spec : Spec) (f : FunctionDecl) → IsWellDeclared spec f → HasDistinctElements spec f → meaning.IsMonotone spec f → numbers.IsMonotone (numbered_function spec f)

-- A well declared function gives elements.
abbrev pub GivesByNumbers : Type 0
GivesByNumbers = (spec : Spec) (f : FunctionDecl) → IsWellDeclared spec f → GivesElements spec f

-- The functions of a specification without faults, each of one or two arguments, are well declared, and have distinct elements.
abbrev pub AcceptedIsWellDeclared : Type 0
AcceptedIsWellDeclared = (spec : Spec) → HasNoFault spec → HasSmallFunctions spec → (f : FunctionDecl) → Contains spec.functions f → IsWellDeclared spec f × HasDistinctElements spec f
