-- What is made of a specification's declarations, and how many there may be.
use Rattle.std.specs.Prelude.{◌<◌, ◌^◌, List, length, map}
use Rattle.std.specs.List.{AllZip}
use Rattle.flow_syntax.specs.declared.spec.Spec.{Spec}
use Rattle.flow_syntax.specs.declared.spec.TypedSpec.{TypedSpec}
use Rattle.flow_syntax.specs.declared.tables.FunctionDecl.{FunctionDecl}
use Rattle.flow_syntax.specs.Types.{Typing, typing_of}
use Rattle.lattice_tables.specs.declared.function.TableFn.{TableFn}
use Rattle.lattice_tables.specs.Functions.{IsMadeOf}
use Rattle.function_laws.specs.Laws.{numbered_function}

-- functions are those of declarations, place by place
abbrev pub AreFunctionsOf : Spec → List FunctionDecl → List TableFn → Type 0
AreFunctionsOf spec = AllZip (λ f made. IsMadeOf (numbered_function spec f) made)

-- There are fewer than 2^32 lattices, and fewer than 2^32 functions.
pub record HasFewTables (spec : Spec) : Type 0 where
  pub lattices : length spec.lattices < 2 ^ 32
  pub functions : length spec.functions < 2 ^ 32

-- the types of the expressions of a specification, which it keeps
abbrev pub types_in : TypedSpec → List Typing
types_in spec = map typing_of spec.types
