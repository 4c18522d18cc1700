-- What may be named at a place: variables, and the sides at which properties may be read.
use Rattle.std.specs.Prelude.{ℕ, Bool, true, List, [], ◌∷◌, ◌++◌, Option, find, bytes_eq}
use Rattle.flow_syntax.specs.declared.expr.Side.{Side}
use Rattle.flow_syntax.specs.declared.expr.Side.TheVariants as side
use Rattle.flow_syntax.specs.Types.{Sort}

-- a variable; its sort isn't known where that follows from an expression with a fault
pub record Variable : Type 0 where
  pub name : List ℕ
  pub sort : Option Sort

-- the variables that may be used, in the order in which they came into scope, and whether `prev` and `next` may be read
pub record Scope : Type 0 where
  pub variables : List Variable
  pub prev : Bool
  pub next : Bool

-- whether properties may be read at this side
abbrev pub can_read : Scope → Side → Bool
can_read scope side.This = true
can_read scope side.Prev = scope.prev
can_read scope side.Next = scope.next

-- the scope with one more variable
abbrev pub with_variable : Scope → List ℕ → Option Sort → Scope
with_variable scope x s = record scope { variables = scope.variables ++ record { name = x; sort = s } ∷ [] }

-- the variable of this name, if there is one: a second one of a name is a fault
abbrev pub variable_named : Scope → List ℕ → Option Variable
variable_named scope x = find (λ v. bytes_eq x v.name) scope.variables
