-- What the names of an expression stand for.
use Rattle.std.specs.Prelude.{ℕ, Bool, ◌||◌, List, is_some}
use Rattle.flow_syntax.specs.declared.spec.Spec.{Spec}
use Rattle.flow_syntax.specs.Scopes.{Scope, variable_named}
use Rattle.flow_syntax.specs.Inferred.{constant_named}

-- whether a name is a variable, an item or an element
abbrev pub is_bound : Spec → Scope → List ℕ → Bool
is_bound spec scope x = is_some (variable_named scope x) || is_some (constant_named spec x)
