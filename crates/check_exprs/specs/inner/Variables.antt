-- What the code's variables stand for, and their numbers by name.
use Rattle.std.specs.Prelude.{◌≡◌, ℕ, List, Option, Some, find, bytes_eq, map}
use Rattle.std.specs.HashMap.{HashMap}
use Rattle.std.specs.List.{position_from}
use Rattle.std.specs.Map.{lookup}
use Rattle.flow_syntax.specs.Types.{Sort, sort_of}
use Rattle.flow_syntax.specs.Scopes.{Variable}
use Rattle.check_exprs.specs.declared.variables.PatternVariable.{PatternVariable}
use Rattle.check_exprs.specs.declared.variables.Variable.{Variable as VariableValue}
use Rattle.expr_typing.specs.Views.{sort_in}

abbrev pub variable_of : VariableValue → Variable
variable_of v = record { name = v.name.now; sort = sort_in v.sort }

-- a variable of a known sort
abbrev pub bound_to : List ℕ → Sort → Variable
bound_to x s = record { name = x; sort = Some s }

abbrev pub pattern_variable : PatternVariable → Variable
pattern_variable v = bound_to v.name.now (sort_of v.sort)

-- the first variable of this name
abbrev pub find_named : List ℕ → List PatternVariable → Option Variable
find_named x vs = find (λ v. bytes_eq x v.name) (map pattern_variable vs)

-- the number that a table has for a name
abbrev pub number_in : {S : Type 0} → HashMap (List ℕ) ℕ S → List ℕ → Option ℕ
number_in numbers x = lookup (bytes_eq x) numbers.entries

-- Each name has the number of the first variable that is called so.
abbrev pub AreNumbers : {S : Type 0} → List PatternVariable → HashMap (List ℕ) ℕ S → Type 0
AreNumbers vs numbers = (x : List ℕ) → number_in numbers x ≡ position_from (λ v. bytes_eq x v.name.now) 0 vs
