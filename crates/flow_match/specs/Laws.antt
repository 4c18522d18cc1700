-- What holds of the variables of each pattern.
use Rattle.std.specs.Prelude.{◌≡◌, ℕ, List, Some, is_some}
use Rattle.flow_term.specs.declared.term.Term.{Term}
use Rattle.flow_term.specs.declared.value.Bound.{Bound}
use Rattle.flow_syntax.specs.declared.pattern.Pattern.{Pattern}
use Rattle.flow_syntax.specs.Binders.{bound_in}
use Rattle.flow_syntax.specs.Matching.{matches}
use Rattle.flow_match.specs.Bindings.{bindings_at, BindAll}

-- A pattern binds exactly where it matches.
abbrev pub BindsWhereItMatches : Pattern → Type 0
BindsWhereItMatches p = (t : Term) (path : List ℕ) → is_some (bindings_at p t path) ≡ matches p t

-- A pattern binds exactly its own variables, in the order of the text, each to an element of its sort.
abbrev pub BindsItsVariables : Pattern → Type 0
BindsItsVariables p = (t : Term) (path : List ℕ) (bs : List Bound) → bindings_at p t path ≡ Some bs → BindAll (bound_in p) bs
