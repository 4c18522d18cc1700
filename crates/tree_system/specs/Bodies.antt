-- What it is to evaluate the bodies of rules, by their numbers.
use Rattle.std.specs.Prelude.{◌≡◌, ℕ, ◌+◌, ◌<◌, Bool, IsTrue, List, [], ◌∷◌, ◌++◌, length, map, filter, Some, slice_get}
use Rattle.flow_term.specs.declared.value.Value.{Value}
use Rattle.flow_syntax.specs.declared.expr.Side.{Side}
use Rattle.flow_syntax.specs.declared.property.PropDecl.{PropDecl}
use Rattle.flow_syntax.specs.declared.property.PropRule.{PropRule}
use Rattle.flow_syntax.specs.declared.spec.Spec.{Spec}
use Rattle.flow_syntax.specs.ExprFaults.{trigger_scope}
use Rattle.flow_syntax.specs.Types.{Typing}
use Rattle.expr_meaning.specs.Meaning.{Situation, value_in}
use Rattle.expr_meaning.specs.Typing.{Suits}
use Rattle.typed_bodies.specs.Accepted.{sense_of}
use Rattle.typed_bodies.specs.Anywhere.{reads_at, used_by, variables_at}
use Rattle.tree_constraints.specs.Constraints.{sides}
use Rattle.tree_system.specs.declared.bodies.Reading.{Reading}

-- The body of the rule with this number can be evaluated here: the variables that it has are bound, and each value that it reads is one of the property's domain.
abbrev pub CanRun : Spec → ℕ → Situation → Type 0
CanRun spec i at = (rule : PropRule) → slice_get spec.rules i ≡ Some rule → Suits (used_by spec rule.body) (variables_at (trigger_scope rule.trigger)) at

-- each declared property can be read at each side at which the body reads it
abbrev pub CanRead : Spec → ℕ → (ℕ → Side → Bool) → Type 0
CanRead spec i has = (rule : PropRule) → slice_get spec.rules i ≡ Some rule → (p : ℕ) (side : Side) → p < length spec.properties → IsTrue (reads_at spec rule.body p side) → IsTrue (has p side)

-- this is the value that the body gives here, where the expressions of the specification have these types
abbrev pub IsBodyValue : Spec → List Typing → ℕ → Situation → Value → Type 0
IsBodyValue spec types i at v = (rule : PropRule) → slice_get spec.rules i ≡ Some rule → v ≡ value_in (sense_of spec types rule.body at)

-- of these properties, numbered from here on, those that are read, at each side at which they are
abbrev pub readings_from : (ℕ → Side → Bool) → ℕ → List PropDecl → List Reading
readings_from is_read n [] = []
readings_from is_read n (p ∷ ps) = map (λ s. record { property = n; side = s }) (filter (is_read n) sides) ++ readings_from is_read (n + 1) ps

-- this is what the body reads, in order of properties
abbrev pub AreReadings : Spec → ℕ → List Reading → Type 0
AreReadings spec i readings = (rule : PropRule) → slice_get spec.rules i ≡ Some rule → readings ≡ readings_from (reads_at spec rule.body) 0 spec.properties
