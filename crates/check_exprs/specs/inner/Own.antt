-- The faults of expressions as they are noted.
use Rattle.std.specs.Prelude.{◌≡◌, ◌⊎◌, ℕ, Bool, false, not, ◌==◌, List, [], ◌∷◌, length, Some, is_some}
use Rattle.std.specs.Option.{option_map_or}
use Rattle.flow_syntax.specs.declared.expr.Expr.{Expr, out-Expr}
use Rattle.flow_syntax.specs.declared.expr.ExprKind.TheOpen.{ExprKind-F}
use Rattle.flow_syntax.specs.declared.fault.SpecFaultKind.{SpecFaultKind}
use Rattle.flow_syntax.specs.declared.message.Message.{Message}
use Rattle.flow_syntax.specs.declared.spec.Spec.{Spec}
use Rattle.flow_syntax.specs.Expressions.{ExprLayer}
use Rattle.flow_syntax.specs.Scopes.{Scope, can_read}
use Rattle.flow_syntax.specs.Inferred.{property_named, function_named}
use Rattle.flow_syntax.specs.Occurrences.{Occurrence, occurrence, expected_truth}
use Rattle.flow_syntax.specs.ExprFaults.{IsOwnFault, FaultsWithin, message_scope}
use Rattle.check_exprs.specs.inner.Naming.{is_bound}

-- whether a property or function isn't declared
abbrev pub is_undeclared : Spec → ExprLayer → Bool
is_undeclared spec (ExprKind-F.Read p side) = not (is_some (property_named spec p))
is_undeclared spec (ExprKind-F.Call f args) = not (is_some (function_named spec f))
is_undeclared spec layer = false

-- whether a function is called with another number of arguments
abbrev pub is_miscounted : Spec → ExprLayer → Bool
is_miscounted spec (ExprKind-F.Call f args) = option_map_or (λ d. not (length d.args == length args)) (function_named spec f) false
is_miscounted spec layer = false

-- whether a name is unknown, or a side that isn't there is read
abbrev pub is_unbound : Spec → Scope → ExprLayer → Bool
is_unbound spec scope (ExprKind-F.Ident x) = not (is_bound spec scope x)
is_unbound spec scope (ExprKind-F.Read p side) = not (can_read scope side)
is_unbound spec scope layer = false

-- An expression has this fault of its own, at its place.
abbrev pub OwnFaults : Spec → Occurrence → ℕ → SpecFaultKind → Type 0
OwnFaults spec p at kind = (at ≡ (out-Expr p.expr).place) × IsOwnFault spec p kind

-- An expression or a part of it has this fault.
abbrev pub WholeHas : Spec → Occurrence → ℕ → SpecFaultKind → Type 0
WholeHas spec p at kind = FaultsWithin spec at kind p

-- One of these expressions has this fault.
abbrev pub PartsHave : Spec → List Occurrence → ℕ → SpecFaultKind → Type 0
PartsHave spec [] at kind = ⊥
PartsHave spec (p ∷ ps) at kind = FaultsWithin spec at kind p ⊎ PartsHave spec ps at kind

-- The condition of a message, or a part of it, has this fault.
pub record ConditionHas (spec : Spec) (m : Message) (at : ℕ) (kind : SpecFaultKind) : Type 0 where
  pub expr : Expr
  pub is : m.condition ≡ Some expr
  pub has : FaultsWithin spec at kind (occurrence (message_scope m) expected_truth expr)
