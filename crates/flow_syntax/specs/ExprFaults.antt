-- The faults of expressions: in the bodies of property rules and the conditions of messages.
use Rattle.std.specs.Prelude.{◌≡◌, ◌≢◌, ℕ, true, false, List, length, map, Option, Some, None, Contains}
use Rattle.flow_syntax.specs.declared.expr.Expr.{Expr, out-Expr}
use Rattle.flow_syntax.specs.declared.expr.ExprKind.TheOpen.{ExprKind-F}
use Rattle.flow_syntax.specs.declared.fault.SpecFaultKind.{SpecFaultKind}
use Rattle.flow_syntax.specs.declared.fault.SpecFaultKind.TheVariants as kinds
use Rattle.flow_syntax.specs.declared.message.Message.{Message}
use Rattle.flow_syntax.specs.declared.pattern.Pattern.{Pattern}
use Rattle.flow_syntax.specs.declared.property.PropDecl.{PropDecl}
use Rattle.flow_syntax.specs.declared.property.PropRule.{PropRule}
use Rattle.flow_syntax.specs.declared.property.Trigger.{Trigger}
use Rattle.flow_syntax.specs.declared.property.Trigger.TheVariants as trigger
use Rattle.flow_syntax.specs.declared.spec.Spec.{Spec}
use Rattle.flow_syntax.specs.declared.tables.FunctionDecl.{FunctionDecl}
use Rattle.flow_syntax.specs.Expressions.{ExprLayer, expr_layer}
use Rattle.flow_syntax.specs.Types.{lattice, lattice_of}
use Rattle.flow_syntax.specs.Scopes.{Scope, can_read, variable_named}
use Rattle.flow_syntax.specs.Inferred.{Inferred, property_named, function_named, constant_named, form_inferred, inferred_parts}
use Rattle.flow_syntax.specs.Expected.{Expected, known, unconstrained, IsMismatch}
use Rattle.flow_syntax.specs.Occurrences.{Occurrence, occurrence, expected_truth, parts_of, form_shape}
use Rattle.flow_syntax.specs.Binders.{variable_of, bound_in}

-- A call has another number of arguments than its function.
abbrev pub IsMiscounted : Option FunctionDecl → List Expr → Type 0
IsMiscounted (Some f) args = length f.args ≢ length args
IsMiscounted None args = ⊥

-- A name or word in an expression has a fault:
abbrev pub IsMisnamed : Spec → Scope → ExprLayer → SpecFaultKind → Type 0
-- a property or function isn't declared
IsMisnamed spec scope (ExprKind-F.Read p side) kinds.Unknown = property_named spec p ≡ None
IsMisnamed spec scope (ExprKind-F.Call f args) kinds.Unknown = function_named spec f ≡ None
-- a function is called with another number of arguments
IsMisnamed spec scope (ExprKind-F.Call f args) kinds.Arity = IsMiscounted (function_named spec f) args
-- a name is neither a variable nor an item nor an element
IsMisnamed spec scope (ExprKind-F.Ident x) kinds.Unbound = (variable_named scope x ≡ None) × (constant_named spec x ≡ None)
-- a rule hasn't the side that is read
IsMisnamed spec scope (ExprKind-F.Read p side) kinds.Unbound = can_read scope side ≡ false
IsMisnamed spec scope layer kind = ⊥

-- what an expression's form gives of its type
abbrev pub own_inferred : Spec → Occurrence → Inferred
own_inferred spec p = form_inferred spec p.scope (inferred_parts spec p.scope (expr_layer p.expr))

-- An expression has a fault of its own: its type isn't as expected, or a name or word in it is wrong.
pub data IsOwnFault (spec : Spec) (p : Occurrence) : SpecFaultKind → Type 0 where
  mismatch : IsMismatch p.expected (form_shape (expr_layer p.expr)) (own_inferred spec p) → IsOwnFault spec p kinds.Sort
  misnamed : (kind : SpecFaultKind) → IsMisnamed spec p.scope (expr_layer p.expr) kind → IsOwnFault spec p kind

-- An expression has a fault at a place: of its own, or one of its parts has it.
pub data FaultsWithin (spec : Spec) (at : ℕ) (kind : SpecFaultKind) : Occurrence → Type 0 where
  own : (p : Occurrence) → at ≡ (out-Expr p.expr).place → IsOwnFault spec p kind → FaultsWithin spec at kind p
  inner : (p q : Occurrence) → Contains (parts_of spec p) q → FaultsWithin spec at kind q → FaultsWithin spec at kind p

-- RULES AND MESSAGES

-- the pattern of a rule
abbrev pub trigger_pattern : Trigger → Pattern
trigger_pattern (trigger.Forward p) = p
trigger_pattern (trigger.Backward p) = p
trigger_pattern (trigger.AtStart p) = p
trigger_pattern (trigger.AtEnd p) = p

-- the scope of the whole of a rule: `prev` may be read in a forward one, `next` in a backward one
abbrev pub trigger_scope : Trigger → Scope
trigger_scope (trigger.Forward p) = record { variables = map variable_of (bound_in p); prev = true; next = false }
trigger_scope (trigger.Backward p) = record { variables = map variable_of (bound_in p); prev = false; next = true }
trigger_scope (trigger.AtStart p) = record { variables = map variable_of (bound_in p); prev = false; next = false }
trigger_scope (trigger.AtEnd p) = record { variables = map variable_of (bound_in p); prev = false; next = false }

-- the scope of the whole of a message
abbrev pub message_scope : Message → Scope
message_scope m = record { variables = map variable_of (bound_in m.pattern); prev = true; next = true }

-- what is expected of the body of a property's rule: the property's type
abbrev pub expected_body : Option PropDecl → Expected
expected_body (Some p) = known (lattice (lattice_of p.lattice))
expected_body None = unconstrained

-- the body of a rule
abbrev pub body_of : Spec → PropRule → Occurrence
body_of spec rule = occurrence (trigger_scope rule.trigger) (expected_body (property_named spec rule.property.text)) rule.body

-- A specification has a fault of an expression at a place:
pub data IsFaultyExpression (spec : Spec) (at : ℕ) : SpecFaultKind → Type 0 where
  -- in the body of a rule
  body : (rule : PropRule) (kind : SpecFaultKind) → Contains spec.rules rule → FaultsWithin spec at kind (body_of spec rule) → IsFaultyExpression spec at kind
  -- in the condition of a message
  condition : (m : Message) (e : Expr) (kind : SpecFaultKind) → Contains spec.messages m → m.condition ≡ Some e → FaultsWithin spec at kind (occurrence (message_scope m) expected_truth e) → IsFaultyExpression spec at kind
