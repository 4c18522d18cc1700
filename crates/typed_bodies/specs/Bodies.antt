-- The bodies and conditions of a specification without faults, as they are typed.
use Rattle.std.specs.Prelude.{◌≡◌, [], ◌∷◌, List, Contains, Some}
use Rattle.flow_syntax.specs.declared.expr.Expr.{Expr}
use Rattle.flow_syntax.specs.declared.message.Message.{Message}
use Rattle.flow_syntax.specs.declared.property.PropRule.{PropRule}
use Rattle.flow_syntax.specs.declared.spec.Spec.{Spec}
use Rattle.flow_syntax.specs.ExprFaults.{trigger_pattern, trigger_scope, message_scope}
use Rattle.flow_syntax.specs.ExprTypes.{AreTypes}
use Rattle.flow_syntax.specs.Faults.{HasNoFault}
use Rattle.flow_syntax.specs.Types.{Typing}
use Rattle.expr_meaning.specs.Ranges.{Range}
use Rattle.expr_meaning.specs.SpecRanges.{Agrees, usable_in, variables_of}
use Rattle.expr_meaning.specs.Typing.{AreTyped, held}

-- In a specification without faults each body of a rule is typed, where its variables are those of the rule's pattern
abbrev pub BodiesAreTyped : Type 0
BodiesAreTyped = (spec : Spec) (types : List Typing) (range : Expr → Range) → HasNoFault spec → AreTypes spec types → Agrees spec types range → (rule : PropRule) → Contains spec.rules rule
    → AreTyped spec (usable_in spec (trigger_scope rule.trigger)) range (held (variables_of (trigger_pattern rule.trigger)) rule.body ∷ [])

-- And so is each condition of a message
abbrev pub ConditionsAreTyped : Type 0
ConditionsAreTyped = (spec : Spec) (types : List Typing) (range : Expr → Range) → HasNoFault spec → AreTypes spec types → Agrees spec types range → (m : Message) (e : Expr) → Contains spec.messages m → m.condition ≡ Some e
    → AreTyped spec (usable_in spec (message_scope m)) range (held (variables_of m.pattern) e ∷ [])
