-- The faults of variables: of control rules, property rules and messages, and of the parts of messages.
use Rattle.std.specs.Prelude.{◌≡◌, ℕ, ◌<◌, List, [], ◌++◌, map, Some, None, IsSome, Contains, slice_get}
use Rattle.std.specs.Option.{option_map_or}
use Rattle.flow_syntax.specs.declared.fault.SpecFaultKind.{SpecFaultKind}
use Rattle.flow_syntax.specs.declared.fault.SpecFaultKind.TheVariants as kinds
use Rattle.flow_syntax.specs.declared.message.Message.{Message}
use Rattle.flow_syntax.specs.declared.message.Part.{Part}
use Rattle.flow_syntax.specs.declared.message.Part.TheVariants as part
use Rattle.flow_syntax.specs.declared.property.PropRule.{PropRule}
use Rattle.flow_syntax.specs.declared.rule.FlowRule.{FlowRule}
use Rattle.flow_syntax.specs.declared.spec.Spec.{Spec}
use Rattle.flow_syntax.specs.Binders.{Binder, binder_of, bound_in, binders_in}
use Rattle.flow_syntax.specs.ExprFaults.{trigger_pattern, message_scope}
use Rattle.flow_syntax.specs.Scopes.{variable_named}
use Rattle.flow_syntax.specs.Inferred.{constant_named}

-- the names that a control rule binds, in the order of the text
abbrev pub binders_of_head : FlowRule → List Binder
binders_of_head rule = map binder_of (bound_in rule.head)

-- the names that a rule binds, in the order of the text
abbrev pub binders_of_rule : PropRule → List Binder
binders_of_rule rule = map binder_of (bound_in (trigger_pattern rule.trigger)) ++ binders_in rule.body

-- the names that a message binds, in the order of the text
abbrev pub binders_of_message : Message → List Binder
binders_of_message m = map binder_of (bound_in m.pattern) ++ option_map_or binders_in m.condition []

-- A name is bound at a place that is bound before, or is that of an item or an element.
pub data IsRebound (spec : Spec) (binders : List Binder) (at : ℕ) : Type 0 where
  again : (earlier later : ℕ) (a b : Binder) → slice_get binders earlier ≡ Some a → slice_get binders later ≡ Some b → earlier < later → a.name ≡ b.name → at ≡ b.place → IsRebound spec binders at
  constant : (b : Binder) → Contains binders b → IsSome (constant_named spec b.name) → at ≡ b.place → IsRebound spec binders at

-- A part of a message is a name that its pattern doesn't bind.
abbrev pub IsLoosePart : Message → Part → ℕ → Type 0
IsLoosePart m (part.Words text) at = ⊥
IsLoosePart m (part.Bound named) at = (variable_named (message_scope m) named.text ≡ None) × (at ≡ named.place)

-- A variable of a specification, or a part of a message, has a fault at a place:
pub data IsFaultyVariable (spec : Spec) (at : ℕ) : SpecFaultKind → Type 0 where
  -- of a control rule
  head_variable : (rule : FlowRule) → Contains spec.control rule → IsRebound spec (binders_of_head rule) at → IsFaultyVariable spec at kinds.Duplicate
  -- of a rule of a property
  rule_variable : (rule : PropRule) → Contains spec.rules rule → IsRebound spec (binders_of_rule rule) at → IsFaultyVariable spec at kinds.Duplicate
  -- of a message
  message_variable : (m : Message) → Contains spec.messages m → IsRebound spec (binders_of_message m) at → IsFaultyVariable spec at kinds.Duplicate
  -- a part of a message
  message_part : (m : Message) (p : Part) → Contains spec.messages m → Contains m.parts p → IsLoosePart m p at → IsFaultyVariable spec at kinds.Unbound
