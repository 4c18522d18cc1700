-- The faults of parts of a specification, of which the definitions of its faults are put together.
use Rattle.std.specs.Prelude.{◌≡◌, ℕ, ◌<◌, Bool, false, not, IsTrue, ◌||◌, List, Option, Some, None, IsSome, Contains, length, take, is_some, bytes_eq, slice_get, if◌then◌else◌}
use Rattle.std.specs.Borrow.{Bor}
use Rattle.std.specs.HashSet.{HashSet}
use Rattle.std.specs.List.{list_any}
use Rattle.check_base.specs.Earliest.{Either, IsFault, IsFaultWhere, NoFault, SomeHas}
use Rattle.flow_syntax.specs.declared.fault.SpecFaultKind.{SpecFaultKind}
use Rattle.flow_syntax.specs.declared.fault.SpecFaultKind.TheVariants as kinds
use Rattle.flow_syntax.specs.declared.message.Message.{Message}
use Rattle.flow_syntax.specs.declared.message.Part.{Part}
use Rattle.flow_syntax.specs.declared.message.Part.TheVariants as part
use Rattle.flow_syntax.specs.declared.pattern.Pattern.{Pattern, out-Pattern}
use Rattle.flow_syntax.specs.declared.pattern.PatternKind.TheOpen.{PatternKind-F}
use Rattle.flow_syntax.specs.declared.property.PropRule.{PropRule}
use Rattle.flow_syntax.specs.declared.rule.Chain.{Chain}
use Rattle.flow_syntax.specs.declared.rule.FlowRule.{FlowRule}
use Rattle.flow_syntax.specs.declared.rule.Item.{Item}
use Rattle.flow_syntax.specs.declared.signature.Signature.{Signature}
use Rattle.flow_syntax.specs.declared.spec.Spec.{Spec}
use Rattle.flow_syntax.specs.Binders.{Binder}
use Rattle.flow_syntax.specs.Control.{argument}
use Rattle.flow_syntax.specs.ExprFaults.{trigger_pattern}
use Rattle.check_rules.specs.inner.Items.{is_misplaced, is_single, is_whole}
use Rattle.flow_syntax.specs.RuleFaults.{AreMixed, items_of}
use Rattle.flow_syntax.specs.Matching.{PatternLayer, pattern_layer}
use Rattle.flow_syntax.specs.RuleFaults.{IsMisapplied, IsMisnamedItem, IsWithin, head_variable, looks_deep, named_by}
use Rattle.flow_syntax.specs.VariableFaults.{IsLoosePart, IsRebound}
use Rattle.check_rules.specs.declared.head.Head.{Head}
use Rattle.check_rules.specs.inner.Tables.{has_name, is_constant_in, is_mixed_with}
use Rattle.check_base.specs.declared.names.Names.{Names}
use Rattle.check_base.specs.Tables.{constructor_in, is_constructor_in, value_in}

-- PATTERNS

-- An application at a place, with this name and so many parts, hasn't the form of a constructor.
abbrev pub MisappliedAs : Names → List ℕ → ℕ → ℕ → ℕ → SpecFaultKind → Type 0
MisappliedAs names c n at place kind = (is_some (constructor_in names c n) ≡ false) × IsFault at (if is_constructor_in names c then kinds.Arity else kinds.Unknown) place kind

-- A pattern itself hasn't.
abbrev pub IsMisappliedItself : Names → PatternLayer → ℕ → ℕ → SpecFaultKind → Type 0
IsMisappliedItself names (PatternKind-F.Apply c parts) at = MisappliedAs names c (length parts) at
IsMisappliedItself names layer at = NoFault

-- A pattern, or one within it, hasn't.
pub record IsMisappliedWithin (names : Names) (p : Pattern) (place : ℕ) (kind : SpecFaultKind) : Type 0 where
  pub q : Pattern
  pub within : IsWithin q p
  pub misapplied : IsMisappliedItself names (pattern_layer q) (out-Pattern q).place place kind

-- The same by the signature, if there is one.
pub record IsMisappliedIn (spec : Spec) (p : Pattern) (place : ℕ) (kind : SpecFaultKind) : Type 0 where
  pub signature : Signature
  pub q : Pattern
  pub declared : spec.signature ≡ Some signature
  pub within : IsWithin q p
  pub misapplied : IsMisapplied signature (pattern_layer q) kind
  pub stands : place ≡ (out-Pattern q).place

-- A pattern looks too deep.
abbrev pub IsTooDeep : Pattern → ℕ → SpecFaultKind → Type 0
IsTooDeep p = IsFaultWhere (IsTrue (looks_deep p 0)) (out-Pattern p).place kinds.Depth

abbrev pub IsFaultyPattern : Spec → Pattern → ℕ → SpecFaultKind → Type 0
IsFaultyPattern spec p = Either (IsMisappliedIn spec p) (IsTooDeep p)

-- ITEMS

-- what is wrong with a variable that is named at a place, by what the head has and whether it's direct
abbrev pub MisnamedAs : Option Bool → Bool → ℕ → ℕ → SpecFaultKind → Type 0
MisnamedAs None is_direct at = IsFault at kinds.Unbound
MisnamedAs (Some is_position) is_direct at = Either (IsFaultWhere (IsTrue (not is_position)) at kinds.Sort) (IsFaultWhere (IsTrue (not is_direct)) at kinds.Nested)

abbrev pub IsMisnamedBy : Head → List ℕ → ℕ → ℕ → SpecFaultKind → Type 0
IsMisnamedBy head x at = MisnamedAs (value_in head.variables x) (has_name head.direct x) at

-- An item names a wrong variable.
pub record IsMisnamed (rule : FlowRule) (it : Item) (place : ℕ) (kind : SpecFaultKind) : Type 0 where
  pub x : List ℕ
  pub names : named_by it.kind ≡ Some x
  pub misnamed : IsMisnamedItem rule x (head_variable rule x) kind
  pub stands : place ≡ it.place

-- An item names a wrong variable, or can't stand with this number in a chain with so many items.
abbrev pub IsFaultyItem : FlowRule → ℕ → ℕ → Item → ℕ → SpecFaultKind → Type 0
IsFaultyItem rule count at it = Either (IsMisnamed rule it) (IsFaultWhere (IsTrue (is_misplaced rule.root count at it.kind)) it.place kinds.WrongEnd)

abbrev pub IsFaultyChain : FlowRule → Chain → ℕ → SpecFaultKind → Type 0
IsFaultyChain rule chain = SomeHas (IsFaultyItem rule (length chain.items)) chain.items

-- An item names an argument otherwise than one of those before it in a list.
abbrev pub IsMixedWith : {S : Type 0} → HashSet (Bor (List ℕ)) S → List Item → ℕ → Item → ℕ → SpecFaultKind → Type 0
IsMixedWith arguments items k it =
    IsFaultWhere (IsTrue (is_mixed_with (has_name arguments) (λ x. list_any (λ i. is_whole x i.kind) (take k items)) (λ x. list_any (λ i. is_single x i.kind) (take k items)) it.kind)) it.place kinds.MixedItem

-- An item of a rule names an argument otherwise than an earlier one.
pub record IsMixedItem (rule : FlowRule) (place : ℕ) (kind : SpecFaultKind) : Type 0 where
  pub earlier : ℕ
  pub later : ℕ
  pub a : Item
  pub b : Item
  pub x : List ℕ
  pub first : slice_get (items_of rule) earlier ≡ Some a
  pub second : slice_get (items_of rule) later ≡ Some b
  pub before : earlier < later
  pub is_argument : IsSome (argument rule x)
  pub mixed : AreMixed a.kind b.kind x
  pub stands : IsFault b.place kinds.MixedItem place kind

abbrev pub HasFaultyItem : FlowRule → ℕ → SpecFaultKind → Type 0
HasFaultyItem rule = Either (SomeHas (λ k. IsFaultyChain rule) rule.chains) (IsMixedItem rule)

-- RULES AND MESSAGES

abbrev pub IsFaultyControl : Spec → FlowRule → ℕ → SpecFaultKind → Type 0
IsFaultyControl spec rule = Either (IsFaultyPattern spec rule.head) (HasFaultyItem rule)

abbrev pub HasFaultyTrigger : Spec → PropRule → ℕ → SpecFaultKind → Type 0
HasFaultyTrigger spec rule = IsFaultyPattern spec (trigger_pattern rule.trigger)

abbrev pub HasFaultyMessage : Spec → Message → ℕ → SpecFaultKind → Type 0
HasFaultyMessage spec m = IsFaultyPattern spec m.pattern

-- VARIABLES

-- A name is bound that one of those before it in a list has, or an item or element.
abbrev pub IsRepeatedIn : Names → List Binder → ℕ → Binder → ℕ → SpecFaultKind → Type 0
IsRepeatedIn names bs k b = IsFaultWhere (IsTrue (list_any (λ a. bytes_eq b.name a.name) (take k bs) || is_constant_in names b.name)) b.place kinds.Duplicate

abbrev pub RebindsIn : Spec → List Binder → ℕ → SpecFaultKind → Type 0
RebindsIn spec bs place kind = IsRebound spec bs place × (kind ≡ kinds.Duplicate)

-- A part of a message is a name that isn't among these.
abbrev pub IsLooseIn : {S : Type 0} → HashSet (Bor (List ℕ)) S → Part → ℕ → SpecFaultKind → Type 0
IsLooseIn variables (part.Words text) = NoFault
IsLooseIn variables (part.Bound named) = IsFaultWhere (IsTrue (not (has_name variables named.text))) named.place kinds.Unbound

-- A part of a message is no variable of its pattern.
pub record HasLoosePart (m : Message) (place : ℕ) (kind : SpecFaultKind) : Type 0 where
  pub loose_part : Part
  pub among : Contains m.parts loose_part
  pub loose : IsLoosePart m loose_part place
  pub stands : kind ≡ kinds.Unbound
