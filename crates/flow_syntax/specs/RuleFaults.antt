-- The faults of control rules and of patterns.
use Rattle.std.specs.Prelude.{◌≡◌, ◌≢◌, ◌⊎◌, ℕ, suc, ◌+◌, ◌<◌, nat_lt, Bool, true, false, not, IsTrue, ◌||◌, ◌&&◌, ◌==◌, List, [], ◌∷◌, ◌++◌, length, map, Option, Some, None, IsSome, Contains, find, bytes_eq, slice_get}
use Rattle.std.specs.List.{flat_map, list_any}
use Rattle.flow_syntax.specs.declared.fault.SpecFaultKind.{SpecFaultKind}
use Rattle.flow_syntax.specs.declared.fault.SpecFaultKind.TheVariants as kinds
use Rattle.flow_syntax.specs.declared.pattern.Pattern.{Pattern, out-Pattern, fold-Pattern}
use Rattle.flow_syntax.specs.declared.pattern.PatternKind.TheOpen.{PatternKind-F}
use Rattle.flow_syntax.specs.declared.rule.Chain.{Chain}
use Rattle.flow_syntax.specs.declared.rule.FlowRule.{FlowRule}
use Rattle.flow_syntax.specs.declared.rule.Item.{Item}
use Rattle.flow_syntax.specs.declared.rule.ItemKind.{ItemKind}
use Rattle.flow_syntax.specs.declared.rule.ItemKind.TheVariants as item
use Rattle.flow_syntax.specs.declared.signature.Signature.{Signature}
use Rattle.flow_syntax.specs.declared.spec.Spec.{Spec}
use Rattle.flow_syntax.specs.Binders.{Bound, bound_in}
use Rattle.flow_syntax.specs.Control.{arguments_in, argument}
use Rattle.flow_syntax.specs.ExprFaults.{trigger_pattern}
use Rattle.flow_syntax.specs.Matching.{PatternLayer, pattern_layer}
use Rattle.flow_syntax.specs.Types.{pos_sort}

-- PATTERNS

-- the whole patterns of a specification: heads of control rules, and the patterns of rules and messages
abbrev pub patterns_of : Spec → List Pattern
patterns_of spec = map (λ rule. rule.head) spec.control ++ map (λ rule. trigger_pattern rule.trigger) spec.rules ++ map (λ m. m.pattern) spec.messages

-- the parts of a pattern
abbrev pub pattern_parts : PatternLayer → List Pattern
pattern_parts (PatternKind-F.Apply c parts) = parts
pattern_parts (PatternKind-F.Tuple parts) = parts
pattern_parts (PatternKind-F.Items parts) = parts
pattern_parts (PatternKind-F.Held x p) = p ∷ []
pattern_parts layer = []

-- A pattern is another one, or is within one of its parts.
pub data IsWithin (q : Pattern) : Pattern → Type 0 where
  whole : IsWithin q q
  part : (p r : Pattern) → Contains (pattern_parts (pattern_layer p)) r → IsWithin q r → IsWithin q p

-- whether a constructor of this name is declared
abbrev pub is_constructor : Signature → List ℕ → Bool
is_constructor signature x = list_any (λ c. bytes_eq x c.name.text) signature.constructors

-- whether one of this name with so many arguments is
abbrev pub is_constructor_with : Signature → List ℕ → ℕ → Bool
is_constructor_with signature x n = list_any (λ c. bytes_eq x c.name.text && (n == length c.args)) signature.constructors

-- An application in a pattern hasn't the form of a declared constructor: none has its name, or none of its name its number of parts.
abbrev pub IsMisapplied : Signature → PatternLayer → SpecFaultKind → Type 0
IsMisapplied signature (PatternKind-F.Apply c parts) kinds.Unknown = is_constructor signature c ≡ false
IsMisapplied signature (PatternKind-F.Apply c parts) kinds.Arity = (is_constructor signature c ≡ true) × (is_constructor_with signature c (length parts) ≡ false)
IsMisapplied signature layer kind = ⊥

-- how many levels below its root a pattern may look
abbrev pub pattern_limit : ℕ
pattern_limit = 8

-- whether a pattern on this level, or a part of it, looks too deep: `_` and plain variables don't look, and what is held is on one level with what holds it
abbrev pub looks_deep_layer : PatternKind-F (ℕ → Bool) (ℕ → Bool) → ℕ → Bool
looks_deep_layer PatternKind-F.Wild level = false
looks_deep_layer (PatternKind-F.Var x) level = false
looks_deep_layer (PatternKind-F.Apply c parts) level = nat_lt pattern_limit level || list_any (λ p. p (suc level)) parts
looks_deep_layer (PatternKind-F.Tuple parts) level = nat_lt pattern_limit level || list_any (λ p. p (suc level)) parts
looks_deep_layer (PatternKind-F.Items parts) level = nat_lt pattern_limit level || list_any (λ p. p (suc level)) parts
looks_deep_layer (PatternKind-F.Held x p) level = nat_lt pattern_limit level || p level
looks_deep_layer layer level = nat_lt pattern_limit level

abbrev pub looks_deep : Pattern → ℕ → Bool
looks_deep = fold-Pattern (ℕ → Bool) (ℕ → Bool) looks_deep_layer (λ p. p.kind)

-- CHAINS

-- the arguments of a rule's head
abbrev pub arguments : FlowRule → List Pattern
arguments rule = arguments_in (pattern_layer rule.head)

-- the items of a rule, in the order of the text
abbrev pub items_of : FlowRule → List Item
items_of rule = flat_map (λ chain. chain.items) rule.chains

-- One item names the argument x as itself, the other as its node.
abbrev pub AreMixed : ItemKind → ItemKind → List ℕ → Type 0
AreMixed a b x = ((a ≡ item.Whole x) × (b ≡ item.Single x)) ⊎ ((a ≡ item.Single x) × (b ≡ item.Whole x))

-- An item can't stand at this place of a chain with so many items, in a root rule or a plain one:
abbrev pub IsMisplaced : Bool → ℕ → ℕ → ItemKind → Type 0
-- `entry` stands first, in a plain rule
IsMisplaced root count at item.Entry = IsTrue root ⊎ (0 < at)
-- `exit` stands last, in a plain rule
IsMisplaced root count at item.Exit = IsTrue root ⊎ (at + 1 < count)
-- `start` stands first, in a root rule
IsMisplaced root count at item.Start = IsTrue (not root) ⊎ (0 < at)
-- `end` stands last, in a root rule
IsMisplaced root count at item.End = IsTrue (not root) ⊎ (at + 1 < count)
IsMisplaced root count at kind = ⊥

-- the variable that an item names
abbrev pub named_by : ItemKind → Option (List ℕ)
named_by (item.Whole x) = Some x
named_by (item.Single x) = Some x
named_by kind = None

-- the variable of a rule's head that is called x, if there is one
abbrev pub head_variable : FlowRule → List ℕ → Option Bound
head_variable rule x = find (λ b. bytes_eq x b.name) (bound_in rule.head)

-- whether the variable that a pattern itself binds is called x
abbrev pub binds_itself : List ℕ → PatternLayer → Bool
binds_itself x (PatternKind-F.Var y) = bytes_eq x y
binds_itself x (PatternKind-F.NameVar y) = bytes_eq x y
binds_itself x (PatternKind-F.StrVar y) = bytes_eq x y
binds_itself x (PatternKind-F.IntVar y) = bytes_eq x y
binds_itself x (PatternKind-F.Held y p) = bytes_eq x y
binds_itself x layer = false

-- whether an argument of a rule's head itself binds the variable x
abbrev pub is_direct : FlowRule → List ℕ → Bool
is_direct rule x = list_any (λ p. binds_itself x (pattern_layer p)) (arguments rule)

-- The variable of this name that an item names is wrong, where b is the one of the rule's head:
abbrev pub IsMisnamedItem : FlowRule → List ℕ → Option Bound → SpecFaultKind → Type 0
-- it isn't a position
IsMisnamedItem rule x (Some b) kinds.Sort = b.sort ≢ pos_sort
-- the head hasn't it
IsMisnamedItem rule x None kinds.Unbound = Unit {0}
-- it stands inside an argument
IsMisnamedItem rule x (Some b) kinds.Nested = is_direct rule x ≡ false
IsMisnamedItem rule x b kind = ⊥

-- THE FAULTS

-- A control rule or a pattern has a fault at a place:
pub data IsFaultyRule (spec : Spec) (place : ℕ) : SpecFaultKind → Type 0 where
  -- an application in a pattern isn't as declared
  misapplied : (signature : Signature) (p q : Pattern) (kind : SpecFaultKind) → spec.signature ≡ Some signature → Contains (patterns_of spec) p → IsWithin q p
      → IsMisapplied signature (pattern_layer q) kind → place ≡ (out-Pattern q).place → IsFaultyRule spec place kind
  -- a pattern looks too deep
  pattern_depth : (p : Pattern) → Contains (patterns_of spec) p → looks_deep p 0 ≡ true → place ≡ (out-Pattern p).place → IsFaultyRule spec place kinds.Depth
  -- an item names a wrong variable
  misnamed_item : (rule : FlowRule) (chain : Chain) (it : Item) (x : List ℕ) (kind : SpecFaultKind) → Contains spec.control rule → Contains rule.chains chain → Contains chain.items it
      → named_by it.kind ≡ Some x → IsMisnamedItem rule x (head_variable rule x) kind → place ≡ it.place → IsFaultyRule spec place kind
  -- an item can't stand where it stands in its chain
  wrong_end : (rule : FlowRule) (chain : Chain) (at : ℕ) (it : Item) → Contains spec.control rule → Contains rule.chains chain → slice_get chain.items at ≡ Some it
      → IsMisplaced rule.root (length chain.items) at it.kind → place ≡ it.place → IsFaultyRule spec place kinds.WrongEnd
  -- an item names an argument otherwise than an earlier one
  mixed_item : (rule : FlowRule) (earlier later : ℕ) (a b : Item) (x : List ℕ) → Contains spec.control rule → slice_get (items_of rule) earlier ≡ Some a → slice_get (items_of rule) later ≡ Some b
      → earlier < later → IsSome (argument rule x) → AreMixed a.kind b.kind x → place ≡ b.place → IsFaultyRule spec place kinds.MixedItem
