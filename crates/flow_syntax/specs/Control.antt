-- Which positions of a tree count, and which are entered.
use Rattle.std.specs.Prelude.{◌<◌, ◌≤◌, ◌^◌, length, Contains, ◌≡◌, ℕ, Bool, false, ◌&&◌, ◌||◌, IsTrue, List, [], ◌∷◌, Option, Some, None, find, slice_get, bytes_eq, ◌==◌}
use Rattle.std.specs.List.{list_any, position_from}
use Rattle.std.specs.Option.{option_map_or}
use Rattle.flow_term.specs.declared.term.Term.{Term}
use Rattle.flow_term.specs.Annotations.{term_layer}
use Rattle.flow_term.specs.Trees.{At, children}
use Rattle.flow_syntax.specs.declared.pattern.Pattern.{Pattern}
use Rattle.flow_syntax.specs.declared.pattern.PatternKind.TheOpen.{PatternKind-F}
use Rattle.flow_syntax.specs.declared.rule.FlowRule.{FlowRule}
use Rattle.flow_syntax.specs.declared.rule.Chain.{Chain}
use Rattle.flow_syntax.specs.declared.rule.Item.{Item}
use Rattle.flow_syntax.specs.declared.rule.ItemKind.{ItemKind}
use Rattle.flow_syntax.specs.declared.rule.ItemKind.TheVariants as item
use Rattle.flow_syntax.specs.declared.spec.Spec.{Spec}
use Rattle.flow_syntax.specs.Matching.{PatternLayer, pattern_layer, is_list, matches}

-- the arguments of a head
abbrev pub arguments_in : PatternLayer → List Pattern
arguments_in (PatternKind-F.Apply name parts) = parts
arguments_in _ = []

-- whether a pattern is the variable x, plain or held
abbrev pub is_variable_in : List ℕ → PatternLayer → Bool
is_variable_in x (PatternKind-F.Var y) = bytes_eq x y
is_variable_in x (PatternKind-F.Held y p) = bytes_eq x y
is_variable_in x _ = false

-- the number of the argument that the rule's head calls x
abbrev pub argument : FlowRule → List ℕ → Option ℕ
argument rule x = position_from (λ p. is_variable_in x (pattern_layer p)) 0 (arguments_in (pattern_layer rule.head))

-- whether an item is the item `x` for this argument
abbrev pub enters_argument : FlowRule → ℕ → ItemKind → Bool
enters_argument rule n (item.Whole x) = option_map_or (λ k. k == n) (argument rule x) false
enters_argument rule n _ = false

-- whether a chain of the rule names this argument as `x`
abbrev pub enters : FlowRule → ℕ → Bool
enters rule n = list_any (λ chain. list_any (λ it. enters_argument rule n it.kind) chain.items) rule.chains

-- the matching rule of a term: the first whose head matches
abbrev pub rule_for : Spec → Term → Option FlowRule
rule_for spec t = find (λ rule. matches rule.head t) spec.control

-- A position counts by a rule: the rule matches its term, and is a root rule or the position is entered.
abbrev pub CountsBy : Option FlowRule → Bool → FlowRule → Type 0
CountsBy matching entered rule = (matching ≡ Some rule) × IsTrue (rule.root || entered)

-- whether the child of this number is entered: its parent is an entered list, or counts by a rule that enters this argument
abbrev pub enters_child : Option FlowRule → Bool → Term → ℕ → Bool
enters_child matching entered t n = (entered && is_list (term_layer t)) || option_map_or (λ rule. (rule.root || entered) && enters rule n) matching false

-- whether the position at the path below a term is entered, where the term itself is entered or not
abbrev pub entered_below : Spec → Bool → Term → List ℕ → Bool
entered_below spec entered t [] = entered
entered_below spec entered t (n ∷ path) =
    option_map_or (λ child. entered_below spec (enters_child (rule_for spec t) entered t n) child path) (slice_get (children t) n) false

-- whether a position of a tree is entered: the root isn't
abbrev pub entered_at : Spec → Term → List ℕ → Bool
entered_at spec tree path = entered_below spec false tree path

-- A position of a tree counts by a rule.
pub record Counts (spec : Spec) (tree : Term) (path : List ℕ) (rule : FlowRule) : Type 0 where
  pub t : Term
  pub position : At tree path ≡ Some t
  pub counts : CountsBy (rule_for spec t) (entered_at spec tree path) rule

-- Each chain of each rule has at least two items.
abbrev pub HasLongChains : Spec → Type 0
HasLongChains spec = (rule : FlowRule) → Contains spec.control rule → (chain : Chain) → Contains rule.chains chain → 2 ≤ length chain.items

-- An item names an argument that the head of its rule lacks.
abbrev pub IsUnboundItem : FlowRule → ItemKind → Type 0
IsUnboundItem rule (item.Whole x) = argument rule x ≡ None
IsUnboundItem rule (item.Single x) = argument rule x ≡ None
IsUnboundItem rule _ = ⊥

-- Each argument that an item names is a variable of the head of its rule.
abbrev pub HasBoundItems : Spec → Type 0
HasBoundItems spec = (rule : FlowRule) → Contains spec.control rule → (chain : Chain) → Contains rule.chains chain → (it : Item) → Contains chain.items it → ¬ IsUnboundItem rule it.kind

-- the head of a rule has fewer than 2^32 arguments, so that their numbers are steps of a path
abbrev pub HasSmallHead : FlowRule → Type 0
HasSmallHead rule = length (arguments_in (pattern_layer rule.head)) < 2 ^ 32
