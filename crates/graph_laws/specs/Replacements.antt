-- What a replacement in a tree leaves.
use Rattle.std.specs.Prelude.{◌≡◌, ◌≢◌, ◌⊎◌, ◌↔◌, ◌≤◌, ℕ, Bool, List, [], ◌∷◌, ◌++◌, Some, Contains, length, slice_get}
use Rattle.flow_term.specs.declared.term.Term.{Term}
use Rattle.flow_term.specs.declared.graph.Node.{Node}
use Rattle.flow_term.specs.Trees.{At, Put, children}
use Rattle.flow_syntax.specs.declared.rule.FlowRule.{FlowRule}
use Rattle.flow_syntax.specs.declared.rule.Chain.{Chain}
use Rattle.flow_syntax.specs.declared.rule.Item.{Item}
use Rattle.flow_syntax.specs.declared.spec.Spec.{Spec}
use Rattle.flow_syntax.specs.Control.{Counts, entered_at, rule_for}
use Rattle.flow_syntax.specs.Graph.{leaving, point_of}
use Rattle.flow_syntax.specs.RuleFaults.{pattern_limit}
use Rattle.graph_laws.specs.Owners.{Owns}
use Rattle.graph_laws.specs.Parts.{Exit, HasFirst, HasLast, IsPassed}

-- The position has in both the same first and last nodes, and is passed in both or in neither.
pub record SameWays (spec : Spec) (entered : Bool) (t t' : Term) (path : List ℕ) : Type 0 where
  pub first : (n : Node) → HasFirst spec entered t path n ↔ HasFirst spec entered t' path n
  pub last : (e : Exit) (n : Node) → HasLast spec entered t path e n ↔ HasLast spec entered t' path e n
  pub passes : (e : Exit) → IsPassed spec entered t path e ↔ IsPassed spec entered t' path e

-- The replacement at the path leaves the matching rule of each position above it.
abbrev pub RulesStay : Spec → Term → Term → List ℕ → Type 0
RulesStay spec new t [] = Unit {0}
RulesStay spec new t (n ∷ rest) = (rule_for spec (Put t (n ∷ rest) new) ≡ rule_for spec t) × ((c : Term) → slice_get (children t) n ≡ Some c → RulesStay spec new c rest)

-- It leaves that of each position at most eight levels above it.
abbrev pub NearRulesStay : Spec → Term → Term → List ℕ → Type 0
NearRulesStay spec new tree path = (q : List ℕ) (n : ℕ) (rest : List ℕ) (t : Term) → path ≡ q ++ n ∷ rest → length (n ∷ rest) ≤ pattern_limit → At tree q ≡ Some t → rule_for spec (Put t (n ∷ rest) new) ≡ rule_for spec t

-- Neither path begins with the other.
abbrev pub AreAsunder : List ℕ → List ℕ → Type 0
AreAsunder [] q = ⊥
AreAsunder (m ∷ p) [] = ⊥
AreAsunder (m ∷ p) (n ∷ q) = (n ≢ m) ⊎ ((n ≡ m) × AreAsunder p q)

-- A position of a tree that is not at or below this path owns the edge.
pub record IsOwnedOutside (spec : Spec) (tree : Term) (path : List ℕ) (from to : Node) : Type 0 where
  pub owner : List ℕ
  pub outside : (rest : List ℕ) → ¬ (owner ≡ path ++ rest)
  pub t : Term
  pub position : At tree owner ≡ Some t
  pub owns : Owns spec (entered_at spec tree owner) t owner from to

-- A chain of a rule at a position names the node.
pub record NamesNode (rule : FlowRule) (path : List ℕ) (n : Node) : Type 0 where
  pub chain : Chain
  pub has_chain : Contains rule.chains chain
  pub it : Item
  pub has_item : Contains chain.items it
  pub named : leaving rule path it.kind ≡ Some (point_of n)

-- A position of a tree that is not at or below this path names the node.
pub record IsNodeOutside (spec : Spec) (tree : Term) (path : List ℕ) (n : Node) : Type 0 where
  pub owner : List ℕ
  pub outside : (rest : List ℕ) → ¬ (owner ≡ path ++ rest)
  pub rule : FlowRule
  pub counts : Counts spec tree owner rule
  pub named : NamesNode rule owner n
