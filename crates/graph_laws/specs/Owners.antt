-- Which edges a position owns.
use Rattle.std.specs.Prelude.{◌≡◌, ℕ, Bool, false, List, Some, Contains, length, slice_get}
use Rattle.flow_term.specs.declared.term.Term.{Term}
use Rattle.flow_term.specs.declared.graph.Node.{Node}
use Rattle.flow_term.specs.Trees.{At}
use Rattle.flow_syntax.specs.declared.pattern.Pattern.{Pattern}
use Rattle.flow_syntax.specs.declared.rule.FlowRule.{FlowRule}
use Rattle.flow_syntax.specs.declared.rule.Chain.{Chain}
use Rattle.flow_syntax.specs.declared.rule.Item.{Item}
use Rattle.flow_syntax.specs.declared.spec.Spec.{Spec}
use Rattle.flow_syntax.specs.Control.{entered_at}
use Rattle.flow_syntax.specs.Graph.{IsInner, point_of}
use Rattle.flow_syntax.specs.RuleFaults.{IsMisplaced, looks_deep, patterns_of}
use Rattle.way_theory.specs.Ways.{Way}
use Rattle.graph_laws.specs.Parts.{own_steps}

-- No item of a rule stands where it can't: `entry` only first, `exit` only last.
abbrev pub HasPlacedItems : Spec → Type 0
HasPlacedItems spec = (rule : FlowRule) → Contains spec.control rule → (chain : Chain) → Contains rule.chains chain → (k : ℕ) (it : Item) → slice_get chain.items k ≡ Some it
    → ¬ IsMisplaced rule.root (length chain.items) k it.kind

-- No head of a control rule looks deeper than a pattern may.
abbrev pub HasShallowHeads : Spec → Type 0
HasShallowHeads spec = (rule : FlowRule) → Contains spec.control rule → looks_deep rule.head 0 ≡ false

-- Nor does any other pattern of the specification.
abbrev pub HasShallowPatterns : Spec → Type 0
HasShallowPatterns spec = (p : Pattern) → Contains (patterns_of spec) p → looks_deep p 0 ≡ false

-- A position owns an edge: its own steps lead from node to node.
abbrev pub Owns : Spec → Bool → Term → List ℕ → Node → Node → Type 0
Owns spec entered t path from to = Way IsInner (own_steps spec entered t path) (point_of from) (point_of to)

-- A position of a tree owns the edge.
pub record IsOwned (spec : Spec) (tree : Term) (from to : Node) : Type 0 where
  pub path : List ℕ
  pub t : Term
  pub position : At tree path ≡ Some t
  pub owns : Owns spec (entered_at spec tree path) t path from to
