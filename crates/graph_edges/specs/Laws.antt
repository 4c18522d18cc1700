-- The laws of listed edges.
use Rattle.std.specs.Prelude.{◌≡◌, ◌↔◌, ◌<◌, ◌^◌, ℕ, true, false, List, [], Some}
use Rattle.flow_term.specs.declared.graph.Edge.{Edge}
use Rattle.flow_term.specs.declared.graph.Node.{Node}
use Rattle.flow_term.specs.declared.term.Term.{Term}
use Rattle.flow_term.specs.Trees.{term_size}
use Rattle.flow_syntax.specs.declared.rule.FlowRule.{FlowRule}
use Rattle.flow_syntax.specs.declared.spec.Spec.{Spec}
use Rattle.flow_syntax.specs.Control.{HasBoundItems, HasLongChains, rule_for}
use Rattle.flow_syntax.specs.Graph.{IsEdge}
use Rattle.graph_laws.specs.Owners.{HasPlacedItems, Owns}
use Rattle.path_tree.specs.declared.tree.PathTree.{PathTree}
use Rattle.graph_shape.specs.declared.kept.Kept.{Kept}
use Rattle.graph_shape.specs.Mirrored.{AreTurned}
use Rattle.graph_shape.specs.Shapes.{AreUsable, HasNoListRules, IsShapeOf}
use Rattle.graph_edges.specs.declared.plans.BothPlans.{BothPlans}
use Rattle.graph_edges.specs.Below.{IsEdgeBelow}
use Rattle.graph_edges.specs.Owned.{AreBothPlans, IsOwnedIn}

-- The edges by the shape of a term of fewer than 2^32 parts are those that the entered position owns, wherever it stands.
abbrev pub OwnedEdgesAreByShape : Type 0
OwnedEdgesAreByShape = (spec : Spec) (plans : BothPlans) → AreUsable spec plans.forth → AreTurned plans.forth plans.back → (t : Term) (s : PathTree Kept) → IsShapeOf spec t s → term_size t < 2 ^ 32
    → (path : List ℕ) (e : Edge) → IsOwnedIn plans s path e ↔ Owns spec true t path e.from e.to

-- A root rule matches the term.
pub record HasRoot (spec : Spec) (t : Term) : Type 0 where
  pub rule : FlowRule
  pub is : rule_for spec t ≡ Some rule
  pub root : rule.root ≡ true

-- A position that isn't entered owns what it would own entered, if a root rule matches it, and nothing otherwise.
abbrev pub UnenteredOwn : Type 0
UnenteredOwn = (spec : Spec) → HasPlacedItems spec → HasNoListRules spec → (t : Term) (path : List ℕ) (n m : Node) → Owns spec false t path n m ↔ (HasRoot spec t × Owns spec true t path n m)

-- The edges by the shape of a tree of fewer than 2^32 terms are the edges of the tree, where each chain has at least two items, and each item that names an argument finds it.
abbrev pub EdgesAreByShape : Type 0
EdgesAreByShape = (spec : Spec) (plans : BothPlans) → AreBothPlans spec.control plans → HasPlacedItems spec → HasNoListRules spec → HasLongChains spec → HasBoundItems spec
    → (tree : Term) (s : PathTree Kept) → IsShapeOf spec tree s → term_size tree < 2 ^ 32 → (e : Edge) → IsEdgeBelow plans e false s [] ↔ IsEdge spec tree e.from e.to
