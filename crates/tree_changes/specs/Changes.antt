-- The constraints that only one of two trees has, by what only one of their graphs has.
use Rattle.std.specs.Prelude.{◌≡◌, ◌⊎◌, ◌↔◌, ℕ, Bool, not, List, ◌++◌, Contains, filter}
use Rattle.list_theory.specs.Lists.{has}
use Rattle.flow_term.specs.declared.graph.Edge.{Edge}
use Rattle.flow_term.specs.declared.graph.Node.{Node}
use Rattle.flow_term.specs.declared.graph.Unknown.{Unknown}
use Rattle.flow_term.specs.declared.term.Term.{Term}
use Rattle.flow_syntax.specs.declared.property.PropDecl.{PropDecl}
use Rattle.flow_syntax.specs.declared.spec.Spec.{Spec}
use Rattle.flow_syntax.specs.DeclFaults.{direction_of}
use Rattle.flow_syntax.specs.Graph.{IsEdge, IsNode}
use Rattle.tree_constraints.specs.declared.constraint.Constraint.{Constraint}
use Rattle.tree_constraints.specs.declared.constraint.Key.{Key}
use Rattle.tree_constraints.specs.declared.constraint.Origin.TheVariants as origin
use Rattle.tree_constraints.specs.Constraints.{IsConstraint, hit_at, key_along}
use Rattle.tree_constraints.specs.Orders.{by_parts}
use Rattle.tree_changes.specs.Differences.{IsDifference}

module _ (spec : Spec) where
  -- A position is matched alike in both trees: at each unknown there the first rule, an ordinary one or one for a boundary,
  -- is the same, and its variables stand for the same.
  abbrev pub IsMatchedAlike : Term → Term → List ℕ → Type 0
  IsMatchedAlike old new path = (u : Unknown) → u.node.path ≡ path → (boundary : Bool) → hit_at spec old boundary u ≡ hit_at spec new boundary u

  -- What is said of a change of the graph: the nodes and edges that only one tree has, and positions outside which nodes of
  -- both are matched alike.
  pub record IsGraphChange (old new : Term) (gone_nodes added_nodes : List Node) (gone_edges added_edges : List Edge) (changed : List (List ℕ)) : Type 0 where
    pub nodes_gone : IsDifference (IsNode spec old) (IsNode spec new) gone_nodes
    pub nodes_added : IsDifference (IsNode spec new) (IsNode spec old) added_nodes
    pub edges_gone : IsDifference (λ (e : Edge). IsEdge spec old e.from e.to) (λ (e : Edge). IsEdge spec new e.from e.to) gone_edges
    pub edges_added : IsDifference (λ (e : Edge). IsEdge spec new e.from e.to) (λ (e : Edge). IsEdge spec old e.from e.to) added_edges
    pub alike : (n : Node) → IsNode spec old n → IsNode spec new n → Contains changed n.path ⊎ IsMatchedAlike old new n.path

  -- A key is that of a property along one of the edges, or stands for the boundary at one of the nodes.
  pub data IsOn (nodes : List Node) (edges : List Edge) (k : Key) : Type 0 where
    on_edge : (p : PropDecl) (e : Edge) → Contains spec.properties p → Contains edges e → k ≡ key_along p (direction_of spec p) e.from e.to → IsOn nodes edges k
    on_node : Contains nodes k.target.node → k.origin ≡ origin.Boundary → IsOn nodes edges k

  -- Three lists around a change: the old constraints on the gone part of the graph, and the old and the new ones that aim at
  -- changed positions.
  pub record AreAround (old new : Term) (nodes : List Node) (edges : List Edge) (changed : List (List ℕ)) (on old_at new_at : List Constraint) : Type 0 where
    pub on_gone : (c : Constraint) → Contains on c ↔ (IsConstraint spec old c × IsOn nodes edges c.key)
    pub at_old : (c : Constraint) → Contains old_at c ↔ (IsConstraint spec old c × Contains changed c.key.target.node.path)
    pub at_new : (c : Constraint) → Contains new_at c ↔ (IsConstraint spec new c × Contains changed c.key.target.node.path)

-- those on the gone part, and of the old ones at changed positions those that the new ones lack
abbrev pub gone_around : List Constraint → List Constraint → List Constraint → List Constraint
gone_around on old_at new_at = on ++ filter (λ c. not (has by_parts.key new_at c)) old_at
