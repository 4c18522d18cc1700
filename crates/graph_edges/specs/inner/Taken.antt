-- The edges that are added so far.
use Rattle.std.specs.Prelude.{◌≡◌, ℕ, ◌<◌, Bool, List, Some, Contains, slice_get}
use Rattle.flow_term.specs.declared.graph.Edge.{Edge}
use Rattle.flow_syntax.specs.Graph.{below}
use Rattle.path_tree.specs.declared.tree.PathTree.{PathTree}
use Rattle.path_tree.specs.Shapes.{children_of}
use Rattle.rule_plans.specs.declared.stop.Step.{Step}
use Rattle.graph_shape.specs.declared.kept.Kept.{Kept}
use Rattle.graph_edges.specs.declared.plans.BothPlans.{BothPlans}
use Rattle.graph_edges.specs.Below.{IsEdgeBelow, enters_part}
use Rattle.graph_edges.specs.Owned.{LeavesItem, LeavesStop}

-- the edge leaves the stop from which one of these steps leads
pub record LeavesOneStep (plans : BothPlans) (steps : List Step) (bits : List Bool) (ss : List (PathTree Kept)) (path : List ℕ) (taken : List Step) (e : Edge) : Type 0 where
  pub step : Step
  pub among : Contains taken step
  pub leaves : LeavesStop plans steps bits ss path step.from e

-- the edge leaves one of the first m items
pub record LeavesOneItem (plans : BothPlans) (ss : List (PathTree Kept)) (path : List ℕ) (m : ℕ) (e : Edge) : Type 0 where
  pub i : ℕ
  pub before : i < m
  pub leaves : LeavesItem plans ss path i e

-- an edge of the positions at and below the child with this number
pub record IsEdgeInChild (plans : BothPlans) (entered : Bool) (s : PathTree Kept) (path : List ℕ) (k : ℕ) (e : Edge) : Type 0 where
  pub child : PathTree Kept
  pub at : slice_get (children_of s) k ≡ Some child
  pub inside : IsEdgeBelow plans e (enters_part plans entered s k) child (below path k)

-- at and below one of the first m children
pub record IsEdgeInChildren (plans : BothPlans) (entered : Bool) (s : PathTree Kept) (path : List ℕ) (m : ℕ) (e : Edge) : Type 0 where
  pub k : ℕ
  pub before : k < m
  pub inside : IsEdgeInChild plans entered s path k e
