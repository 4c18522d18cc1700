-- The edges that an entered position owns, by its shape.
use Rattle.std.specs.Prelude.{◌≡◌, ℕ, ◌+◌, ◌<◌, ◌≤◌, Bool, true, false, List, Some, length, map, slice_get}
use Rattle.flow_term.specs.declared.graph.Edge.{Edge}
use Rattle.flow_term.specs.declared.graph.Node.{Node}
use Rattle.flow_syntax.specs.declared.rule.FlowRule.{FlowRule}
use Rattle.path_tree.specs.declared.tree.PathTree.{PathTree}
use Rattle.path_tree.specs.Shapes.{children_of}
use Rattle.rule_plans.specs.declared.stop.Stop.{Stop}
use Rattle.rule_plans.specs.declared.stop.Step.{Step}
use Rattle.rule_plans.specs.Hops.{Leads}
use Rattle.graph_shape.specs.declared.kept.Kept.{Kept}
use Rattle.graph_shape.specs.declared.outer.Side.TheVariants.{First, Last}
use Rattle.graph_shape.specs.declared.plans.Plans.{Plans}
use Rattle.graph_shape.specs.Mirrored.{AreTurned, mirror}
use Rattle.graph_shape.specs.Outer.{IsOpenedAt, IsOuterOfChild}
use Rattle.graph_shape.specs.Shapes.{ArePlans, bits_of, summary_of, would_pass}
use Rattle.graph_shape.specs.Steps.{steps_for}
use Rattle.graph_edges.specs.declared.plans.BothPlans.{BothPlans}

-- The plans of these control rules, the same turned round, and which are root rules.
pub record AreBothPlans (control : List FlowRule) (plans : BothPlans) : Type 0 where
  pub forth : ArePlans control plans.forth
  pub back : AreTurned plans.forth plans.back
  pub roots : plans.roots ≡ map (λ rule. rule.root) control

-- The edge leads from a node at a stop, or a last node of the child whose exit the stop is, to a node at a stop that is reached, or a first node of the child whose entry that is.
pub record LeavesStop (plans : BothPlans) (steps : List Step) (bits : List Bool) (ss : List (PathTree Kept)) (path : List ℕ) (from : Stop) (e : Edge) : Type 0 where
  pub closes : IsOpenedAt plans.back Last ss path (mirror from) e.from
  pub to : Stop
  pub reached : Leads steps bits from to
  pub opens : IsOpenedAt plans.forth First ss path to e.to

-- A first node of one of the first m items, from this one on, where all between would be passed.
pub record IsFirstFromItem (plans : Plans) (ss : List (PathTree Kept)) (path : List ℕ) (start m : ℕ) (n : Node) : Type 0 where
  pub k : ℕ
  pub from : start ≤ k
  pub before : k < m
  pub passed : (j : ℕ) (d : PathTree Kept) → start ≤ j → j < k → slice_get ss j ≡ Some d → would_pass d ≡ true
  pub first : IsOuterOfChild plans First ss path k n

-- The edge leads from a last node of this item to a first node of an item behind it, where all between would be passed.
pub record LeavesItem (plans : BothPlans) (ss : List (PathTree Kept)) (path : List ℕ) (i : ℕ) (e : Edge) : Type 0 where
  pub last : IsOuterOfChild plans.back Last ss path i e.from
  pub first : IsFirstFromItem plans.forth ss path (i + 1) (length ss) e.to

-- The edges that an entered position owns: those that leave one of its stops, or, in a list, one of its items.
pub data IsOwnedIn (plans : BothPlans) (s : PathTree Kept) (path : List ℕ) (e : Edge) : Type 0 where
  by_rule : (summary_of s).list ≡ false → (from : Stop) → LeavesStop plans (steps_for plans.forth (summary_of s).rule) (bits_of (children_of s)) (children_of s) path from e → IsOwnedIn plans s path e
  in_list : (summary_of s).list ≡ true → (i : ℕ) → LeavesItem plans (children_of s) path i e → IsOwnedIn plans s path e
