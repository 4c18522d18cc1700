-- The graph that is kept of a tree.
use Rattle.std.specs.Prelude.{◌<◌, ◌^◌, []}
use Rattle.flow_term.specs.declared.term.Term.{Term}
use Rattle.flow_term.specs.Trees.{term_size}
use Rattle.flow_syntax.specs.declared.spec.Spec.{Spec}
use Rattle.flow_syntax.specs.Control.{HasBoundItems, HasLongChains}
use Rattle.graph_laws.specs.Owners.{HasPlacedItems}
use Rattle.graph_shape.specs.Shapes.{HasMatches, HasNoListRules, IsShapeOf}
use Rattle.graph_edges.specs.Owned.{AreBothPlans}
use Rattle.flow_graph.specs.declared.graph.Graph.{Graph}

-- What the control rules of each accepted specification are.
pub record HasFitRules (spec : Spec) : Type 0 where
  pub placed : HasPlacedItems spec
  pub lists : HasNoListRules spec
  pub long : HasLongChains spec
  pub bound : HasBoundItems spec

-- The graph is that of the tree: it has the plans of the control rules, and keeps of each position what it is known by and what matches there.
pub record IsGraphOf (spec : Spec) (tree : Term) (graph : Graph) : Type 0 where
  pub rules : HasFitRules spec
  pub small : term_size tree < 2 ^ 32
  pub plans : AreBothPlans spec.control graph.plans
  pub shape : IsShapeOf spec tree graph.shape
  pub matches : HasMatches spec tree [] graph.shape

-- It is that of some tree.
pub record IsGraph (graph : Graph) : Type 0 where
  pub spec : Spec
  pub tree : Term
  pub is : IsGraphOf spec tree graph
