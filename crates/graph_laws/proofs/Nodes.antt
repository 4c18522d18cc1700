-- Nodes among points.
use Rattle.std.proofs.Common.{◌≡◌, ℕ, List, refl}
use Rattle.flow_term.specs.declared.graph.Node.{Node}
use Rattle.flow_term.specs.declared.graph.NodeKind.{NodeKind}
use Rattle.flow_term.specs.declared.graph.NodeKind.TheVariants as kind
use Rattle.flow_term.specs.declared.graph.Point.{Point}
use Rattle.flow_term.specs.declared.graph.Point.TheVariants as point
use Rattle.flow_syntax.specs.Graph.{IsInner, point_of, point_of_kind}
use Rattle.graph_laws.proofs.Apart.{path_of}

node_point : (k : NodeKind) (p : List ℕ) → ¬ IsInner (point_of_kind k p)
node_point kind.Start p h = h
node_point kind.Node p h = h
node_point kind.End p h = h

-- a node is no inner point
pub no_inner_node : (n : Node) → ¬ IsInner (point_of n)
no_inner_node n = node_point n.kind n.path

-- a point that isn't an inner one is a node
pub node_of : (p : Point) → ¬ IsInner p → (n : Node) × (point_of n ≡ p)
node_of (point.In path) h = absurd (h tt)
node_of (point.Out path) h = absurd (h tt)
node_of (point.Node path) h = (record { path = path; kind = kind.Node }, refl)
node_of (point.Start path) h = (record { path = path; kind = kind.Start }, refl)
node_of (point.End path) h = (record { path = path; kind = kind.End }, refl)

-- the point of a node stands at its path
pub path_of_node : (k : NodeKind) (p : List ℕ) → path_of (point_of_kind k p) ≡ p
path_of_node kind.Start p = refl
path_of_node kind.Node p = refl
path_of_node kind.End p = refl
