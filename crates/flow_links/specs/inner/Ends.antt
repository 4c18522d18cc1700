-- The nodes at which links begin or end, and the edges that links give.
use Rattle.std.specs.Prelude.{◌≡◌, ◌⊎◌, ◌↔◌, List, Contains}
use Rattle.flow_term.specs.declared.graph.Edge.{Edge}
use Rattle.flow_term.specs.declared.graph.Link.{Link}
use Rattle.flow_term.specs.declared.graph.Node.{Node}
use Rattle.flow_term.specs.declared.term.Term.{Term}
use Rattle.flow_syntax.specs.declared.spec.Spec.{Spec}
use Rattle.flow_syntax.specs.Graph.{IsEdge, IsLink, point_of}

-- A link of the list begins or ends at the node.
pub record IsEnd (links : List Link) (n : Node) : Type 0 where
  pub x : Link
  pub among : Contains links x
  pub side : (x.from ≡ point_of n) ⊎ (x.to ≡ point_of n)

-- The list has exactly the links of the tree.
pub record AreLinks (spec : Spec) (tree : Term) (links : List Link) : Type 0 where
  pub each : (x : Link) → Contains links x ↔ IsLink spec tree x.from x.to

-- The edges are exactly those of each tree that has these links.
abbrev pub AreEdgesBy : List Link → List Edge → Type 0
AreEdgesBy links edges = (spec : Spec) (tree : Term) → AreLinks spec tree links → (e : Edge) → Contains edges e ↔ IsEdge spec tree e.from e.to
