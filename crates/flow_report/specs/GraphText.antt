-- The text of a control-flow graph.
use Rattle.std.specs.Prelude.{◌≡◌, ◌↔◌, ℕ, List, ◌++◌, Contains, length, codes}
use Rattle.std.specs.List.{flat_map}
use Rattle.std.specs.List.Sorted.{IsStrictlySortedBy}
use Rattle.flow_term.specs.declared.graph.Edge.{Edge}
use Rattle.flow_term.specs.declared.graph.Node.{Node}
use Rattle.flow_term.specs.declared.term.Term.{Term}
use Rattle.flow_term.specs.Orders.{node_cmp, edge_cmp}
use Rattle.flow_syntax.specs.declared.spec.Spec.{Spec}
use Rattle.flow_syntax.specs.Graph.{IsEdge, IsNode}
use Rattle.flow_lines.specs.Lines.{count_line, edge_line, node_line}

-- the number of nodes, a line for each, and the same of the edges
abbrev pub graph_text : List Node → List Edge → List ℕ
graph_text nodes edges =
    count_line (codes "nodes ") (length nodes) ++ flat_map node_line nodes ++ count_line (codes "edges ") (length edges) ++ flat_map edge_line edges

-- The bytes are the text of the tree's graph: exactly its nodes and exactly its edges, each once and in order.
pub record GraphText (spec : Spec) (tree : Term) (out : List ℕ) : Type 0 where
  pub nodes : List Node
  pub edges : List Edge
  pub exactly_nodes : (n : Node) → Contains nodes n ↔ IsNode spec tree n
  pub exactly_edges : (e : Edge) → Contains edges e ↔ IsEdge spec tree e.from e.to
  pub ordered_nodes : IsStrictlySortedBy node_cmp nodes
  pub ordered_edges : IsStrictlySortedBy edge_cmp edges
  pub text : out ≡ graph_text nodes edges
