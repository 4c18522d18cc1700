-- The orders of nodes and edges, and lists with no repeats.
use Rattle.std.specs.Prelude.{ℕ, List, [], ◌∷◌, Contains}
use Rattle.std.specs.Ordering.{nat_cmp, ordering_then}
use Rattle.std.specs.declared.cmp.Ordering.{Ordering}
use Rattle.flow_term.specs.declared.graph.Node.{Node}
use Rattle.flow_term.specs.declared.graph.NodeKind.{NodeKind}
use Rattle.flow_term.specs.declared.graph.NodeKind.TheVariants.{Start, Node as Single, End}
use Rattle.flow_term.specs.declared.graph.Edge.{Edge}
use Rattle.flow_term.specs.Paths.{path_cmp}

-- at one path the start comes before the node and the node before the end
abbrev pub rank : NodeKind → ℕ
rank Start = 0
rank Single = 1
rank End = 2

-- by path, and then by kind
abbrev pub node_cmp : Node → Node → Ordering
node_cmp a b = ordering_then (path_cmp a.path b.path) (nat_cmp (rank a.kind) (rank b.kind))

-- by source, and then by target
abbrev pub edge_cmp : Edge → Edge → Ordering
edge_cmp a b = ordering_then (node_cmp a.from b.from) (node_cmp a.to b.to)

-- No item stands twice in a list.
abbrev pub EachOnce : {X : Type 0} → List X → Type 0
EachOnce [] = Unit {0}
EachOnce (x ∷ xs) = (¬ Contains xs x) × EachOnce xs
