-- The derived orders of nodes and edges are those of the specification, and what ties is the same.
use Rattle.std.proofs.Common.{◌≡◌, refl, sym, ap, ◌∙◌}
use Rattle.std.specs.Ordering.{nat_cmp, ordering_then}
use Rattle.std.specs.declared.cmp.Ordering.{Ordering}
use Rattle.std.specs.declared.cmp.Ordering.TheVariants.{Less, Equal, Greater}
use Rattle.std.proofs.lemmas.Map.Lookups.{exact_bytes}
use Rattle.flow_term.specs.declared.graph.Node.{Node}
use Rattle.flow_term.specs.declared.graph.NodeKind.{NodeKind}
use Rattle.flow_term.specs.declared.graph.NodeKind.TheVariants.{Start, Node as Single, End}
use Rattle.flow_term.specs.declared.graph.Edge.{Edge}
use Rattle.flow_term.specs.contracts.graph.NodeOrd.TheImpl as node
use Rattle.flow_term.specs.contracts.graph.NodeKindOrd.TheImpl as kind
use Rattle.flow_term.specs.contracts.graph.EdgeOrd.TheImpl as edge
use Rattle.flow_term.specs.Orders.{node_cmp, edge_cmp, rank}
use Rattle.flow_term.specs.Paths.{path_cmp}

kinds_ordered : (a b : NodeKind) → kind.ghosts.cmp a b ≡ nat_cmp (rank a) (rank b)
kinds_ordered Start Start = refl
kinds_ordered Start Single = refl
kinds_ordered Start End = refl
kinds_ordered Single Start = refl
kinds_ordered Single Single = refl
kinds_ordered Single End = refl
kinds_ordered End Start = refl
kinds_ordered End Single = refl
kinds_ordered End End = refl

pub nodes_ordered : (a b : Node) → node.ghosts.cmp a b ≡ node_cmp a b
nodes_ordered a b = ap (ordering_then (path_cmp a.path b.path)) (kinds_ordered a.kind b.kind)

pub edges_ordered : (a b : Edge) → edge.ghosts.cmp a b ≡ edge_cmp a b
edges_ordered a b = λ i. ordering_then (nodes_ordered a.from b.from i) (nodes_ordered a.to b.to i)

-- a comparison in two steps ties where both do
both_tie : (a b : Ordering) → ordering_then a b ≡ Equal → (a ≡ Equal) × (b ≡ Equal)
both_tie Less b h = cc
both_tie Equal b h = (refl, h)
both_tie Greater b h = cc

same_kinds : (a b : NodeKind) → nat_cmp (rank a) (rank b) ≡ Equal → a ≡ b
same_kinds Start Start h = refl
same_kinds Single Single h = refl
same_kinds End End h = refl
same_kinds _ _ h = cc

same_by_order : (a b : Node) → node_cmp a b ≡ Equal → a ≡ b
same_by_order a b h =
    let ties : (path_cmp a.path b.path ≡ Equal) × (nat_cmp (rank a.kind) (rank b.kind) ≡ Equal) = both_tie _ _ h in
    let paths : a.path ≡ b.path = exact_bytes a.path b.path ties.0 in
    let kinds : a.kind ≡ b.kind = same_kinds a.kind b.kind ties.1 in
    λ i. record { path = paths i; kind = kinds i }

pub same_nodes : (a b : Node) → node.ghosts.cmp a b ≡ Equal → a ≡ b
same_nodes a b h = same_by_order a b (sym (nodes_ordered a b) ∙ h)

pub same_edges : (a b : Edge) → edge.ghosts.cmp a b ≡ Equal → a ≡ b
same_edges a b h =
    let ties : (node_cmp a.from b.from ≡ Equal) × (node_cmp a.to b.to ≡ Equal) = both_tie _ _ (sym (edges_ordered a b) ∙ h) in
    let sources : a.from ≡ b.from = same_by_order a.from b.from ties.0 in
    let targets : a.to ≡ b.to = same_by_order a.to b.to ties.1 in
    λ i. record { from = sources i; to = targets i }
