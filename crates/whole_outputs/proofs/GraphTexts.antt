-- A graph has one text.
use Rattle.std.proofs.Common.{◌≡◌, List, sym, ◌∙◌}
use Rattle.std.specs.Prelude.{◌↔◌, Contains}
use Rattle.std.specs.Cmp.{IsTotalOrder, then_total, on_total, nat_cmp_total}
use Rattle.std.specs.Cmp.Lexicographic.{nat_list_cmp_total}
use Rattle.flow_term.specs.declared.graph.Edge.{Edge}
use Rattle.flow_term.specs.declared.graph.Node.{Node}
use Rattle.flow_term.specs.Orders.{node_cmp, edge_cmp, rank}
use Rattle.flow_term.proofs.Outcomes.{iff_then}
use Rattle.flow_cli.specs.GraphText.{graph_text}
use Rattle.whole_outputs.specs.Laws.{GraphsHaveOneText}
use Rattle.whole_outputs.proofs.RisingLists.{same_list}

node_total : IsTotalOrder node_cmp
node_total = then_total (on_total (λ (n : Node). n.path) nat_list_cmp_total) (on_total (λ (n : Node). rank n.kind) nat_cmp_total)

edge_total : IsTotalOrder edge_cmp
edge_total = then_total (on_total (λ (e : Edge). e.from) node_total) (on_total (λ (e : Edge). e.to) node_total)

turned : {P Q : Type 0} → P ↔ Q → Q ↔ P
turned h = (h.1, h.0)

pub one_text : GraphsHaveOneText
one_text spec tree text other a b =
    let nodes : a.nodes ≡ b.nodes = same_list node_cmp node_total a.nodes b.nodes a.ordered_nodes b.ordered_nodes (λ n. iff_then (a.exactly_nodes n) (turned (b.exactly_nodes n))) in
    let edges : a.edges ≡ b.edges = same_list edge_cmp edge_total a.edges b.edges a.ordered_edges b.ordered_edges (λ e. iff_then (a.exactly_edges e) (turned (b.exactly_edges e))) in
    a.text ∙ (λ i. graph_text (nodes i) (edges i)) ∙ sym b.text
