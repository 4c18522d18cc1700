-- A tree has one print, which begins with its graph.
use Rattle.std.proofs.Common.{◌≡◌, List, refl, sym, ap, subst, ◌∙◌}
use Rattle.flow_term.specs.declared.graph.Edge.{Edge}
use Rattle.flow_term.specs.declared.graph.Node.{Node}
use Rattle.flow_term.specs.Orders.{edge_cmp, node_cmp}
use Rattle.flow_syntax.specs.Types.{Typing}
use Rattle.expr_typing.proofs.One.{types_unique}
use Rattle.flow_cert.specs.declared.solution.Solution.{Solution}
use Rattle.flow_cert.specs.Solved.{IsSolutionOf}
use Rattle.flow_cert.proofs.SolutionLemmas.{edge_total, node_total, one_list, solutions_one}
use Rattle.flow_report.specs.GraphText.{graph_text}
use Rattle.flow_report.specs.Laws.{GraphsHaveOneText, PrintsAreOne, PrintsBeginWithGraphs}
use Rattle.flow_report.specs.SolutionText.{solution_text}

pub graphs_one : GraphsHaveOneText
graphs_one spec tree text other a b =
    let nodes : a.nodes ≡ b.nodes = one_list node_cmp node_total _ a.nodes b.nodes a.ordered_nodes b.ordered_nodes a.exactly_nodes b.exactly_nodes in
    let edges : a.edges ≡ b.edges = one_list edge_cmp edge_total _ a.edges b.edges a.ordered_edges b.ordered_edges a.exactly_edges b.exactly_edges in
    a.text ∙ (λ i. graph_text (nodes i) (edges i)) ∙ sym b.text

pub prints_one : PrintsAreOne
prints_one spec tree out other a b =
    let types : b.types ≡ a.types = types_unique spec b.types a.types a.accepted.typed.faultless b.accepted.typed.are a.accepted.typed.are in
    let solves : IsSolutionOf spec a.types tree b.solution = subst (λ (ts : List Typing). IsSolutionOf spec ts tree b.solution) types b.solves in
    a.text ∙ ap solution_text (solutions_one spec a.types a.accepted tree a.solution b.solution a.solves solves) ∙ sym b.text

pub prints_begin : PrintsBeginWithGraphs
prints_begin spec tree out a = (
  graph_text a.solution.nodes a.solution.edges,
  a.solution.values,
  record {
    nodes = a.solution.nodes;
    edges = a.solution.edges;
    exactly_nodes = a.solves.nodes.exactly;
    exactly_edges = a.solves.edges.exactly;
    ordered_nodes = a.solves.nodes.ordered;
    ordered_edges = a.solves.edges.ordered;
    text = refl;
  },
  a.text,
)
