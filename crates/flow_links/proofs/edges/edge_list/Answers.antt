use Rattle.std.proofs.Common.{List, subst, sym}
use Rattle.std.specs.List.Sorted.{IsStrictlySortedBy}
use Rattle.flow_term.specs.declared.graph.Edge.{Edge}
use Rattle.flow_term.specs.contracts.graph.EdgeOrd.TheImpl as derived
use Rattle.flow_term.specs.GraphLaws.{edges_ordered}
use Rattle.flow_term.specs.Orders.{edge_cmp}
use Rattle.flow_links.specs.inner.Ends.{AreEdgesBy}
use Rattle.flow_links.proofs.EdgeLemmas.{arrows_within, edges_are_ways}
use Rattle.flow_term.proofs.Outcomes.{both_ok, if_ok, iff_then}
use Rattle.flow_links.proofs.SetLemmas.{Gains-all, sorted_alike}
use Rattle.flow_links.proofs.edges.edge_list.Goals as goal

pub edges_of-requires-clause-sizes : goal.edges_of-requires-clause-sizes
edges_of-requires-clause-sizes c = c.in_ok-graph.ensures.sizes

pub edges_of-requires-clause-within : goal.edges_of-requires-clause-within
edges_of-requires-clause-within c = arrows_within c.args.links.now c.in_ok-graph.graph.points.keys c.in_ok-graph.graph.successors.items c.in_ok-graph.ensures

pub returns-clause-exactly : goal.returns-clause-exactly
returns-clause-exactly c = if_ok c.in_order.result c.in_order.ensures.same (λ (list : List Edge) same.
    subst (λ (xs : List Edge). AreEdgesBy c.args.links.now xs) (sym same) (λ spec tree are edge.
    iff_then (Gains-all c.in_ok-edges.ensures edge)
    (edges_are_ways spec tree c.args.links.now are.each c.in_ok-graph.graph.points.keys c.in_ok-graph.graph.successors.items c.in_ok-graph.ensures edge)))

pub returns-clause-ordered : goal.returns-clause-ordered
returns-clause-ordered c = both_ok c.in_order.result c.in_order.ensures.same c.in_order.ensures.ordered (λ (list : List Edge) same up.
    subst (λ (xs : List Edge). IsStrictlySortedBy edge_cmp xs) (sym same) (sorted_alike derived.ghosts.cmp edge_cmp edges_ordered c.in_ok-edges.edges.keys up))
