use Rattle.std.proofs.Common.{◌↔◌, List, sym, subst}
use Rattle.std.specs.Prelude.{Contains}
use Rattle.std.specs.List.Sorted.{IsStrictlySortedBy}
use Rattle.flow_term.specs.declared.graph.Edge.{Edge}
use Rattle.flow_term.specs.contracts.graph.EdgeOrd.TheImpl as derived
use Rattle.flow_term.specs.GraphLaws.{edges_ordered}
use Rattle.flow_term.specs.Orders.{edge_cmp}
use Rattle.flow_term.proofs.Outcomes.{both_ok, if_ok}
use Rattle.flow_links.proofs.SetLemmas.{Gains-all, sorted_alike}
use Rattle.flow_graph.proofs.sorted.sorted_edges.Goals as goal

pub returns-clause-same : goal.returns-clause-same
returns-clause-same c = if_ok c.in_order.result c.in_order.ensures.same (λ list e. subst (λ (xs : List Edge). (x : Edge) → Contains xs x ↔ Contains c.args.edges.now x) (sym e) (Gains-all c.in_ok-set.ensures))

pub returns-clause-ordered : goal.returns-clause-ordered
returns-clause-ordered c = both_ok c.in_order.result c.in_order.ensures.same c.in_order.ensures.ordered (λ (list : List Edge) same up.
    subst (λ (xs : List Edge). IsStrictlySortedBy edge_cmp xs) (sym same) (sorted_alike derived.ghosts.cmp edge_cmp edges_ordered c.in_ok-set.set.keys up))
