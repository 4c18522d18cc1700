use Rattle.std.proofs.Common.{List, Contains, subst, sym}
use Rattle.std.specs.Prelude.{◌↔◌}
use Rattle.std.specs.List.Sorted.{IsStrictlySortedBy}
use Rattle.flow_term.specs.declared.graph.Node.{Node}
use Rattle.flow_term.specs.contracts.graph.NodeOrd.TheImpl as derived
use Rattle.flow_term.specs.GraphLaws.{nodes_ordered}
use Rattle.flow_term.specs.Orders.{node_cmp}
use Rattle.flow_links.specs.inner.Ends.{IsEnd}
use Rattle.flow_term.proofs.Outcomes.{both_ok, if_ok}
use Rattle.flow_links.proofs.SetLemmas.{Gains-all, sorted_alike}
use Rattle.flow_links.proofs.nodes.node_list.Goals as goal

pub returns-clause-exactly : goal.returns-clause-exactly
returns-clause-exactly c = if_ok c.in_order.result c.in_order.ensures.same (λ (list : List Node) same (node : Node).
    subst (λ (xs : List Node). Contains xs node ↔ IsEnd c.args.links.now node) (sym same) (Gains-all c.in_ok-nodes.ensures node))

pub returns-clause-ordered : goal.returns-clause-ordered
returns-clause-ordered c = both_ok c.in_order.result c.in_order.ensures.same c.in_order.ensures.ordered (λ (list : List Node) same up.
    subst (λ (xs : List Node). IsStrictlySortedBy node_cmp xs) (sym same) (sorted_alike derived.ghosts.cmp node_cmp nodes_ordered c.in_ok-nodes.nodes.keys up))
