use Rattle.std.proofs.Common.{subst, sym, List}
use Rattle.flow_term.specs.declared.graph.Link.{Link}
use Rattle.flow_term.specs.Orders.{EachOnce}
use Rattle.flow_term.proofs.Outcomes.{both_ok}
use Rattle.flow_links.proofs.Once.{once_distinct}
use Rattle.flow_links.proofs.link_set.LinkSet.into_list.Goals as goal

pub returns-clause-once : goal.returns-clause-once
returns-clause-once c = both_ok c.in_order.result c.in_order.ensures.same c.in_order.ensures.distinct
    (λ (list : List Link) same distinct. subst (λ (xs : List Link). EachOnce xs) (sym same) (once_distinct c.self.inside.links.keys distinct))
