use Rattle.flow_links.proofs.link_set.in_order.Goals as goal

pub returns-clause-distinct : goal.returns-clause-distinct
returns-clause-distinct c = c.into_iter.ensures.into_iter_gives.3
