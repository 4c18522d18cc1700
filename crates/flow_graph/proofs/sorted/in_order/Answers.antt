use Rattle.flow_graph.proofs.sorted.in_order.Goals as goal

pub returns-clause-ordered : goal.returns-clause-ordered
returns-clause-ordered g c = c.into_iter.ensures.into_iter_gives.4
