use Rattle.std.proofs.Common.{List}
use Rattle.flow_term.specs.declared.graph.Edge.{Edge}
use Rattle.flow_term.proofs.Outcomes.{if_ok}
use Rattle.flow_links.proofs.LinkLists.{links_as_slice}
use Rattle.flow_links.proofs.edges.plain_edges.Goals as goal

pub returns-clause-exactly : goal.returns-clause-exactly
returns-clause-exactly c = if_ok c.edge_list.result c.edge_list.ensures.exactly (λ (list : List Edge) by_links.
    by_links c.args.spec.now.spec c.args.tree.now (links_as_slice c.args.spec.now.spec c.args.tree.now c.in_ok-links.links c.as_slice.result.now c.as_slice.ensures c.in_ok-links.ensures.exactly))
