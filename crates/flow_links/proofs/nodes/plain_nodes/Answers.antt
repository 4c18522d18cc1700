use Rattle.std.proofs.Common.{List}
use Rattle.flow_term.specs.declared.graph.Node.{Node}
use Rattle.flow_term.proofs.Outcomes.{if_ok, iff_then}
use Rattle.flow_links.proofs.LinkLists.{ends_of_links}
use Rattle.flow_links.proofs.nodes.plain_nodes.Goals as goal

pub returns-clause-exactly : goal.returns-clause-exactly
returns-clause-exactly c = if_ok c.node_list.result c.node_list.ensures.exactly (λ (list : List Node) ends (node : Node).
    iff_then (ends node) (ends_of_links c.args.spec.now c.args.tree.now c.in_ok-links.links c.as_slice.result.now c.as_slice.ensures c.in_ok-links.ensures.exactly node))
