use Rattle.flow_term.specs.declared.graph.Node.{Node}
use Rattle.flow_term.proofs.Outcomes.{iff_then}
use Rattle.flow_links.proofs.LinkLists.{ends_of_links, links_as_slice}
use Rattle.flow_links.proofs.graph.plain_graph.Goals as goal

pub returns-clause-nodes : goal.returns-clause-nodes
returns-clause-nodes c = λ (node : Node).
    iff_then (c.in_ok-nodes.ensures.exactly node) (ends_of_links c.args.spec.now c.args.tree.now c.in_ok-links.links c.as_slice.result.now c.as_slice.ensures c.in_ok-links.ensures.exactly node)

pub returns-clause-edges : goal.returns-clause-edges
returns-clause-edges c = c.in_ok-edges.ensures.exactly c.args.spec.now.spec c.args.tree.now
    (links_as_slice c.args.spec.now.spec c.args.tree.now c.in_ok-links.links c.as_slice-2.result.now c.as_slice-2.ensures c.in_ok-links.ensures.exactly)
