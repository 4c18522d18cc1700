use Rattle.flow_term.proofs.Outcomes.{if_ok, iff_then}
use Rattle.graph_shape.proofs.FewChildren.{few_children_of}
use Rattle.graph_edges.proofs.EdgesAre.{edges_are}
use Rattle.graph_edges.proofs.Listing.{all_in}
use Rattle.flow_graph.proofs.graph.Graph.edges.Goals as goal

pub add_below-requires : goal.add_below-requires
add_below-requires c = record { few = few_children_of c.requires.graph.spec c.requires.graph.tree c.args.self.now.shape c.requires.graph.is.shape c.requires.graph.is.small }

pub returns-clause-exactly : goal.returns-clause-exactly
returns-clause-exactly c spec tree is = if_ok c.sorted_edges.result c.sorted_edges.ensures.same (λ list same e.
    iff_then (same e) (iff_then (all_in c.as_slice.result.now c.add_below.new.out c.new-found.result c.as_slice.ensures c.new-found.ensures c.in_ok-add_below.ensures e)
    (edges_are spec c.args.self.now.plans is.plans is.rules.placed is.rules.lists is.rules.long is.rules.bound e tree c.args.self.now.shape is.shape is.small)))
