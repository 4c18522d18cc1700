use Rattle.index_lists.specs.Records.{first, second}
use Rattle.index_lists.proofs.EdgeLemmas.{edges_added}
use Rattle.index_lists.proofs.GroupLemmas.{absent_grouped}
use Rattle.index_lists.proofs.edges.add_edge.Goals as goal

pub push-requires-clause-absent : goal.push-requires-clause-absent
push-requires-clause-absent c = λ k. absent_grouped first c.args.records.now.entries c.args.outgoing.now _ k c.requires.edges.outgoing_are c.add-edge.ensures.fresh

pub push-requires-2-clause-absent : goal.push-requires-2-clause-absent
push-requires-2-clause-absent c = λ k. absent_grouped second c.args.records.now.entries c.args.incoming.now _ k c.requires.edges.incoming_are c.add-edge.ensures.fresh

pub returns-clause-edges : goal.returns-clause-edges
returns-clause-edges c =
    edges_added c.args.records.now.entries _ c.args.outgoing.now c.args.incoming.now _ _ c.add-edge.result (c.args.from, c.args.to) c.requires.edges c.add-edge.ensures.once c.requires.from c.requires.to c.add-edge.ensures.entries c.push.ensures c.push-2.ensures
