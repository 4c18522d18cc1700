use Rattle.std.proofs.Common.{◌∙◌, ap, nat_eq}
use Rattle.list_theory.specs.Lists.{has}
use Rattle.linked_lists.specs.Chains.{list_in}
use Rattle.index_lists.specs.Records.{first, second}
use Rattle.index_lists.proofs.EdgeLemmas.{edges_removed}
use Rattle.index_lists.proofs.GroupLemmas.{there_grouped}
use Rattle.index_lists.proofs.edges.remove_edge.Goals as goal

pub remove-requires : goal.remove-requires
remove-requires c =
    ap (λ k. has nat_eq (list_in c.args.outgoing.now k) c.args.edge) (ap first c.remove-from.ensures.value)
    ∙ there_grouped first c.args.records.now.entries c.args.outgoing.now c.args.edge c.requires.edges.outgoing_are c.requires.there

pub remove-requires-2 : goal.remove-requires-2
remove-requires-2 c =
    ap (λ k. has nat_eq (list_in c.args.incoming.now k) c.args.edge) (ap second c.remove-from.ensures.value)
    ∙ there_grouped second c.args.records.now.entries c.args.incoming.now c.args.edge c.requires.edges.incoming_are c.requires.there

pub returns-clause-edges : goal.returns-clause-edges
returns-clause-edges c =
    edges_removed c.args.records.now.entries _ c.args.outgoing.now c.args.incoming.now _ _ c.args.edge c.remove-from.result c.requires.edges c.remove-from.ensures.once c.requires.there c.remove-from.ensures.value c.remove-from.ensures.entries c.remove.ensures c.remove-2.ensures
