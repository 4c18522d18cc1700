use Rattle.std.proofs.Common.{◌∙◌, ap}
use Rattle.std.specs.Prelude.{filter, map}
use Rattle.index_lists.specs.Edges.{Edges, as_triple, reaches}
use Rattle.index_lists.specs.Records.{second}
use Rattle.index_lists.proofs.GroupLemmas.{group_entries}
use Rattle.index_lists.proofs.edges.EdgeLists.incoming.Goals as goal

pub returns-clause-edges : goal.returns-clause-edges
returns-clause-edges c =
    c.list_edges.ensures ∙ ap (map as_triple) (group_entries second c.self.inside.records.entries c.self.inside.incoming c.args.node c.self.invariant.incoming_are c.self.invariant.once)
    ∙ ap (λ (v : Edges). map as_triple (filter (reaches c.args.node) v.edges)) c.self.view_is
