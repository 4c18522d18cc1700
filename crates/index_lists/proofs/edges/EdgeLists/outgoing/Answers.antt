use Rattle.std.proofs.Common.{◌∙◌, ap}
use Rattle.std.specs.Prelude.{filter, map}
use Rattle.index_lists.specs.Edges.{Edges, as_triple, leaves}
use Rattle.index_lists.specs.Records.{first}
use Rattle.index_lists.proofs.GroupLemmas.{group_entries}
use Rattle.index_lists.proofs.edges.EdgeLists.outgoing.Goals as goal

pub returns-clause-edges : goal.returns-clause-edges
returns-clause-edges c =
    c.list_edges.ensures ∙ ap (map as_triple) (group_entries first c.self.inside.records.entries c.self.inside.outgoing c.args.node c.self.invariant.outgoing_are c.self.invariant.once)
    ∙ ap (λ (v : Edges). map as_triple (filter (leaves c.args.node) v.edges)) c.self.view_is
