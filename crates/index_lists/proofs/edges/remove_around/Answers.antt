use Rattle.std.proofs.Common.{◌∙◌, ap, not}
use Rattle.std.specs.Prelude.{filter}
use Rattle.index_lists.specs.Edges.{reaches}
use Rattle.index_lists.proofs.EdgeLemmas.{filtered_twice}
use Rattle.index_lists.proofs.edges.remove_around.Goals as goal

pub returns-clause-entries : goal.returns-clause-entries
returns-clause-entries c =
    c.remove_incoming.ensures.entries ∙ ap (filter (λ e. not (reaches c.args.node e))) c.remove_outgoing.ensures.entries ∙ filtered_twice c.args.node c.args.records.now.entries
