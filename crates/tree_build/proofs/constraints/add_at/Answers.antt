use Rattle.std.proofs.Common.{◌∙◌}
use Rattle.std.proofs.lemmas.List.{get_or_default}
use Rattle.flow_term.proofs.Outcomes.{on_ok}
use Rattle.std.specs.Option.{option_copied}
use Rattle.tree_build.specs.Numbers.{no_node, node_of}
use Rattle.tree_build.proofs.ListFacts.{added_at}
use Rattle.tree_build.proofs.constraints.add_at.Goals as goal

pub returns-clause-constraints : goal.returns-clause-constraints
returns-clause-constraints c = on_ok c.add_along.result c.add_along.ensures.constraints (λ is edges row.
    added_at c.args.hits.now c.args.declared c.args.property.now c.args.nodes.now (node_of c.args.nodes.now c.args.number) c.index-nodes-number.result c.args.row.now
    (option_copied c.ordinary_hit.result) c.args.rows.now.constraints c.add_boundary.new.rows.constraints c.add_along.new.rows.constraints
    (c.index-nodes-number.is ∙ get_or_default c.args.nodes.now c.args.number c.index-nodes-number.result no_node c.requires.number)
    c.ordinary_hit.ensures c.in_ok-add_boundary.ensures.constraints is edges row)
