use Rattle.std.proofs.Common.{◌≡◌, get_or, sym, ap, ◌∙◌}
use Rattle.std.proofs.lemmas.List.{get_or_default}
use Rattle.std.specs.Option.{option_copied}
use Rattle.flow_term.specs.declared.graph.Node.{Node}
use Rattle.tree_constraints.specs.declared.constraint.Origin.TheVariants as from
use Rattle.tree_constraints.specs.Constraints.{unknown_at}
use Rattle.tree_listing.specs.Listing.{constraint_by}
use Rattle.tree_build.specs.Numbers.{no_node, node_of}
use Rattle.tree_build.proofs.EndFacts.{end_added, mapped_more}
use Rattle.tree_build.proofs.constraints.add_along.Goals as goal

pub loop-origin-preserved : goal.loop-origin-preserved
loop-origin-preserved c =
    let at = get_or c.args.row.now c.loop-origin.origin-index 0 in
    let within = c.requires c.loop-origin.origin-index 0 c.loop-origin-test.true in
    let is : c.in_ok-duplicate.field-0 ≡ node_of c.args.nodes.now at = c.in_ok-duplicate.ensures ∙ c.index-nodes-origin.is ∙ get_or_default c.args.nodes.now at c.index-nodes-origin.result no_node within in (
      mapped_more (λ i. constraint_by (option_copied c.args.hit) (unknown_at c.args.node.now c.args.property.now) (from.Along (node_of c.args.nodes.now i))) c.args.rows.now.constraints c.args.row.now c.loop-origin.origin-index
          c.loop-origin.rows.constraints c.push.new.self.constraints c.in_ok-made.made c.loop-origin-test.true c.loop-origin.invariant.0
          (c.in_ok-made.ensures ∙ ap (λ (n : Node). constraint_by (option_copied c.args.hit) (unknown_at c.args.node.now c.args.property.now) (from.Along n)) is) c.in_ok-push.ensures.constraints,
      λ properties stands are.
          end_added properties c.args.nodes.now c.args.number c.args.place at c.args.node.now c.args.property.now (from.Along c.in_ok-duplicate.field-0) (option_copied c.args.hit)
          c.loop-origin.rows.ends c.push.new.self.ends c.loop-origin.rows.constraints c.push.new.self.constraints c.in_ok-made.made stands c.in_ok-made.ensures within (sym is)
          c.in_ok-push.ensures.ends c.in_ok-push.ensures.constraints (c.loop-origin.invariant.1 properties stands are),
    )
