use Rattle.std.proofs.Common.{◌≡◌, ◌++◌, get_or, ap, ◌∙◌}
use Rattle.std.proofs.lemmas.List.{get_or_default}
use Rattle.flow_term.specs.declared.graph.Node.{Node}
use Rattle.flow_match.specs.Matched.{matched_in}
use Rattle.tree_listing.specs.Listing.{listed_at_node}
use Rattle.tree_build.specs.Numbers.{no_node, node_of}
use Rattle.tree_build.proofs.HitFacts.{node_listed}
use Rattle.tree_build.proofs.ListFacts.{node_more}
use Rattle.tree_build.proofs.constraints.list_all.Goals as goal

pub loop-number-preserved : goal.loop-number-preserved
loop-number-preserved g c =
    let spec = g.R.RuleSource.spec c.args.rules.now in
    let number = c.loop-number.number in
    let node = node_of c.args.nodes.now number in
    let is : get_or c.args.nodes.now number c.index-nodes-number.result ≡ node = get_or_default c.args.nodes.now number c.index-nodes-number.result no_node c.loop-number-test.true in (
      λ edges are.
          node_more (listed_at_node spec c.args.tree.now c.args.properties.now.list edges) c.args.nodes.now number c.loop-number.rows.constraints c.add_at_node.new.rows.constraints
          c.loop-number-test.true (c.loop-number.invariant.0 edges are)
          (c.in_ok-add_at_node.ensures.constraints edges are ∙ ap (λ xs. c.loop-number.rows.constraints ++ xs)
          (node_listed spec c.args.tree.now node c.as_slice.result.now c.in_ok-matched.matched (c.in_ok-matched.ensures ∙ ap (λ (n : Node). matched_in spec c.args.tree.now n.path) is) c.as_slice.ensures
          edges c.args.properties.now.list c.requires.properties.are c.args.properties.now.numbers c.requires.properties.numbered)),
      c.in_ok-add_at_node.ensures.ends c.loop-number.invariant.1,
    )
