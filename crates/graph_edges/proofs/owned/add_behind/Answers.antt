use Rattle.std.proofs.Common.{◌<◌, ◌^◌, length, refl, arith}
use Rattle.path_tree.specs.Shapes.{children_of}
use Rattle.flow_term.proofs.Outcomes.{on_ok}
use Rattle.flow_links.proofs.SetLemmas.{Gains-none, Gains-same}
use Rattle.graph_shape.proofs.OuterNodes.{few_here}
use Rattle.graph_edges.proofs.Listing.{all_in, item_pairs, no_last, none_in}
use Rattle.graph_edges.proofs.owned.add_behind.Goals as goal

pub returns-then-len-eq0 : goal.returns-then-len-eq0
returns-then-len-eq0 c =
    Gains-none c.args.out.now (no_last c.args.plans.now (children_of c.args.shape.now) c.args.path.now c.args.at
    (none_in c.add_child.new.out c.new-sources.result (omega (arith, c.if-len-eq0.true, c.len.ensures)) c.new-sources.ensures c.in_ok-add_child.ensures))

pub overflow_add-at : goal.overflow_add-at
overflow_add-at c = let few : length (children_of c.args.shape.now) < 2 ^ 32 = few_here c.args.shape.now (children_of c.args.shape.now) refl c.requires.few in omega (arith, few, c.requires.within)

pub returns : goal.returns
returns c = on_ok c.add_pairs.result c.add_pairs.ensures (λ g. Gains-same g
    (item_pairs c.args.plans.now (children_of c.args.shape.now) c.args.path.now c.args.at c.as_slice.result.now c.as_slice-2.result.now
    (all_in c.as_slice.result.now c.add_child.new.out c.new-sources.result c.as_slice.ensures c.new-sources.ensures c.in_ok-add_child.ensures)
    (all_in c.as_slice-2.result.now c.add_firsts_from.new.out c.new-targets.result c.as_slice-2.ensures c.new-targets.ensures c.in_ok-add_firsts_from.ensures)))
