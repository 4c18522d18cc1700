use Rattle.std.proofs.Common.{◌≡◌, ◌<◌, List, length, ap, ◌∙◌, arith, Some}
use Rattle.std.specs.Prelude.{slice_get}
use Rattle.path_tree.specs.declared.tree.PathTree.{PathTree}
use Rattle.path_tree.specs.Shapes.{children_of}
use Rattle.graph_shape.specs.declared.kept.Kept.{Kept}
use Rattle.graph_shape.proofs.OuterNodes.{get_some}
use Rattle.graph_edges.proofs.Listing.{firsts_all, firsts_more, firsts_stop, no_firsts, passed_more, passed_none}
use Rattle.graph_edges.proofs.owned.add_firsts_from.Goals as goal

pub returns-then-not-is_passing : goal.returns-then-not-is_passing
returns-then-not-is_passing c =
    let ss : List (PathTree Kept) = children_of c.args.shape.now in
    let within : c.loop-at.at < length ss = omega (arith, c.loop-at-test.true, c.child_count-at-end.ensures) in
    let here : (s : PathTree Kept) × (slice_get ss c.loop-at.at ≡ Some s) = get_some ss c.loop-at.at within in
    firsts_stop c.args.plans.now ss c.args.path.now c.args.start c.args.out.now c.add_child.new.out c.loop-at.at c.is_passing.result here.0 c.loop-at.auto.at within here.1
    (c.is_passing.ensures here.0 (ap (λ (xs : List (PathTree Kept)). slice_get xs c.loop-at.at) c.as_slice.ensures ∙ here.1)) c.if-not-is_passing.true
    (firsts_more c.args.plans.now ss c.args.path.now c.args.start c.args.out.now c.loop-at.out c.add_child.new.out c.loop-at.at c.loop-at.auto.at c.loop-at.invariant.passed c.loop-at.invariant.gains c.in_ok-add_child.ensures)

pub loop-at-preserved : goal.loop-at-preserved
loop-at-preserved c = record {
  gains =
      firsts_more c.args.plans.now (children_of c.args.shape.now) c.args.path.now c.args.start c.args.out.now c.loop-at.out c.add_child.new.out c.loop-at.at c.loop-at.auto.at c.loop-at.invariant.passed c.loop-at.invariant.gains c.in_ok-add_child.ensures;
  passed = passed_more c.args.plans.now (children_of c.args.shape.now) c.args.path.now c.args.start c.loop-at.at c.is_passing.result c.loop-at.invariant.passed
      (λ d is. c.is_passing.ensures d (ap (λ (xs : List (PathTree Kept)). slice_get xs c.loop-at.at) c.as_slice.ensures ∙ is)) c.if-not-is_passing.false;
}

pub loop-at-init : goal.loop-at-init
loop-at-init c = record {
  gains = no_firsts c.args.plans.now (children_of c.args.shape.now) c.args.path.now c.args.start c.args.out.now;
  passed = passed_none c.args.plans.now (children_of c.args.shape.now) c.args.path.now c.args.start;
}

pub returns : goal.returns
returns c =
    firsts_all c.args.plans.now (children_of c.args.shape.now) c.args.path.now c.args.start c.loop-at.at c.args.out.now c.loop-at.out c.requires.within
    (omega (arith, c.loop-at-test.false, c.child_count-at-end.ensures)) (omega (arith, c.loop-at.auto.at-end, c.requires.within, c.child_count-at-end.ensures)) c.loop-at.invariant.gains
