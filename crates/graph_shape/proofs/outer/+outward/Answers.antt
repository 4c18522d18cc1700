use Rattle.std.proofs.Common.{refl, arith, ◌+◌, ◌<◌, ℕ, ◌++◌, ◌∷◌, [], take, get_or, length, ◌≡◌, ◌∙◌, sym, ap, subst, Some, List}
use Rattle.std.specs.Prelude.{slice_get}
use Rattle.std.proofs.lemmas.Option.{slice_get-get_or, slice_get_within}
use Rattle.flow_term.proofs.Outcomes.{on_ok}
use Rattle.flow_links.specs.inner.Gains.{Gains}
use Rattle.path_tree.specs.Shapes.{children_of}
use Rattle.flow_links.proofs.SetLemmas.{Gains-same, Gains-none}
use Rattle.std.proofs.lemmas.List.{take_more}
use Rattle.path_tree.specs.declared.tree.PathTree.{PathTree}
use Rattle.rule_plans.specs.declared.stop.Stop.{Stop}
use Rattle.rule_plans.specs.declared.stop.Stop.TheVariants.{Entry}
use Rattle.graph_shape.specs.declared.kept.Kept.{Kept}
use Rattle.graph_shape.specs.Outer.{IsOpened, IsOuterOfChild, item_at}
use Rattle.graph_shape.proofs.PartSizes.{part_count, part_smaller}
use Rattle.graph_shape.proofs.OuterNodes.{few_got, get_some, items_stop, items_more, passed_more, opened_more, found_is, outer_of_child, outer_of_list, outer_of_rule, opens_child, opens_node}
use Rattle.graph_shape.proofs.outer.+outward.Goals as goal

pub add_at-returns-in-ChildEntry : goal.add_at-returns-in-ChildEntry
add_at-returns-in-ChildEntry t c = on_ok c.add_child.result c.add_child.ensures (λ g. Gains-same g (opens_child c.args.plans.now c.args.side (children_of c.args.shape.now) c.args.path.now c.args.stop c.in-ChildEntry.k c.in-ChildEntry.is))

pub add_at-returns-in_default : goal.add_at-returns-in_default
add_at-returns-in_default t c = on_ok c.add_node.result c.add_node.ensures (λ g. Gains-same g (opens_node c.args.plans.now c.args.side (children_of c.args.shape.now) c.args.path.now c.args.stop (λ k e. c.in_default.not-ChildEntry k e)))

pub add_child-returns-in_ok-below-in-Some : goal.add_child-returns-in_ok-below-in-Some
add_child-returns-in_ok-below-in-Some t c = on_ok c.add_outer.result c.add_outer.ensures (λ g. Gains-same g
    (outer_of_child c.args.plans.now c.args.side (children_of c.args.shape.now) c.args.path.now c.args.at c.in-Some.child.now c.as_slice-in-Some.result.now
    (ap (λ (ss : List (PathTree Kept)). slice_get ss c.args.at) (sym c.as_slice.ensures) ∙ slice_get-get_or c.as_slice.result.now c.args.at c.in-Some.child.now c.in-Some.ensures.lookup.3.0 ∙ ap Some (sym c.in-Some.ensures.lookup.1)) (c.as_slice-in-Some.ensures ∙ c.in_ok-below-in-Some.ensures)))

pub add_outer-returns-then-shape : goal.add_outer-returns-then-shape
add_outer-returns-then-shape t c = on_ok c.add_items.result c.add_items.ensures (λ g. Gains-same g (outer_of_list c.args.plans.now c.args.side c.args.shape.now c.args.path.now c.if-shape.true))

pub add_outer-returns : goal.add_outer-returns
add_outer-returns t c = on_ok c.add_opened.result c.add_opened.ensures (λ g. Gains-same g (outer_of_rule c.args.plans.now c.args.side c.args.shape.now c.args.path.now c.if-shape.false (children_of c.args.shape.now) refl c.as_slice-3.result.now
    (found_is c.args.plans.now c.args.side c.args.shape.now c.args.path.now c.as_slice-3.result.now c.in_ok-found.found.keys c.steps.result.now c.as_slice-2.result.now c.as_slice.result.now c.as_slice-3.ensures.keys c.steps.ensures (c.as_slice-2.ensures ∙ c.in_ok-bits.ensures) c.as_slice.ensures c.in_ok-found.ensures)))

pub add_items-returns-then-not-is_passing : goal.add_items-returns-then-not-is_passing
add_items-returns-then-not-is_passing t c =
    let ss : List (PathTree Kept) = children_of c.args.shape.now in
    let number : c.item_number-at.result ≡ item_at c.args.side (length ss) c.loop-turn.turn = c.item_number-at.ensures.value ∙ ap (λ (n : ℕ). item_at c.args.side n c.loop-turn.turn) c.child_count-count.ensures in
    let within : item_at c.args.side (length ss) c.loop-turn.turn < length ss = omega (arith, number, c.item_number-at.ensures.within, c.child_count-count.ensures) in
    let here : (s : PathTree Kept) × (slice_get ss (item_at c.args.side (length ss) c.loop-turn.turn) ≡ Some s) = get_some ss (item_at c.args.side (length ss) c.loop-turn.turn) within in
    items_stop c.args.plans.now c.args.side ss c.args.path.now c.args.out.now c.add_child.new.out c.loop-turn.turn c.is_passing.result here.0 (omega (arith, c.loop-turn-test.true, c.child_count-count.ensures)) here.1
    (c.is_passing.ensures here.0 (ap (λ (xs : List (PathTree Kept)). slice_get xs c.item_number-at.result) c.as_slice.ensures ∙ ap (slice_get ss) number ∙ here.1)) c.if-not-is_passing.true
    (items_more c.args.plans.now c.args.side ss c.args.path.now c.args.out.now c.loop-turn.out c.add_child.new.out c.loop-turn.turn c.loop-turn.invariant.passed c.loop-turn.invariant.gains
    (subst (λ (n : ℕ). Gains c.loop-turn.out c.add_child.new.out (IsOuterOfChild c.args.plans.now c.args.side ss c.args.path.now n)) number c.in_ok-add_child.ensures))

pub add_items-loop-turn-preserved : goal.add_items-loop-turn-preserved
add_items-loop-turn-preserved t c =
    let ss : List (PathTree Kept) = children_of c.args.shape.now in
    let number : c.item_number-at.result ≡ item_at c.args.side (length ss) c.loop-turn.turn = c.item_number-at.ensures.value ∙ ap (λ (n : ℕ). item_at c.args.side n c.loop-turn.turn) c.child_count-count.ensures in
    record {
      gains = items_more c.args.plans.now c.args.side ss c.args.path.now c.args.out.now c.loop-turn.out c.add_child.new.out c.loop-turn.turn c.loop-turn.invariant.passed c.loop-turn.invariant.gains
          (subst (λ (n : ℕ). Gains c.loop-turn.out c.add_child.new.out (IsOuterOfChild c.args.plans.now c.args.side ss c.args.path.now n)) number c.in_ok-add_child.ensures);
      passed = passed_more c.args.plans.now c.args.side ss c.args.path.now c.loop-turn.turn c.is_passing.result c.loop-turn.invariant.passed
          (λ d is. c.is_passing.ensures d (ap (λ (xs : List (PathTree Kept)). slice_get xs c.item_number-at.result) c.as_slice.ensures ∙ ap (slice_get ss) number ∙ is)) c.if-not-is_passing.false;
    }

pub add_opened-loop-stop-preserved : goal.add_opened-loop-stop-preserved
add_opened-loop-stop-preserved t c =
    let u : Stop = get_or c.args.stops.now c.loop-stop.stop-index Entry in
    let longer : take (c.loop-stop.stop-index + 1) c.args.stops.now ≡ take c.loop-stop.stop-index c.args.stops.now ++ u ∷ [] = take_more c.args.stops.now c.loop-stop.stop-index Entry c.loop-stop-test.true in
    subst (λ (us : List Stop). Gains c.args.out.now c.add_at.new.out (IsOpened c.args.plans.now c.args.side (children_of c.args.shape.now) c.args.path.now us)) (sym longer)
    (opened_more c.args.plans.now c.args.side (children_of c.args.shape.now) c.args.path.now c.args.out.now c.loop-stop.out c.add_at.new.out (take c.loop-stop.stop-index c.args.stops.now) u c.loop-stop.invariant c.in_ok-add_at.ensures)

pub add_child-add_outer-requires : goal.add_child-add_outer-requires
add_child-add_outer-requires t c =
    let smaller : part_count c.in-Some.child.now < part_count c.args.shape.now = part_smaller c.args.shape.now c.in-Some.child.now c.as_slice.result.now c.args.at c.as_slice.ensures c.in-Some.ensures.lookup.3.0 c.in-Some.ensures.lookup.1 in
    (omega arith, few_got c.args.shape.now c.in-Some.child.now c.args.at c.requires.few (omega (arith, c.in-Some.ensures.lookup.3.0, ap length c.as_slice.ensures)) (c.in-Some.ensures.lookup.1 ∙ ap (λ (ss : List (PathTree Kept)). get_or ss c.args.at c.in-Some.child.now) c.as_slice.ensures))

pub add_child-returns-in-None : goal.add_child-returns-in-None
add_child-returns-in-None t c = Gains-none c.args.out.now (λ n r. absurd (omega (arith, slice_get_within (children_of c.args.shape.now) c.args.at r.child r.at, c.in-None.ensures.lookup.3, ap length c.as_slice.ensures)))
