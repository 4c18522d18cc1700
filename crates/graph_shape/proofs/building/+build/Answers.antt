use Rattle.std.proofs.Common.{◌≡◌, ◌+◌, ◌<◌, ◌≤◌, ◌++◌, ◌∷◌, [], ℕ, List, Some, length, get_or, take, refl, sym, ap, subst, ◌∙◌, arith}
use Rattle.std.specs.Prelude.{slice_get, sum_by}
use Rattle.std.proofs.lemmas.List.{length-take-le, take_all, take_more}
use Rattle.std.proofs.lemmas.List.Sums.{sum_by_more}
use Rattle.std.proofs.lemmas.Option.{slice_get_read}
use Rattle.flow_term.specs.declared.term.Term.{Term}
use Rattle.flow_term.specs.Trees.{At, children, position_count, term_size}
use Rattle.flow_term.proofs.Sizes.{position_count_out}
use Rattle.flow_syntax.specs.Graph.{below}
use Rattle.flow_match.specs.Matched.{matched}
use Rattle.flow_match.proofs.Sizes.{at_le}
use Rattle.flow_links.proofs.SizeLemmas.{child_smaller, few_children}
use Rattle.path_tree.specs.declared.tree.PathTree.{PathTree}
use Rattle.graph_shape.specs.declared.kept.Kept.{Kept}
use Rattle.graph_shape.specs.Shapes.{AreShapesOf, HasMatches, HaveMatches}
use Rattle.graph_shape.proofs.MatchParts.{at_child, matched_as, matched_here, matches_more, matches_rolled, no_matches, number_is}
use Rattle.graph_shape.proofs.Passable.{no_shapes, shapes_more}
use Rattle.graph_shape.proofs.ShapeParts.{rolled}
use Rattle.graph_shape.proofs.building.+build.Goals as goal

pub build-build_children-requires : goal.build-build_children-requires
build-build_children-requires g t c κs within = (omega arith, (within.0, (within.1, (c.requires.can, c.requires.here))))

pub build-kept-requires : goal.build-kept-requires
build-kept-requires g t c = omega (arith, at_le c.args.tree.now c.args.path.now c.args.term.now c.requires.here, c.requires.can.small)

pub build-returns-clause-shape : goal.build-returns-clause-shape
build-returns-clause-shape g t c =
    let here : c.in_ok-found.found ≡ matched (g.R.RuleSource.spec c.args.rules.now) c.args.term.now c.args.path.now =
    matched_here (g.R.RuleSource.spec c.args.rules.now) c.args.tree.now c.args.term.now c.args.path.now c.in_ok-found.found c.requires.here c.in_ok-found.ensures.matched in
    let shapes : AreShapesOf (g.R.RuleSource.spec c.args.rules.now) (children c.args.term.now) c.as_slice.result.now =
    subst (λ (ss : List (PathTree Kept)). AreShapesOf (g.R.RuleSource.spec c.args.rules.now) (children c.args.term.now) ss) (sym c.as_slice.ensures) c.in_ok-children.ensures.shapes in
    rolled (g.R.RuleSource.spec c.args.rules.now) c.args.term.now c.in_ok-value.value c.in_ok-children.children
    (c.in_ok-value.ensures.summary (g.R.RuleSource.spec c.args.rules.now) c.requires.can.usable
    (number_is (g.R.RuleSource.spec c.args.rules.now) c.args.term.now c.args.path.now c.in_ok-found.found here) shapes)
    c.in_ok-children.ensures.shapes

pub build-returns-clause-matches : goal.build-returns-clause-matches
build-returns-clause-matches g t c =
    let here : c.in_ok-found.found ≡ matched (g.R.RuleSource.spec c.args.rules.now) c.args.term.now c.args.path.now =
    matched_here (g.R.RuleSource.spec c.args.rules.now) c.args.tree.now c.args.term.now c.args.path.now c.in_ok-found.found c.requires.here c.in_ok-found.ensures.matched in
    let kept : record { control = c.in_ok-value.value.summary.rule; hits = c.in_ok-value.value.hits } ≡ c.in_ok-found.found =
    matched_as c.in_ok-found.found c.in_ok-value.value.summary.rule c.in_ok-value.value.hits c.in_ok-value.ensures.rule c.in_ok-value.ensures.hits in
    matches_rolled (g.R.RuleSource.spec c.args.rules.now) c.args.term.now c.args.path.now c.in_ok-value.value c.in_ok-children.children (kept ∙ here) c.in_ok-children.ensures.matches

pub build-returns-clause-steps : goal.build-returns-clause-steps
build-returns-clause-steps g t c = omega (arith, c.in_ok-children.ensures.steps, c.in_ok-found.ensures.steps, c.rules_at.ensures.steps, position_count_out c.args.term.now)

pub build_children-loop-child-init : goal.build_children-loop-child-init
build_children-loop-child-init g t c = record {
  counted = refl;
  shapes = subst (λ (ss : List (PathTree Kept)). AreShapesOf (g.R.RuleSource.spec c.args.rules.now) [] ss) (sym c.new-shapes.ensures) (no_shapes (g.R.RuleSource.spec c.args.rules.now));
  matches = subst (λ (ss : List (PathTree Kept)). HaveMatches (g.R.RuleSource.spec c.args.rules.now) [] c.args.path.now ss) (sym c.new-shapes.ensures) (no_matches (g.R.RuleSource.spec c.args.rules.now) c.args.path.now);
  steps = omega arith;
}

pub build_children-build-requires : goal.build_children-build-requires
build_children-build-requires g t c κs within =
    let smaller : term_size c.child-item.result < term_size c.args.term.now =
    child_smaller c.args.term.now c.children-child-items.result.now c.loop-child.child-index c.child-item.result c.children-child-items.ensures c.loop-child-test.true c.child-item.is in
    let is : slice_get (children c.args.term.now) c.loop-child.child-index ≡ Some c.child-item.result =
    subst (λ (xs : List Term). slice_get xs c.loop-child.child-index ≡ Some c.child-item.result) c.children-child-items.ensures
    (slice_get_read c.children-child-items.result.now (length c.children-child-items.result.now) c.loop-child.child-index c.child-item.result refl c.loop-child-test.true c.child-item.is) in
    let place : below c.args.path.now c.loop-child.child-index ≡ c.in_ok-below.below =
    ap (below c.args.path.now) (sym c.loop-child.invariant.counted) ∙ ap (λ (p : List ℕ). below p c.loop-child.n) (sym c.as_slice.ensures) ∙ sym c.in_ok-below.ensures in (
      omega arith,
      (
        within.0,
        (
          within.1,
          (
            c.requires.can,
            subst (λ (p : List ℕ). At c.args.tree.now p ≡ Some c.child-item.result) place
                (at_child c.args.tree.now c.args.term.now c.child-item.result c.args.path.now c.loop-child.child-index c.requires.here is),
          ),
        ),
      ),
    )

pub build_children-overflow_add-n : goal.build_children-overflow_add-n
build_children-overflow_add-n g t c =
    let small : term_size c.args.term.now ≤ term_size c.args.tree.now = at_le c.args.tree.now c.args.path.now c.args.term.now c.requires.here in
    omega (arith, small, c.requires.can.small, few_children c.args.term.now, ap length c.children-child-items.ensures, c.loop-child.invariant.counted)

pub build_children-loop-child-preserved : goal.build_children-loop-child-preserved
build_children-loop-child-preserved g t c =
    let within : c.loop-child.child-index < length (children c.args.term.now) = omega (arith, c.loop-child-test.true, ap length c.children-child-items.ensures) in
    let item : c.child-item.result ≡ get_or (children c.args.term.now) c.loop-child.child-index c.child-item.result =
    c.child-item.is ∙ ap (λ (xs : List Term). get_or xs c.loop-child.child-index c.child-item.result) c.children-child-items.ensures in
    let longer : take (c.loop-child.child-index + 1) (children c.args.term.now) ≡ take c.loop-child.child-index (children c.args.term.now) ++ c.child-item.result ∷ [] =
    take_more (children c.args.term.now) c.loop-child.child-index c.child-item.result within
    ∙ ap (λ (y : Term). take c.loop-child.child-index (children c.args.term.now) ++ y ∷ []) (sym item) in
    let place : c.in_ok-below.below ≡ below c.args.path.now (length (take c.loop-child.child-index (children c.args.term.now))) =
    c.in_ok-below.ensures ∙ ap (λ (p : List ℕ). below p c.loop-child.n) c.as_slice.ensures
    ∙ ap (below c.args.path.now) (c.loop-child.invariant.counted ∙ sym (length-take-le c.loop-child.child-index (children c.args.term.now) (omega (arith, within)))) in
    record {
      counted = omega (arith, c.loop-child.invariant.counted);
      shapes = subst (λ (ts : List Term). AreShapesOf (g.R.RuleSource.spec c.args.rules.now) ts c.push.new.self) (sym longer)
          (subst (λ (ss : List (PathTree Kept)). AreShapesOf (g.R.RuleSource.spec c.args.rules.now) (take c.loop-child.child-index (children c.args.term.now) ++ c.child-item.result ∷ []) ss) (sym c.in_ok-push.ensures.ok)
          (shapes_more (g.R.RuleSource.spec c.args.rules.now) (take c.loop-child.child-index (children c.args.term.now)) c.loop-child.shapes c.child-item.result c.in_ok-shape.shape c.loop-child.invariant.shapes c.in_ok-shape.ensures.shape));
      matches = subst (λ (ts : List Term). HaveMatches (g.R.RuleSource.spec c.args.rules.now) ts c.args.path.now c.push.new.self) (sym longer)
          (subst (λ (ss : List (PathTree Kept)). HaveMatches (g.R.RuleSource.spec c.args.rules.now) (take c.loop-child.child-index (children c.args.term.now) ++ c.child-item.result ∷ []) c.args.path.now ss) (sym c.in_ok-push.ensures.ok)
          (matches_more (g.R.RuleSource.spec c.args.rules.now) (take c.loop-child.child-index (children c.args.term.now)) c.loop-child.shapes c.args.path.now c.child-item.result c.in_ok-shape.shape c.loop-child.invariant.shapes.count c.loop-child.invariant.matches
          (subst (λ (p : List ℕ). HasMatches (g.R.RuleSource.spec c.args.rules.now) c.child-item.result p c.in_ok-shape.shape) place c.in_ok-shape.ensures.matches)));
      steps = omega (arith, c.in_ok-shape.ensures.steps, c.loop-child.invariant.steps, sum_by_more position_count (children c.args.term.now) c.loop-child.child-index c.child-item.result within, ap position_count item);
    }

pub build_children-returns-clause-shapes : goal.build_children-returns-clause-shapes
build_children-returns-clause-shapes g t c =
    subst (λ (ts : List Term). AreShapesOf (g.R.RuleSource.spec c.args.rules.now) ts c.loop-child.shapes)
    (take_all c.loop-child.child-index (children c.args.term.now) (omega (arith, c.loop-child-test.false, ap length c.children-child-items.ensures))) c.loop-child.invariant.shapes

pub build_children-returns-clause-matches : goal.build_children-returns-clause-matches
build_children-returns-clause-matches g t c =
    subst (λ (ts : List Term). HaveMatches (g.R.RuleSource.spec c.args.rules.now) ts c.args.path.now c.loop-child.shapes)
    (take_all c.loop-child.child-index (children c.args.term.now) (omega (arith, c.loop-child-test.false, ap length c.children-child-items.ensures))) c.loop-child.invariant.matches

pub build_children-returns-clause-steps : goal.build_children-returns-clause-steps
build_children-returns-clause-steps g t c =
    c.loop-child.invariant.steps ∙ ap (λ (ts : List Term). c.args.steps.now + sum_by position_count ts)
    (take_all c.loop-child.child-index (children c.args.term.now) (omega (arith, c.loop-child-test.false, ap length c.children-child-items.ensures)))
