use Rattle.std.proofs.Common.{◌≡◌, ◌<◌, ◌∙◌, ℕ, List, Some, get_or, length, sym, ap, subst, arith}
use Rattle.std.specs.Prelude.{slice_get}
use Rattle.std.proofs.lemmas.Option.{slice_get-get_or, slice_get_within}
use Rattle.flow_term.proofs.Outcomes.{on_ok}
use Rattle.flow_links.specs.inner.Gains.{Gains}
use Rattle.flow_links.proofs.SetLemmas.{Gains-none, Gains-same, Gains-then}
use Rattle.path_tree.specs.declared.tree.PathTree.{PathTree}
use Rattle.path_tree.specs.Shapes.{children_of}
use Rattle.graph_shape.specs.declared.kept.Kept.{Kept}
use Rattle.graph_shape.proofs.OuterNodes.{few_got}
use Rattle.graph_shape.proofs.PartSizes.{part_count, part_smaller}
use Rattle.graph_edges.specs.inner.Taken.{IsEdgeInChildren}
use Rattle.graph_edges.proofs.Walking.{child_edges, edges_below, no_children, one_child}
use Rattle.graph_edges.proofs.walk.+walk.Goals as goal

pub add_below-returns : goal.add_below-returns
add_below-returns t c = on_ok c.add_children.result c.add_children.ensures (λ g. Gains-same (Gains-then c.in_ok-add_here.ensures g) (edges_below c.args.plans.now c.args.entered c.args.shape.now c.args.path.now))

pub add_children-loop-at-init : goal.add_children-loop-at-init
add_children-loop-at-init t c = Gains-none c.args.out.now (no_children c.args.plans.now c.args.entered c.args.shape.now c.args.path.now)

pub add_children-loop-at-preserved : goal.add_children-loop-at-preserved
add_children-loop-at-preserved t c = Gains-same (Gains-then c.loop-at.invariant c.in_ok-add_child.ensures) (one_child c.args.plans.now c.args.entered c.args.shape.now c.args.path.now c.loop-at.at)

pub add_children-returns : goal.add_children-returns
add_children-returns t c =
    subst (λ (m : ℕ). Gains c.args.out.now c.loop-at.out (IsEdgeInChildren c.args.plans.now c.args.entered c.args.shape.now c.args.path.now m))
    (let e : c.loop-at.at ≡ length (children_of c.args.shape.now) = omega (arith, c.loop-at-test.false, c.loop-at.auto.at-end, c.child_count-at-end.ensures) in e) c.loop-at.invariant

pub add_child-returns-in-None : goal.add_child-returns-in-None
add_child-returns-in-None t c = Gains-none c.args.out.now (λ e r. absurd (omega (arith, slice_get_within (children_of c.args.shape.now) c.args.at r.child r.at, c.in-None.ensures.lookup.3, ap length c.as_slice.ensures)))

pub add_child-add_below-requires : goal.add_child-add_below-requires
add_child-add_below-requires t c =
    let smaller : part_count c.in-Some.child.now < part_count c.args.shape.now = part_smaller c.args.shape.now c.in-Some.child.now c.as_slice.result.now c.args.at c.as_slice.ensures c.in-Some.ensures.lookup.3.0 c.in-Some.ensures.lookup.1 in
    (omega arith, few_got c.args.shape.now c.in-Some.child.now c.args.at c.requires.few (omega (arith, c.in-Some.ensures.lookup.3.0, ap length c.as_slice.ensures)) (c.in-Some.ensures.lookup.1 ∙ ap (λ (ss : List (PathTree Kept)). get_or ss c.args.at c.in-Some.child.now) c.as_slice.ensures))

pub add_child-returns-in_ok-below-in-Some : goal.add_child-returns-in_ok-below-in-Some
add_child-returns-in_ok-below-in-Some t c = on_ok c.add_below.result c.add_below.ensures (λ g. Gains-same g
    (child_edges c.args.plans.now c.args.entered c.args.shape.now c.args.path.now c.args.at c.in-Some.child.now c.as_slice-in-Some.result.now c.is_entered-enters.result
    (ap (λ (ss : List (PathTree Kept)). slice_get ss c.args.at) (sym c.as_slice.ensures) ∙ slice_get-get_or c.as_slice.result.now c.args.at c.in-Some.child.now c.in-Some.ensures.lookup.3.0 ∙ ap Some (sym c.in-Some.ensures.lookup.1))
    (c.as_slice-in-Some.ensures ∙ c.in_ok-below-in-Some.ensures) c.is_entered-enters.ensures))
