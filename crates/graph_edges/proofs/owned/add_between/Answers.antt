use Rattle.std.proofs.Common.{◌≡◌, ℕ, length, subst, arith}
use Rattle.flow_links.specs.inner.Gains.{Gains}
use Rattle.flow_links.proofs.SetLemmas.{Gains-none, Gains-same, Gains-then}
use Rattle.path_tree.specs.Shapes.{children_of}
use Rattle.graph_edges.specs.inner.Taken.{LeavesOneItem}
use Rattle.graph_edges.proofs.Listing.{no_items, one_item}
use Rattle.graph_edges.proofs.owned.add_between.Goals as goal

pub loop-at-init : goal.loop-at-init
loop-at-init c = Gains-none c.args.out.now (no_items c.args.plans.now (children_of c.args.shape.now) c.args.path.now)

pub loop-at-preserved : goal.loop-at-preserved
loop-at-preserved c = Gains-same (Gains-then c.loop-at.invariant c.in_ok-add_behind.ensures) (one_item c.args.plans.now (children_of c.args.shape.now) c.args.path.now c.loop-at.at)

pub returns : goal.returns
returns c =
    subst (λ (m : ℕ). Gains c.args.out.now c.loop-at.out (LeavesOneItem c.args.plans.now (children_of c.args.shape.now) c.args.path.now m))
    (let e : c.loop-at.at ≡ length (children_of c.args.shape.now) = omega (arith, c.loop-at-test.false, c.loop-at.auto.at-end, c.child_count-at-end.ensures) in e) c.loop-at.invariant
