use Rattle.std.proofs.Common.{◌≡◌, ◌+◌, ◌++◌, ◌∷◌, [], List, get_or, take, sym, subst}
use Rattle.std.proofs.lemmas.List.{take_more}
use Rattle.flow_links.specs.inner.Gains.{Gains}
use Rattle.flow_links.proofs.SetLemmas.{Gains-none, Gains-same, Gains-then}
use Rattle.path_tree.specs.Shapes.{children_of}
use Rattle.rule_plans.specs.declared.stop.Stop.TheVariants.{Entry}
use Rattle.rule_plans.specs.declared.stop.Step.{Step}
use Rattle.graph_edges.specs.inner.Taken.{LeavesOneStep}
use Rattle.graph_edges.proofs.Listing.{no_steps, one_step}
use Rattle.graph_edges.proofs.owned.add_by_steps.Goals as goal

pub loop-step-init : goal.loop-step-init
loop-step-init c = Gains-none c.args.out.now (no_steps c.args.plans.now c.args.steps.now c.args.bits.now (children_of c.args.shape.now) c.args.path.now)

pub loop-step-preserved : goal.loop-step-preserved
loop-step-preserved c =
    let x : Step = get_or c.args.steps.now c.loop-step.step-index (record { from = Entry; to = Entry }) in
    let longer : take (c.loop-step.step-index + 1) c.args.steps.now ≡ take c.loop-step.step-index c.args.steps.now ++ x ∷ [] =
    take_more c.args.steps.now c.loop-step.step-index (record { from = Entry; to = Entry }) c.loop-step-test.true in
    subst (λ (xs : List Step). Gains c.args.out.now c.add_leaving.new.out (LeavesOneStep c.args.plans.now c.args.steps.now c.args.bits.now (children_of c.args.shape.now) c.args.path.now xs)) (sym longer)
    (Gains-same (Gains-then c.loop-step.invariant c.in_ok-add_leaving.ensures)
    (one_step c.args.plans.now c.args.steps.now c.args.bits.now (children_of c.args.shape.now) c.args.path.now (take c.loop-step.step-index c.args.steps.now) x))
