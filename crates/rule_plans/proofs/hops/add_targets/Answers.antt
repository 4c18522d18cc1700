use Rattle.std.proofs.Common.{◌≡◌, ◌+◌, List, [], ◌∷◌, ◌++◌, take, get_or, sym, subst}
use Rattle.std.proofs.lemmas.List.{take_more}
use Rattle.flow_links.specs.inner.Gains.{Gains}
use Rattle.rule_plans.specs.declared.stop.Stop.TheVariants.{Entry}
use Rattle.rule_plans.specs.declared.stop.Step.{Step}
use Rattle.rule_plans.specs.Hops.{IsStepOf}
use Rattle.flow_links.proofs.Insertions.{longer_still}
use Rattle.rule_plans.proofs.Hopping.{steps_more}
use Rattle.rule_plans.proofs.hops.add_targets.Goals as goal

pub loop-step-preserved : goal.loop-step-preserved
loop-step-preserved c =
    let x : Step = get_or c.args.steps.now c.loop-step.step-index (record { from = Entry; to = Entry }) in
    let longer : take (c.loop-step.step-index + 1) c.args.steps.now ≡ take c.loop-step.step-index c.args.steps.now ++ x ∷ [] =
    take_more c.args.steps.now c.loop-step.step-index (record { from = Entry; to = Entry }) c.loop-step-test.true in
    record {
      gains = subst (λ (xs : List Step). Gains c.args.found.now.keys c.add_target.new.found.keys (IsStepOf xs c.args.from)) (sym longer)
          (steps_more c.args.found.now.keys c.loop-step.found.keys c.add_target.new.found.keys (take c.loop-step.step-index c.args.steps.now) x c.args.from c.loop-step.invariant.gains c.in_ok-add_target.ensures.gains);
      order = longer_still c.args.found.now.keys c.loop-step.found.keys c.add_target.new.found.keys c.loop-step.invariant.order c.in_ok-add_target.ensures.order;
    }
