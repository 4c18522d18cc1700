use Rattle.std.proofs.Common.{refl}
use Rattle.cert_text.specs.inner.Bodies.{HasStepPaths}
use Rattle.value_text.proofs.Forms.{all_taken, one_more}
use Rattle.cert_text.proofs.holding.steps_hold.Goals as goal

pub loop-step-preserved : goal.loop-step-preserved
loop-step-preserved c = one_more HasStepPaths _ _ _ c.loop-step-test.true c.step-item.is c.loop-step.invariant c.step_holds.ensures

pub returns-clause-paths : goal.returns-clause-paths
returns-clause-paths c = (all_taken HasStepPaths _ _ c.loop-step-test.false c.loop-step.invariant).0 refl
