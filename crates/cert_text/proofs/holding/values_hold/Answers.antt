use Rattle.std.proofs.Common.{refl}
use Rattle.flow_term.specs.declared.value.Valued.{Valued}
use Rattle.flow_term.specs.Paths.{AreSteps}
use Rattle.value_text.proofs.Forms.{all_taken, one_more}
use Rattle.cert_text.proofs.holding.values_hold.Goals as goal

pub loop-value-preserved : goal.loop-value-preserved
loop-value-preserved c = one_more (λ (v : Valued). AreSteps v.unknown.node.path) _ _ _ c.loop-value-test.true c.value-item.is c.loop-value.invariant c.steps_are_small.ensures

pub returns-clause-paths : goal.returns-clause-paths
returns-clause-paths c = (all_taken (λ (v : Valued). AreSteps v.unknown.node.path) _ _ c.loop-value-test.false c.loop-value.invariant).0 refl
