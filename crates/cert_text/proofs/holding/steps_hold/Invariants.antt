use Rattle.std.specs.Prelude.{All}
use Rattle.std.proofs.Common.{take}
use Rattle.cert_text.specs.inner.Bodies.{HasStepPaths}
use Rattle.cert_text.proofs.holding.steps_hold.Given as goal

abbrev pub invariant-loop-step : goal.invariant-loop-step
invariant-loop-step l = All HasStepPaths (take l.step-index l.steps)
