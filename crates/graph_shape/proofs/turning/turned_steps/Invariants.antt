use Rattle.std.proofs.Common.{◌≡◌, map, take}
use Rattle.graph_shape.specs.Mirrored.{turn}
use Rattle.graph_shape.proofs.turning.turned_steps.Given as goal

abbrev pub invariant-loop-step : goal.invariant-loop-step
invariant-loop-step l = l.turned ≡ map turn (take l.step-index l.steps)
