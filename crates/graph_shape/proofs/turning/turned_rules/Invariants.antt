use Rattle.std.proofs.Common.{◌≡◌, map, take}
use Rattle.graph_shape.specs.Mirrored.{turn}
use Rattle.graph_shape.proofs.turning.turned_rules.Given as goal

abbrev pub invariant-loop-steps : goal.invariant-loop-steps
invariant-loop-steps l = l.turned ≡ map (map turn) (take l.steps-index l.rules)
