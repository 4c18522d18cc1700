use Rattle.std.proofs.Common.{◌≡◌, ◌++◌, take}
use Rattle.std.specs.List.{flat_map}
use Rattle.flow_term.specs.Paths.{step_text}
use Rattle.value_text.proofs.writer.push_each.Given as goal

abbrev pub invariant-loop-step : goal.invariant-loop-step
invariant-loop-step l = l.bytes.items ≡ l.fn.bytes.items ++ flat_map step_text (take l.step-index l.steps)
