use Rattle.std.proofs.Common.{◌≡◌, ◌-◌, length}
use Rattle.std.specs.Prelude.{slice_index}
use Rattle.linked_lists.specs.Chains.{listed}
use Rattle.linked_lists.proofs.walks.item_from_last.Given as goal

abbrev pub invariant-loop-step : goal.invariant-loop-step
invariant-loop-step l = l.item ≡ slice_index (listed l.heads l.links l.list) (length (listed l.heads l.links l.list) - 1 - l._step)
