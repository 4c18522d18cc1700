use Rattle.std.proofs.Common.{◌≡◌, ◌+◌, drop}
use Rattle.eval_values.specs.inner.Maps.{lesser_count}
use Rattle.eval_values.proofs.maps.lesser_count.Given as goal

abbrev pub invariant-loop-entry : goal.invariant-loop-entry
invariant-loop-entry l = (l.count ≡ l.entry-index) × (lesser_count l.key l.entries ≡ l.count + lesser_count l.key (drop l.entry-index l.entries))
