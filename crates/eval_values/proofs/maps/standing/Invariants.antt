use Rattle.std.proofs.Common.{◌≡◌, drop}
use Rattle.value_domains.specs.Values.{pairs_of, value_at}
use Rattle.eval_values.proofs.maps.standing.Given as goal

abbrev pub invariant-loop-entry : goal.invariant-loop-entry
invariant-loop-entry l = value_at (pairs_of (drop l.entry-index l.entries)) l.key ≡ value_at (pairs_of l.entries) l.key
