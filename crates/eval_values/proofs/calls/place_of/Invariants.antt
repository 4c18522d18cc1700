use Rattle.std.proofs.Common.{◌≡◌, ◌+◌, drop}
use Rattle.value_domains.specs.Domains.{place_in}
use Rattle.eval_values.proofs.calls.place_of.Given as goal

abbrev pub invariant-loop-at : goal.invariant-loop-at
invariant-loop-at l = place_in l.names l.name ≡ l.at + place_in (drop l.at l.names) l.name
