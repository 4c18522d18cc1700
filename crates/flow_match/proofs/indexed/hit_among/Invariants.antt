use Rattle.std.proofs.Common.{◌≡◌, drop}
use Rattle.flow_match.specs.Matched.{hit_by}
use Rattle.flow_match.specs.inner.Among.{first_among}
use Rattle.flow_match.proofs.indexed.hit_among.Given as goal

abbrev pub invariant-loop-number : goal.invariant-loop-number
invariant-loop-number l = first_among (hit_by l.property l.name l.boundary l.term l.path) l.rules (drop l.number-index l.numbers) ≡ first_among (hit_by l.property l.name l.boundary l.term l.path) l.rules l.numbers
