use Rattle.std.proofs.Common.{◌≡◌, drop}
use Rattle.flow_match.specs.Matched.{first_hit, first_some, hit_by}
use Rattle.flow_match.proofs.firsts.hit_in.Given as goal

abbrev pub invariant-loop-n : goal.invariant-loop-n
invariant-loop-n l = first_some (hit_by l.property l.name l.boundary l.term l.path) l.n (drop l.n l.rules) ≡ first_hit l.property l.name l.boundary l.term l.path l.rules
