use Rattle.std.proofs.Common.{◌≡◌, drop}
use Rattle.flow_syntax.specs.Matching.{fit_all}
use Rattle.flow_match.proofs.matching.+matching.Given as goal

abbrev pub invariant-are_matches-loop-i : goal.invariant-are_matches-loop-i
invariant-are_matches-loop-i l = fit_all (drop l.i l.patterns) (drop l.i l.terms) ≡ fit_all l.patterns l.terms
