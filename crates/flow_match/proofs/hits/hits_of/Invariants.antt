use Rattle.std.proofs.Common.{◌≡◌, ◌++◌, drop}
use Rattle.flow_match.specs.Matched.{hits_from}
use Rattle.flow_match.proofs.hits.hits_of.Given as goal

abbrev pub invariant-loop-n : goal.invariant-loop-n
invariant-loop-n g l = l.hits ++ hits_from (g.F.Firsts.meant l.rules).rules l.term l.path l.n (drop l.n l.properties) ≡ hits_from (g.F.Firsts.meant l.rules).rules l.term l.path 0 l.properties
