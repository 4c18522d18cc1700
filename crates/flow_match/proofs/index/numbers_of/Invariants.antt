use Rattle.std.proofs.Common.{◌≡◌, ◌++◌, drop}
use Rattle.std.specs.Option.{option_copied}
use Rattle.flow_match.specs.Index.{candidates, may_match, numbers_where, root_name}
use Rattle.flow_match.proofs.index.numbers_of.Given as goal

abbrev pub invariant-loop-n : goal.invariant-loop-n
invariant-loop-n g l = l.numbers ++ numbers_where (λ x. may_match (option_copied l.fn.head) (root_name (g.R.Patterned.pattern_in x))) l.n (drop l.n l.rules) ≡ candidates g.R.Patterned.pattern_in l.rules (option_copied l.fn.head)
