use Rattle.std.proofs.Common.{◌≡◌, ◌==◌, find, length, drop}
use Rattle.check_trees.specs.inner.Index.{numbered}
use Rattle.check_trees.proofs.constructors.with_count.Given as goal

-- the first that is left is the first of all
abbrev pub invariant-loop-number : goal.invariant-loop-number
invariant-loop-number l = find (λ c. length c.args == l.count) (numbered l.constructors (drop l.number-index l.numbers)) ≡ find (λ c. length c.args == l.count) (numbered l.constructors l.numbers)
