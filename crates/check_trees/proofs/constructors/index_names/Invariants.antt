use Rattle.std.proofs.Common.{take}
use Rattle.check_trees.specs.inner.Index.{IsIndexOfFirst}
use Rattle.check_trees.proofs.constructors.index_names.Given as goal

abbrev pub invariant-loop-number : goal.invariant-loop-number
invariant-loop-number l = IsIndexOfFirst l.constructors (take l.number l.constructors) l.by_name
