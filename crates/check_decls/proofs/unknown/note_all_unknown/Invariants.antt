use Rattle.std.proofs.Common.{take}
use Rattle.check_base.specs.Earliest.{Gathers}
use Rattle.check_decls.specs.inner.Noting.{AreUndeclared, knows}
use Rattle.check_decls.proofs.unknown.note_all_unknown.Given as goal

-- the names before this one were looked at
abbrev pub invariant-loop-name : goal.invariant-loop-name
invariant-loop-name l = Gathers l.fn.earliest l.earliest (AreUndeclared (knows l.names l.space) (take l.name-index l.list))
