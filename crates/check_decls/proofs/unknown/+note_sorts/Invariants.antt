use Rattle.std.proofs.Common.{take}
use Rattle.std.specs.List.{flat_map}
use Rattle.check_base.specs.Earliest.{Gathers}
use Rattle.flow_syntax.specs.DeclFaults.{sort_names}
use Rattle.check_decls.specs.declared.unknown.Space.TheVariants as space
use Rattle.check_decls.specs.inner.Noting.{AreUndeclared, knows}
use Rattle.check_decls.proofs.unknown.+note_sorts.Given as goal

-- the names of the sorts before this one were looked at
abbrev pub invariant-note_all_sorts-loop-sort : goal.invariant-note_all_sorts-loop-sort
invariant-note_all_sorts-loop-sort l = Gathers l.fn.earliest l.earliest (AreUndeclared (knows l.names space.Sorts) (flat_map sort_names (take l.sort-index l.sorts)))
