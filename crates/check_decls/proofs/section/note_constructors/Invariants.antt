use Rattle.std.proofs.Common.{take}
use Rattle.check_base.specs.Earliest.{Gathers}
use Rattle.check_decls.specs.inner.Noting.{OneHas}
use Rattle.check_decls.specs.inner.Sections.{ConstructorFaults}
use Rattle.check_decls.proofs.section.note_constructors.Given as goal

-- the constructors before this one were looked at
abbrev pub invariant-loop-constructor : goal.invariant-loop-constructor
invariant-loop-constructor l = Gathers l.fn.earliest l.earliest (OneHas (ConstructorFaults l.names) (take l.constructor-index l.constructors))
