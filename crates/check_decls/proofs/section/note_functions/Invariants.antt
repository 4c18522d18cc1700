use Rattle.std.proofs.Common.{take}
use Rattle.check_base.specs.Earliest.{Gathers}
use Rattle.check_decls.specs.inner.Noting.{OneHas}
use Rattle.check_decls.specs.inner.Sections.{FunctionFaults}
use Rattle.check_decls.proofs.section.note_functions.Given as goal

-- the functions before this one were looked at
abbrev pub invariant-loop-function : goal.invariant-loop-function
invariant-loop-function l = Gathers l.fn.earliest l.earliest (OneHas (FunctionFaults l.spec l.names) (take l.function-index l.functions))
