use Rattle.check_base.specs.Earliest.{FirstHave, Gathers}
use Rattle.check_decls.specs.inner.Sections.{LatticeFaults}
use Rattle.check_decls.proofs.section.note_lattices.Given as goal

-- the lattices before this one were looked at
abbrev pub invariant-loop-number : goal.invariant-loop-number
invariant-loop-number l = Gathers l.fn.earliest l.earliest (FirstHave (LatticeFaults l.names) l.number l.lattices)
