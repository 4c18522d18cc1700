use Rattle.std.proofs.Common.{take}
use Rattle.check_base.specs.Earliest.{Gathers}
use Rattle.check_decls.specs.inner.Noting.{OneHas}
use Rattle.check_decls.specs.inner.Sections.{PropertyFaults}
use Rattle.check_decls.proofs.section.note_properties.Given as goal

-- the properties before this one were looked at
abbrev pub invariant-loop-property : goal.invariant-loop-property
invariant-loop-property l = Gathers l.fn.earliest l.earliest (OneHas (PropertyFaults l.names) (take l.property-index l.properties))
