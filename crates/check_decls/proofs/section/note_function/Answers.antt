use Rattle.std.proofs.Common.{List, subst}
use Rattle.flow_syntax.specs.declared.spec.Named.{Named}
use Rattle.check_decls.specs.declared.unknown.Space.TheVariants as space
use Rattle.check_base.specs.Tables.{lattice_in}
use Rattle.check_base.specs.Earliest.{Gathers}
use Rattle.check_base.proofs.GathersLaws.{Gathers-then}
use Rattle.check_decls.specs.inner.Noting.{IsUndeclared, knows}
use Rattle.check_decls.specs.inner.Sections.{EntryFaults}
use Rattle.check_decls.proofs.Laws.{Gathers-those, Gathers-where}
use Rattle.check_decls.proofs.section.note_function.Goals as goal

pub returns : goal.returns
returns c =
    Gathers-then
    (Gathers-then
    (Gathers-then (Gathers-those (IsUndeclared (knows c.args.names.now space.Lattices)) _ _ c.as_slice.ensures c.note_all_unknown.ensures) c.note_unknown.ensures)
    (subst (λ (entries : List Named). Gathers c.note_unknown.new.earliest c.note_entries.new.earliest (EntryFaults c.args.names.now (lattice_in c.args.names.now c.args.function.now.result.text) entries)) c.as_slice-2.ensures c.note_entries.ensures))
    (Gathers-where c.is_incomplete-is_fault.ensures.0 c.is_incomplete-is_fault.ensures.1 c.note_if.ensures)
