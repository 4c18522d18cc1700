use Rattle.check_decls.specs.declared.unknown.Space.TheVariants as space
use Rattle.check_decls.specs.inner.Noting.{IsUndeclared, knows}
use Rattle.check_base.proofs.GathersLaws.{Gathers-then}
use Rattle.check_decls.proofs.Laws.{Gathers-those, Gathers-where}
use Rattle.check_decls.proofs.section.note_lattice.Goals as goal

pub returns : goal.returns
returns c =
    Gathers-then (Gathers-then (Gathers-where c.is_missized.ensures.0 c.is_missized.ensures.1 c.note_if.ensures) c.note_unknown.ensures)
    (Gathers-those (IsUndeclared (knows c.args.names.now (space.Elements c.args.number))) _ _ c.as_slice.ensures c.note_all_unknown.ensures)
