use Rattle.std.proofs.Common.{sym, ◌∙◌}
use Rattle.std.proofs.lemmas.Bool.{lt-ltb, ltb-true}
use Rattle.flow_syntax.specs.DeclFaults.{type_depth, type_limit}
use Rattle.flow_syntax.specs.Types.{lattice_of}
use Rattle.check_base.proofs.GathersLaws.{Gathers-then}
use Rattle.check_decls.proofs.Laws.{Gathers-where}
use Rattle.check_decls.proofs.section.note_property.Goals as goal

pub returns : goal.returns
returns c =
    Gathers-then
    (Gathers-then (Gathers-then c.note_type_enums.ensures c.note_type_lattices.ensures) (Gathers-where (λ h. sym c.has_loose_int.ensures ∙ h) (λ h. c.has_loose_int.ensures ∙ h) c.note_if.ensures))
    (Gathers-where (λ h. ltb-true type_limit (type_depth (lattice_of c.args.property.now.lattice)) (sym c.is_deeper.ensures ∙ h)) (λ h. c.is_deeper.ensures ∙ lt-ltb type_limit (type_depth (lattice_of c.args.property.now.lattice)) h)
    c.note_if-2.ensures)
