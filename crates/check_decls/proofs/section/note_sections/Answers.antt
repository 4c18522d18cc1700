use Rattle.std.proofs.Common.{List, subst}
use Rattle.flow_syntax.specs.declared.tables.TableDecl.{TableDecl}
use Rattle.check_base.specs.Earliest.{Gathers, SomeHas}
use Rattle.check_base.proofs.GathersLaws.{Gathers-then}
use Rattle.check_decls.specs.inner.Sections.{FunctionFaults, LatticeFaults, PropertyFaults, RuleFaults}
use Rattle.check_decls.proofs.Laws.{Gathers-those}
use Rattle.check_decls.proofs.section.note_sections.Goals as goal

pub returns : goal.returns
returns c =
    Gathers-then
    (Gathers-then
    (Gathers-then
    (Gathers-then c.note_signature.ensures
    (subst (λ (ls : List TableDecl). Gathers c.note_signature.new.earliest c.note_lattices.new.earliest (SomeHas (LatticeFaults c.args.names.now) ls)) c.as_slice.ensures c.note_lattices.ensures))
    (Gathers-those (FunctionFaults c.args.spec.now c.args.names.now) _ _ c.as_slice-2.ensures c.note_functions.ensures))
    (Gathers-those (PropertyFaults c.args.names.now) _ _ c.as_slice-3.ensures c.note_properties.ensures))
    (Gathers-those (RuleFaults c.args.spec.now c.args.names.now) _ _ c.as_slice-4.ensures c.note_rules.ensures)
