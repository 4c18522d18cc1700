use Rattle.std.proofs.Common.{ap, ◌∙◌, ◌++◌}
use Rattle.flow_syntax.specs.DeclFaults.{type_lattices}
use Rattle.check_decls.specs.declared.unknown.Space.TheVariants as space
use Rattle.check_decls.specs.inner.Noting.{IsUndeclared, knows}
use Rattle.check_decls.proofs.Laws.{Gathers-append, Gathers-those}
use Rattle.check_decls.proofs.Layers.{lattices_of_both, lattices_of_map}
use Rattle.check_decls.proofs.unknown.+note_type_lattices.Goals as goal

pub returns-in-Map : goal.returns-in-Map
returns-in-Map t c =
    Gathers-those (IsUndeclared (knows c.args.names.now space.Lattices)) _ _ (ap type_lattices c.get.ensures ∙ lattices_of_map c.args.lattice.now _ c.in-Map.value c.in-Map.is) c.note_type_lattices.ensures

pub returns-in-Pair : goal.returns-in-Pair
returns-in-Pair t c =
    let unknown = IsUndeclared (knows c.args.names.now space.Lattices) in
    Gathers-those unknown _ _
    (ap (λ l. type_lattices l ++ type_lattices c.get-in-Pair-2.result.now) c.get-in-Pair.ensures ∙ ap (λ l. type_lattices c.in-Pair.a ++ type_lattices l) c.get-in-Pair-2.ensures ∙ lattices_of_both c.args.lattice.now c.in-Pair.a c.in-Pair.b c.in-Pair.is)
    (Gathers-append unknown (type_lattices c.get-in-Pair.result.now) (type_lattices c.get-in-Pair-2.result.now) c.note_type_lattices-in-Pair.ensures c.note_type_lattices-in-Pair-2.ensures)
