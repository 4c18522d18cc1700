use Rattle.std.proofs.Common.{ap, ◌∙◌, ◌++◌}
use Rattle.flow_syntax.specs.DeclFaults.{enum_names, type_enums}
use Rattle.check_decls.specs.declared.unknown.Space.TheVariants as space
use Rattle.check_decls.specs.inner.Noting.{IsUndeclared, knows}
use Rattle.check_decls.proofs.Laws.{Gathers-append, Gathers-those}
use Rattle.check_decls.proofs.Layers.{enums_of_both, enums_of_flat, enums_of_map, enums_of_may, enums_of_must}
use Rattle.check_decls.proofs.unknown.+note_type_enums.Goals as goal

pub returns-in-May : goal.returns-in-May
returns-in-May t c = Gathers-those (IsUndeclared (knows c.args.names.now space.Enums)) _ _ (enums_of_may c.args.lattice.now c.in-May.sort c.in-May.is) c.note_sort_enums.ensures

pub returns-in-Must : goal.returns-in-Must
returns-in-Must t c = Gathers-those (IsUndeclared (knows c.args.names.now space.Enums)) _ _ (enums_of_must c.args.lattice.now c.in-Must.sort c.in-Must.is) c.note_sort_enums-in-Must.ensures

pub returns-in-Flat : goal.returns-in-Flat
returns-in-Flat t c = Gathers-those (IsUndeclared (knows c.args.names.now space.Enums)) _ _ (enums_of_flat c.args.lattice.now c.in-Flat.sort c.in-Flat.is) c.note_sort_enums-in-Flat.ensures

pub returns-in-Map : goal.returns-in-Map
returns-in-Map t c =
    let unknown = IsUndeclared (knows c.args.names.now space.Enums) in
    Gathers-those unknown _ _ (ap (λ l. enum_names c.in-Map.key ++ type_enums l) c.get.ensures ∙ enums_of_map c.args.lattice.now c.in-Map.key c.in-Map.value c.in-Map.is)
    (Gathers-append unknown (enum_names c.in-Map.key) (type_enums c.get.result.now) c.note_sort_enums-in-Map.ensures c.note_type_enums.ensures)

pub returns-in-Pair : goal.returns-in-Pair
returns-in-Pair t c =
    let unknown = IsUndeclared (knows c.args.names.now space.Enums) in
    Gathers-those unknown _ _
    (ap (λ l. type_enums l ++ type_enums c.get-in-Pair-2.result.now) c.get-in-Pair.ensures ∙ ap (λ l. type_enums c.in-Pair.a ++ type_enums l) c.get-in-Pair-2.ensures ∙ enums_of_both c.args.lattice.now c.in-Pair.a c.in-Pair.b c.in-Pair.is)
    (Gathers-append unknown (type_enums c.get-in-Pair.result.now) (type_enums c.get-in-Pair-2.result.now) c.note_type_enums-in-Pair.ensures c.note_type_enums-in-Pair-2.ensures)
