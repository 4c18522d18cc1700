use Rattle.std.proofs.Common.{ap, ◌∙◌, ◌++◌}
use Rattle.flow_syntax.specs.DeclFaults.{enum_names}
use Rattle.check_decls.specs.declared.unknown.Space.TheVariants as space
use Rattle.check_decls.specs.inner.Noting.{IsUndeclared, knows}
use Rattle.check_decls.proofs.Laws.{Gathers-append, Gathers-those}
use Rattle.check_decls.proofs.Layers.{enums_of_pair}
use Rattle.check_decls.proofs.unknown.+note_sort_enums.Goals as goal

pub returns-in-Pair : goal.returns-in-Pair
returns-in-Pair t c =
    let unknown = IsUndeclared (knows c.args.names.now space.Enums) in
    Gathers-those unknown _ _ (ap (λ s. enum_names s ++ enum_names c.get-in-Pair.result.now) c.get.ensures ∙ ap (λ s. enum_names c.in-Pair.a ++ enum_names s) c.get-in-Pair.ensures ∙ enums_of_pair c.args.sort.now c.in-Pair.a c.in-Pair.b c.in-Pair.is)
    (Gathers-append unknown (enum_names c.get.result.now) (enum_names c.get-in-Pair.result.now) c.note_sort_enums.ensures c.note_sort_enums-in-Pair.ensures)
