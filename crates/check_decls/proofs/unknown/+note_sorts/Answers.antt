use Rattle.std.proofs.Common.{ap, ◌∙◌}
use Rattle.std.specs.List.{flat_map}
use Rattle.flow_syntax.specs.DeclFaults.{sort_names}
use Rattle.check_decls.specs.declared.unknown.Space.TheVariants as space
use Rattle.check_decls.specs.inner.Noting.{IsUndeclared, knows}
use Rattle.check_decls.proofs.Laws.{Gathers-more, Gathers-no_item, Gathers-those, Gathers-whole}
use Rattle.check_decls.proofs.Layers.{names_of_items, names_of_tuple}
use Rattle.check_decls.proofs.unknown.+note_sorts.Goals as goal

pub note_sorts-returns-in-Items : goal.note_sorts-returns-in-Items
note_sorts-returns-in-Items t c =
    Gathers-those (IsUndeclared (knows c.args.names.now space.Sorts)) _ _ (ap sort_names c.get.ensures ∙ names_of_items c.args.sort.now c.in-Items.inner c.in-Items.is) c.note_sorts.ensures

pub note_sorts-returns-in-Tuple : goal.note_sorts-returns-in-Tuple
note_sorts-returns-in-Tuple t c =
    Gathers-those (IsUndeclared (knows c.args.names.now space.Sorts)) _ _ (ap (flat_map sort_names) c.as_slice.ensures ∙ names_of_tuple c.args.sort.now c.in-Tuple.parts c.in-Tuple.is) c.note_all_sorts.ensures

pub note_all_sorts-loop-sort-init : goal.note_all_sorts-loop-sort-init
note_all_sorts-loop-sort-init t c = Gathers-no_item (IsUndeclared (knows c.args.names.now space.Sorts)) c.args.earliest.now

pub note_all_sorts-loop-sort-preserved : goal.note_all_sorts-loop-sort-preserved
note_all_sorts-loop-sort-preserved t c =
    Gathers-more (IsUndeclared (knows c.args.names.now space.Sorts)) sort_names c.args.sorts.now c.loop-sort.sort-index c.sort-item.result c.loop-sort-test.true c.sort-item.is c.loop-sort.invariant c.note_sorts.ensures

pub note_all_sorts-returns : goal.note_all_sorts-returns
note_all_sorts-returns t c =
    Gathers-whole (IsUndeclared (knows c.args.names.now space.Sorts)) (flat_map sort_names) c.args.sorts.now c.loop-sort.sort-index c.loop-sort-test.false c.loop-sort.invariant
