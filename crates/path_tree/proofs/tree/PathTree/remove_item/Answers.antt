use Rattle.std.proofs.Common.{Some, ap, arith, length, sym, ◌∙◌}
use Rattle.std.proofs.lemmas.Option.{slice_get-get_or}
use Rattle.std.specs.Prelude.{remove, slice_get}
use Rattle.path_tree.proofs.Changes.{below_count, item_at, stays_position, taken_and_put}
use Rattle.path_tree.proofs.tree.PathTree.remove_item.Goals as goal

pub unreachable-requires-in_default-set_children :
    goal.unreachable-requires-in_default-set_children
unreachable-requires-in_default-set_children g c =
    stays_position c.args.path.now c.args.self.now c.set_children.new.self c.new.result c.in-Ok.items c.in-Ok.ensures.old c.in-Ok.ensures.new c.in_default-set_children.ensures.no_position

pub returns-clause-old : goal.returns-clause-old
returns-clause-old g c =
    item_at c.args.path.now c.args.self.now c.in-Ok.items c.args.at c.in-Ok.ensures.old
    ∙ ap (λ items. slice_get items c.args.at) (sym c.into_vec-items.ensures)
    ∙ slice_get-get_or c.into_vec-items.result.items c.args.at c.remove-item.result
    (omega (arith, below_count c.args.path.now c.args.self.now c.in-Ok.items c.in-Some.count c.args.at c.in-Ok.ensures.old (sym c.child_count.ensures ∙ c.in-Some.is) (omega (arith, c.if-count-at.false)), ap length c.into_vec-items.ensures))
    ∙ ap Some (sym c.remove-item.ensures.value)

pub returns-clause-new : goal.returns-clause-new
returns-clause-new g c =
    taken_and_put (λ items. remove items c.args.at) c.args.path.now c.args.self.now c.set_children.new.self c.set_children-2.new.self c.new.result c.in-Ok.items c.from_vec.result
    c.in-Ok.ensures.old c.in-Ok.ensures.new
    (c.from_vec.ensures ∙ c.remove-item.ensures.items ∙ ap (λ items. remove items c.args.at) c.into_vec-items.ensures)
    c.in-Ok-set_children.ensures.new
