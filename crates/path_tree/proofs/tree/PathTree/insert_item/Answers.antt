use Rattle.std.proofs.Common.{ap, ◌∙◌}
use Rattle.std.specs.Prelude.{insert}
use Rattle.path_tree.proofs.Changes.{stays_position, taken_and_put}
use Rattle.path_tree.proofs.tree.PathTree.insert_item.Goals as goal

pub unreachable-requires-in_default-set_children :
    goal.unreachable-requires-in_default-set_children
unreachable-requires-in_default-set_children g c =
    stays_position c.args.path.now c.args.self.now c.set_children.new.self c.new.result c.in-Ok.items c.in-Ok.ensures.old c.in-Ok.ensures.new c.in_default-set_children.ensures.no_position

pub returns-clause-new : goal.returns-clause-new
returns-clause-new g c =
    taken_and_put (λ items. insert items c.args.at c.args.new) c.args.path.now c.args.self.now c.set_children.new.self c.set_children-2.new.self c.new.result c.in-Ok.items c.from_vec.result
    c.in-Ok.ensures.old c.in-Ok.ensures.new
    (c.from_vec.ensures ∙ c.moved_with-items.ensures ∙ ap (λ items. insert items c.args.at c.args.new) c.into_vec.ensures)
    c.in-Ok-set_children.ensures.new
