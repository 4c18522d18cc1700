use Rattle.std.proofs.Common.{ap, ◌∙◌, sym, Some}
use Rattle.flow_term.proofs.Lists.{set_back, after_error}
use Rattle.path_tree.proofs.tree.+set_children.Goals as goal

pub set_children_in_item-returns-in-Some-clause-unchanged :
    goal.set_children_in_item-returns-in-Some-clause-unchanged
set_children_in_item-returns-in-Some-clause-unchanged g t c = after_error c.set_children.result c.set_children.ensures.unchanged (λ e h.
    (h.0, set_back c.args.items.now c.args.at c.set_children.new.self (sym c.in-Some.ensures.item ∙ ap Some (sym h.1))))
