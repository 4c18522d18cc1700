use Rattle.std.proofs.Common.{ap, ◌∙◌, sym, Some}
use Rattle.flow_term.proofs.Lists.{set_back, after_error}
use Rattle.path_tree.proofs.tree.+set_value.Goals as goal

pub set_in_item-returns-in-Some-clause-unchanged :
    goal.set_in_item-returns-in-Some-clause-unchanged
set_in_item-returns-in-Some-clause-unchanged g t c = after_error c.set_value.result c.set_value.ensures.unchanged (λ e h.
    (h.0, set_back c.args.items.now c.args.at c.set_value.new.self (sym c.in-Some.ensures.item ∙ ap Some (sym h.1))))
