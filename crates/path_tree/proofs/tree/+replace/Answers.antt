use Rattle.std.proofs.Common.{ap, ◌∙◌, sym, Some}
use Rattle.flow_term.proofs.Lists.{set_back, after_error}
use Rattle.path_tree.proofs.tree.+replace.Goals as goal

pub replace_item-returns-in-Some-clause-unchanged :
    goal.replace_item-returns-in-Some-clause-unchanged
replace_item-returns-in-Some-clause-unchanged g t c = after_error c.replace.result c.replace.ensures.unchanged (λ e h.
    (h.0, set_back c.args.items.now c.args.at c.replace.new.self (sym c.in-Some.ensures.item ∙ ap Some (sym h.1))))
