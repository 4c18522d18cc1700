use Rattle.std.proofs.Common.{ap, ◌∙◌, sym, Some}
use Rattle.flow_term.proofs.Lists.{set_back, after_error}
use Rattle.flow_term.proofs.tree.+replace.Goals as goal

pub replace_item-returns-in-Some-clause-unchanged :
    goal.replace_item-returns-in-Some-clause-unchanged
replace_item-returns-in-Some-clause-unchanged t c = after_error c.replace_below.result c.replace_below.ensures.unchanged (λ e h.
    (h.0, set_back c.args.items.now c.args.at c.replace_below.new.tree (sym c.in-Some.ensures.item ∙ ap Some (sym h.1))))
