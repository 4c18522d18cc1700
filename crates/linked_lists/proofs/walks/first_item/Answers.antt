use Rattle.std.proofs.Common.{◌∙◌, ap}
use Rattle.linked_lists.proofs.WalkLemmas.{first_is}
use Rattle.linked_lists.proofs.walks.first_item.Goals as goal

pub returns : goal.returns
returns c = ap (λ l. l.forth) c.any_link_of.ensures ∙ first_is _ _ c.args.list c.requires
