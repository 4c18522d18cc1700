use Rattle.std.proofs.Common.{◌∙◌, ap, sym, length}
use Rattle.linked_lists.specs.Chains.{walk}
use Rattle.linked_lists.proofs.ChainLemmas.{list_in_model}
use Rattle.linked_lists.proofs.walks.walk_from.Goals as goal

pub returns : goal.returns
returns c = ap (λ l. walk c.args.links.now (length c.args.links.now) l.forth) c.any_link_of.ensures ∙ sym (list_in_model c.args.heads.now c.args.links.now c.args.list)
