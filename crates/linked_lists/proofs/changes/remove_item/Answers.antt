use Rattle.std.proofs.Common.{◌≡◌, ◌∙◌, sym, ap, nat_eq, true}
use Rattle.std.specs.Prelude.{slice_set}
use Rattle.list_theory.specs.Lists.{has, without}
use Rattle.linked_lists.specs.Chains.{list_at, lists_of}
use Rattle.linked_lists.proofs.ChainLemmas.{list_in_model, model_changes, there_is}
use Rattle.linked_lists.proofs.changes.remove_item.Goals as goal

pub unlink-requires-clause-list : goal.unlink-requires-clause-list
unlink-requires-clause-list c = there_is _ _ c.args.list c.args.item (ap (λ xs. has nat_eq xs c.args.item) (sym (list_in_model c.args.heads.now.items c.args.links.now.items c.args.list)) ∙ c.requires.there)

pub returns-clause-lists : goal.returns-clause-lists
returns-clause-lists c =
    let there : has nat_eq (list_at c.args.heads.now.items c.args.links.now.items c.args.list) c.args.item ≡ true = ap (λ xs. has nat_eq xs c.args.item) (sym (list_in_model c.args.heads.now.items c.args.links.now.items c.args.list)) ∙ c.requires.there in
    model_changes _ _ _ _ c.args.list _ (there_is _ _ c.args.list c.args.item there) c.unlink.ensures
    ∙ ap (λ xs. slice_set (lists_of c.args.heads.now.items c.args.links.now.items) c.args.list (without nat_eq xs c.args.item)) (sym (list_in_model c.args.heads.now.items c.args.links.now.items c.args.list))
