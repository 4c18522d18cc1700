use Rattle.std.proofs.Common.{◌∙◌, sym, ap, ◌++◌, ◌∷◌, [], nat_eq, arith}
use Rattle.std.specs.Prelude.{slice_set}
use Rattle.list_theory.specs.Lists.{has}
use Rattle.linked_lists.specs.Chains.{lists_of}
use Rattle.linked_lists.proofs.ChainLemmas.{list_in_model, model_changes, length-lists_of}
use Rattle.linked_lists.proofs.changes.push_item.Goals as goal

pub link_last-requires-clause-absent : goal.link_last-requires-clause-absent
link_last-requires-clause-absent c = λ k w. ap (λ xs. has nat_eq xs c.args.item) (sym (list_in_model c.args.heads.now.items c.args.links.now.items k)) ∙ c.requires.absent k

pub returns-clause-lists : goal.returns-clause-lists
returns-clause-lists c =
    model_changes _ _ _ _ c.args.list _ (omega (arith, length-lists_of c.args.heads.now.items c.args.links.now.items, c.requires.list)) c.link_last.ensures
    ∙ ap (λ xs. slice_set (lists_of c.args.heads.now.items c.args.links.now.items) c.args.list (xs ++ c.args.item ∷ [])) (sym (list_in_model c.args.heads.now.items c.args.links.now.items c.args.list))
