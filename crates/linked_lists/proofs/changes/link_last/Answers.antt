use Rattle.std.proofs.Common.{◌≡◌, ◌∙◌, ap, Some, length}
use Rattle.std.proofs.lemmas.List.{length-set}
use Rattle.linked_lists.specs.Chains.{forth_to, heads_with}
use Rattle.linked_lists.proofs.ChainLemmas.{last_within, appended_by}
use Rattle.linked_lists.proofs.changes.link_last.Goals as goal

pub set_forth-requires-2-clause-place : goal.set_forth-requires-2-clause-place
set_forth-requires-2-clause-place c =
    let n : length c.set_back.new.links.items ≡ length c.args.links.now.items = ap length c.set_back.ensures.links ∙ length-set _ _ _ ∙ ap length c.set_forth.ensures.links ∙ length-set _ _ _ in
    rw (n, c.link_of-last.ensures, c.deref.ensures.value) (last_within _ _ c.args.list (c.requires.chains.chain c.args.list c.requires.list))

pub returns : goal.returns
returns c =
    appended_by _ _ _ _ _ _ _ c.args.list c.args.item c.link_of-last.result.back (ap (λ l. l.back) (rw c.deref.ensures.value at c.link_of-last.ensures))
    c.set_forth.ensures.links c.set_back.ensures.links
    (c.set_forth-2.ensures.heads ∙ ap (heads_with (forth_to (Some c.args.item)) c.args.list c.link_of-last.result.back) (c.set_back.ensures.heads ∙ c.set_forth.ensures.heads))
    (c.set_back-2.ensures.links ∙ c.set_forth-2.ensures.links)
    c.set_back-2.ensures.heads
    c.requires.chains c.requires.list c.requires.item c.requires.absent
