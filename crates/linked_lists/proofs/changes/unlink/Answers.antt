use Rattle.linked_lists.proofs.ChainLemmas.{back_within, forth_within, unlinked_by}
use Rattle.linked_lists.proofs.Writes.{length-links_with}
use Rattle.linked_lists.proofs.changes.unlink.Goals as goal

pub link_of-link-requires : goal.link_of-link-requires
link_of-link-requires c = rw c.deref.ensures.value ((c.requires.chains.chain c.args.list c.requires.list).within c.args.item c.requires.there)

pub set_forth-requires-clause-place : goal.set_forth-requires-clause-place
set_forth-requires-clause-place c =
    rw (c.link_of-link.ensures, c.deref.ensures.value) (back_within _ _ c.args.list c.args.item (c.requires.chains.chain c.args.list c.requires.list) c.requires.there)

pub set_back-requires-clause-place : goal.set_back-requires-clause-place
set_back-requires-clause-place c =
    rw (c.set_forth.ensures.links, length-links_with, c.link_of-link.ensures, c.deref.ensures.value) (forth_within _ _ c.args.list c.args.item (c.requires.chains.chain c.args.list c.requires.list) c.requires.there)

pub returns : goal.returns
returns c =
    unlinked_by _ _ _ _ _ _ c.args.list c.args.item c.link_of-link.result (rw c.deref.ensures.value at c.link_of-link.ensures) c.set_forth.ensures.heads c.set_forth.ensures.links c.set_back.ensures.heads c.set_back.ensures.links c.requires.chains c.requires.list c.requires.there
