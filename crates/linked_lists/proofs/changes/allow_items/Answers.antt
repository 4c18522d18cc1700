use Rattle.std.proofs.Common.{refl}
use Rattle.linked_lists.proofs.GrowLemmas.{chains_kept, lists_kept}
use Rattle.linked_lists.proofs.changes.allow_items.Goals as goal

pub returns-clause-chains : goal.returns-clause-chains
returns-clause-chains c = chains_kept _ _ _ _ (λ k. refl) c.add_links.ensures.kept c.add_links.ensures.more c.requires.chains

pub returns-clause-lists : goal.returns-clause-lists
returns-clause-lists c = lists_kept _ _ _ c.add_links.ensures.kept c.add_links.ensures.more c.requires.chains
