use Rattle.std.proofs.Common.{refl, arith}
use Rattle.linked_lists.proofs.GrowLemmas.{chains_kept, listed_kept}
use Rattle.linked_lists.proofs.changes.add_lists.Goals as goal

pub returns-clause-chains : goal.returns-clause-chains
returns-clause-chains c = chains_kept _ _ _ _ c.add_links.ensures.kept (λ x. refl) (omega arith) c.requires.chains

pub returns-clause-lists : goal.returns-clause-lists
returns-clause-lists c = listed_kept _ _ _ _ c.add_links.ensures.kept (λ x. refl) (omega arith) c.requires.chains
