use Rattle.tree_changes.proofs.Outside.{same_term}
use Rattle.tree_changes.proofs.laws.same_terms_match_alike.Goals as goal

-- the law
pub returns : goal.returns
returns c = same_term
