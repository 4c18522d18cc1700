use Rattle.tree_listing.proofs.Listed.{lists_exist}
use Rattle.tree_listing.proofs.laws.trees_have_lists.Goals as goal

-- the law
pub returns : goal.returns
returns c = lists_exist
