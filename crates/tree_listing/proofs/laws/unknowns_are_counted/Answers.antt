use Rattle.tree_listing.proofs.Places.{counted}
use Rattle.tree_listing.proofs.laws.unknowns_are_counted.Goals as goal

-- the law
pub returns : goal.returns
returns c = counted
