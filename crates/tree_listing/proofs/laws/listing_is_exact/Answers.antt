use Rattle.tree_listing.proofs.Listed.{listing_exact}
use Rattle.tree_listing.proofs.laws.listing_is_exact.Goals as goal

-- the law
pub returns : goal.returns
returns c = listing_exact
