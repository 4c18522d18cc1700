use Rattle.tree_listing.proofs.Properties.{properties_one}
use Rattle.tree_listing.proofs.laws.properties_are_one.Goals as goal

-- the law
pub returns : goal.returns
returns c = properties_one
