use Rattle.tree_listing.proofs.Properties.{properties_exist}
use Rattle.tree_listing.proofs.laws.properties_exist.Goals as goal

-- the law
pub returns : goal.returns
returns c = properties_exist
