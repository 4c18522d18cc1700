use Rattle.tree_listing.proofs.Places.{by_place}
use Rattle.tree_listing.proofs.laws.unknowns_are_by_place.Goals as goal

-- the law
pub returns : goal.returns
returns c = by_place
