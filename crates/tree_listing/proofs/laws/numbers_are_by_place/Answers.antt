use Rattle.tree_listing.proofs.Places.{numbers}
use Rattle.tree_listing.proofs.laws.numbers_are_by_place.Goals as goal

-- the law
pub returns : goal.returns
returns c = numbers
