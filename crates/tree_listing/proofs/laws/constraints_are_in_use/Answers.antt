use Rattle.tree_listing.proofs.Listed.{in_use}
use Rattle.tree_listing.proofs.laws.constraints_are_in_use.Goals as goal

-- the law
pub returns : goal.returns
returns c = in_use
