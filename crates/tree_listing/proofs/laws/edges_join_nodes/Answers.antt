use Rattle.tree_listing.proofs.Listed.{edges_join}
use Rattle.tree_listing.proofs.laws.edges_join_nodes.Goals as goal

-- the law
pub returns : goal.returns
returns c = edges_join
