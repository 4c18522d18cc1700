use Rattle.tree_changes.proofs.Gone.{unknowns_by_nodes}
use Rattle.tree_changes.proofs.laws.unknowns_go_with_nodes.Goals as goal

-- the law
pub returns : goal.returns
returns c = unknowns_by_nodes
