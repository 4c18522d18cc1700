use Rattle.graph_laws.proofs.Accepted.{items_placed}
use Rattle.graph_laws.proofs.specifications.items_are_placed.Goals as goal

pub returns : goal.returns
returns c = items_placed
