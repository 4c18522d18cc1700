use Rattle.graph_laws.proofs.Accepted.{heads_shallow}
use Rattle.graph_laws.proofs.specifications.heads_are_shallow.Goals as goal

pub returns : goal.returns
returns c = heads_shallow
