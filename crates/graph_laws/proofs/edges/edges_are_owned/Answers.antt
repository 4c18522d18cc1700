use Rattle.graph_laws.proofs.Owned.{edges_owned}
use Rattle.graph_laws.proofs.edges.edges_are_owned.Goals as goal

pub returns : goal.returns
returns c = edges_owned
