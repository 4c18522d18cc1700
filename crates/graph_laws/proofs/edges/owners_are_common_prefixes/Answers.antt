use Rattle.graph_laws.proofs.Prefixes.{owners_prefix}
use Rattle.graph_laws.proofs.edges.owners_are_common_prefixes.Goals as goal

pub returns : goal.returns
returns c = owners_prefix
