use Rattle.graph_laws.proofs.Accepted.{patterns_shallow}
use Rattle.graph_laws.proofs.specifications.patterns_are_shallow.Goals as goal

pub returns : goal.returns
returns c = patterns_shallow
