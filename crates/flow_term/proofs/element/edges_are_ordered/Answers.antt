use Rattle.flow_term.specs.GraphLaws.{edges_ordered}
use Rattle.flow_term.proofs.element.edges_are_ordered.Goals as goal

pub returns : goal.returns
returns c = edges_ordered
