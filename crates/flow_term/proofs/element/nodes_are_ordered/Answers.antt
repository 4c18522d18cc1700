use Rattle.flow_term.specs.GraphLaws.{nodes_ordered}
use Rattle.flow_term.proofs.element.nodes_are_ordered.Goals as goal

pub returns : goal.returns
returns c = nodes_ordered
