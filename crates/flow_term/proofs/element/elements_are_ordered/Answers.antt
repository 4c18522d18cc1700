use Rattle.flow_term.specs.ElementsLaws.{elements_ordered}
use Rattle.flow_term.proofs.element.elements_are_ordered.Goals as goal

pub returns : goal.returns
returns c = elements_ordered
