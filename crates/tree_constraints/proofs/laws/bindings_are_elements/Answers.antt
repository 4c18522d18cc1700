use Rattle.tree_constraints.proofs.Applied.{bindings_elements}
use Rattle.tree_constraints.proofs.laws.bindings_are_elements.Goals as goal

-- the law
pub returns : goal.returns
returns c = bindings_elements
