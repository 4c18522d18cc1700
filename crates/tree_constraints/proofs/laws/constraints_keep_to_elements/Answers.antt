use Rattle.tree_constraints.proofs.Kept.{keep_to_elements}
use Rattle.tree_constraints.proofs.laws.constraints_keep_to_elements.Goals as goal

-- the law
pub returns : goal.returns
returns c = keep_to_elements
