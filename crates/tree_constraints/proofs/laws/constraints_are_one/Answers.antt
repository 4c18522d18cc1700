use Rattle.tree_constraints.proofs.Facts.{constraints_one}
use Rattle.tree_constraints.proofs.laws.constraints_are_one.Goals as goal

-- the law
pub returns : goal.returns
returns c = constraints_one
