use Rattle.tree_constraints.proofs.Monotone.{solutions_one}
use Rattle.tree_constraints.proofs.laws.solutions_are_one.Goals as goal

-- the law
pub returns : goal.returns
returns c = solutions_one
