use Rattle.tree_constraints.proofs.Solved.{bounds_within}
use Rattle.tree_constraints.proofs.laws.bounds_are_within.Goals as goal

-- the law
pub returns : goal.returns
returns c = bounds_within
