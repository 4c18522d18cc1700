use Rattle.tree_solutions.proofs.Fewer.{brought_bounds}
use Rattle.tree_solutions.proofs.laws.brought_bounds_are_within.Goals as goal

-- the law
pub returns : goal.returns
returns c = brought_bounds
