use Rattle.tree_solutions.proofs.There.{properties_declared}
use Rattle.tree_solutions.proofs.laws.properties_are_declared.Goals as goal

-- the law
pub returns : goal.returns
returns c = properties_declared
