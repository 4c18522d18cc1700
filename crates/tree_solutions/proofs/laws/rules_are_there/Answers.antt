use Rattle.tree_solutions.proofs.There.{rules_there}
use Rattle.tree_solutions.proofs.laws.rules_are_there.Goals as goal

-- the law
pub returns : goal.returns
returns c = rules_there
