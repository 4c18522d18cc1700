use Rattle.tree_solutions.proofs.Lawful.{rules_evaluated}
use Rattle.tree_solutions.proofs.laws.rules_can_be_evaluated.Goals as goal

-- the law
pub returns : goal.returns
returns c = rules_evaluated
