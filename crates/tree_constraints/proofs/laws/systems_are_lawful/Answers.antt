use Rattle.tree_constraints.proofs.Solved.{systems_lawful}
use Rattle.tree_constraints.proofs.laws.systems_are_lawful.Goals as goal

-- the law
pub returns : goal.returns
returns c = systems_lawful
