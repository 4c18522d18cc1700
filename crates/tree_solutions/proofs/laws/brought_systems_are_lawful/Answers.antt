use Rattle.tree_solutions.proofs.Lawful.{systems_are_lawful}
use Rattle.tree_solutions.proofs.laws.brought_systems_are_lawful.Goals as goal

-- the law
pub returns : goal.returns
returns c = systems_are_lawful
