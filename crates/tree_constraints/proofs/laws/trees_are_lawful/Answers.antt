use Rattle.tree_constraints.proofs.Kept.{trees_lawful}
use Rattle.tree_constraints.proofs.laws.trees_are_lawful.Goals as goal

-- the law
pub returns : goal.returns
returns c = trees_lawful
