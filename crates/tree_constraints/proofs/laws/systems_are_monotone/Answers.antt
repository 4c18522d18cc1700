use Rattle.tree_constraints.proofs.Monotone.{systems_monotone}
use Rattle.tree_constraints.proofs.laws.systems_are_monotone.Goals as goal

-- the law
pub returns : goal.returns
returns c = systems_monotone
