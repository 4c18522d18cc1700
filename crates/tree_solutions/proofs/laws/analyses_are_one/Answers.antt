use Rattle.tree_solutions.proofs.Settled.{analyses_one}
use Rattle.tree_solutions.proofs.laws.analyses_are_one.Goals as goal

-- the law
pub returns : goal.returns
returns c = analyses_one
