use Rattle.tree_solutions.proofs.Settled.{settled_analysis}
use Rattle.tree_solutions.proofs.laws.settled_is_analysis.Goals as goal

-- the law
pub returns : goal.returns
returns c = settled_analysis
