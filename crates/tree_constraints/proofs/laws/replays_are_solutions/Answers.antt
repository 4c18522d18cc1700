use Rattle.tree_constraints.proofs.Solved.{replays_solve}
use Rattle.tree_constraints.proofs.laws.replays_are_solutions.Goals as goal

-- the law
pub returns : goal.returns
returns c = replays_solve
