use Rattle.tree_solutions.proofs.Fewer.{brought_no_more}
use Rattle.tree_solutions.proofs.laws.brought_are_no_more.Goals as goal

-- the law
pub returns : goal.returns
returns c = brought_no_more
