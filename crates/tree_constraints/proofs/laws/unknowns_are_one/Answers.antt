use Rattle.tree_constraints.proofs.Facts.{unknowns_one}
use Rattle.tree_constraints.proofs.laws.unknowns_are_one.Goals as goal

-- the law
pub returns : goal.returns
returns c = unknowns_one
