use Rattle.tree_changes.proofs.Outside.{outside_stays}
use Rattle.tree_changes.proofs.laws.others_stay.Goals as goal

-- the law
pub returns : goal.returns
returns c = outside_stays
