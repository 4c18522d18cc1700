use Rattle.tree_changes.proofs.Outside.{on_gone_is_gone}
use Rattle.tree_changes.proofs.laws.what_is_on_gone_is_gone.Goals as goal

-- the law
pub returns : goal.returns
returns c = on_gone_is_gone
