use Rattle.tree_changes.proofs.Gone.{gone_parts}
use Rattle.tree_changes.proofs.laws.gone_by_parts.Goals as goal

-- the law
pub returns : goal.returns
returns c = gone_parts
