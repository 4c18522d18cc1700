use Rattle.tree_fitting.proofs.StepLemmas.{by_children}
use Rattle.tree_fitting.proofs.misfits_go_by_children.Goals as goal

pub returns : goal.returns
returns c = by_children
