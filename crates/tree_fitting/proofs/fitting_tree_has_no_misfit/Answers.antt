use Rattle.tree_fitting.proofs.LeastLemmas.{no_misfit}
use Rattle.tree_fitting.proofs.fitting_tree_has_no_misfit.Goals as goal

pub returns : goal.returns
returns c = no_misfit
