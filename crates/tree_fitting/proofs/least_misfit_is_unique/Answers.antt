use Rattle.tree_fitting.proofs.LeastLemmas.{one_misfit}
use Rattle.tree_fitting.proofs.least_misfit_is_unique.Goals as goal

pub returns : goal.returns
returns c = one_misfit
