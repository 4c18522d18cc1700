use Rattle.tree_fitting.proofs.EitherLemmas.{either}
use Rattle.tree_fitting.proofs.tree_fits_or_misfits.Goals as goal

pub returns : goal.returns
returns c = either
