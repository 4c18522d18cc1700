use Rattle.tree_fitting.proofs.PutLemmas.{replaced}
use Rattle.tree_fitting.proofs.replacement_misfits_in_new_part.Goals as goal

pub returns : goal.returns
returns c = replaced
