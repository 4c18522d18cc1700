use Rattle.constraint_theory.proofs.EditLemmas as edits
use Rattle.constraint_theory.proofs.edits.idle_gone_taints_nothing.Goals as goal

pub returns : goal.returns
returns g c = λ same s t e tells old new edit st taint sound least apart. edits.idle_gone same tells s t e old new edit taint st sound least apart
