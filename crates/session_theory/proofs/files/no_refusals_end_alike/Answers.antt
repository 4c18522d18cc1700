use Rattle.session_theory.proofs.FileLemmas as lemmas
use Rattle.session_theory.proofs.files.no_refusals_end_alike.Goals as goal

pub returns : goal.returns
returns g c = λ x. lemmas.no_refusals_alike g.R.Taking.ends (g.R.Taking.Then x)
