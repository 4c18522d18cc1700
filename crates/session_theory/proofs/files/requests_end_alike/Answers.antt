use Rattle.session_theory.proofs.FileLemmas as lemmas
use Rattle.session_theory.proofs.files.requests_end_alike.Goals as goal

pub returns : goal.returns
returns g c = λ exclusive alike content. lemmas.takes_alike g.R.Taking.ends g.R.Taking.kind exclusive content g.R.Taking.Then alike
