use Rattle.constraint_theory.proofs.LeastLemmas as least
use Rattle.constraint_theory.proofs.solving.narrower_is_monotone.Goals as goal

pub returns : goal.returns
returns g c = λ same s valid tells law narrow. least.narrower_monotone same s valid law narrow
