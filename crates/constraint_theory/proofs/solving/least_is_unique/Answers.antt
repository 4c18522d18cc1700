use Rattle.constraint_theory.proofs.LeastLemmas as least
use Rattle.constraint_theory.proofs.solving.least_is_unique.Goals as goal

pub returns : goal.returns
returns g c = λ same s tells law a b la lb u used. least.least_unique same tells s law a b la lb u used
