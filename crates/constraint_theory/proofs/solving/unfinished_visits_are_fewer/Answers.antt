use Rattle.constraint_theory.proofs.BoundLemmas as bounds
use Rattle.constraint_theory.proofs.solving.unfinished_visits_are_fewer.Goals as goal

pub returns : goal.returns
returns g c = λ same s tells law st us ks sound closed legal more. bounds.unfinished same tells s law us ks st sound closed legal more
