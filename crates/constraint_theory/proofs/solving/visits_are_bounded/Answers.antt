use Rattle.constraint_theory.proofs.BoundLemmas as bounds
use Rattle.constraint_theory.proofs.solving.visits_are_bounded.Goals as goal

pub returns : goal.returns
returns g c = λ same s tells law st us ks sound closed legal. bounds.visits_bounded same tells s law us ks st sound closed legal
