use Rattle.constraint_theory.proofs.BoundLemmas as bounds
use Rattle.constraint_theory.proofs.solving.visits_within_bound.Goals as goal

pub returns : goal.returns
returns g c = λ same s tells law ks legal. bounds.visits_from_begin same tells s law ks legal
