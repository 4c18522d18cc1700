use Rattle.constraint_theory.proofs.BoundLemmas as bounds
use Rattle.constraint_theory.proofs.solving.visits_from_sound.Goals as goal

pub returns : goal.returns
returns g c = λ same s tells law st ks sound legal. bounds.visits_from_sound same tells s law ks st sound legal
