use Rattle.constraint_theory.proofs.LeastLemmas as least
use Rattle.constraint_theory.proofs.solving.replay_is_least.Goals as goal

pub returns : goal.returns
returns g c = λ same s tells law ks known sat. least.replay_least same tells s law ks known sat
