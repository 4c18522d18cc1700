use Rattle.std.proofs.Common.{ap}
use Rattle.list_theory.specs.Lists.{has}
use Rattle.constraint_theory.proofs.LeastLemmas as least
use Rattle.constraint_theory.proofs.solving.settled_is_least.Goals as goal

pub returns : goal.returns
returns g c = λ same s tells law st sound rest. least.least_at_rest same tells s law st sound (λ k. ap (λ waiting. has same.key waiting k) rest)
