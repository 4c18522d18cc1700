use Rattle.std.proofs.Common.{ap}
use Rattle.list_theory.specs.Lists.{has}
use Rattle.constraint_theory.proofs.LeastLemmas as least
use Rattle.constraint_theory.proofs.solving.settled_is_least_of_valid.Goals as goal

pub returns : goal.returns
returns g c = λ same s valid tells law st sound rest. least.least_valid same s valid law tells st sound (λ k. ap (λ waiting. has same.key waiting k) rest)
