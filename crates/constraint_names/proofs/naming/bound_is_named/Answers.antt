use Rattle.constraint_names.proofs.NamingLemmas as by_name
use Rattle.constraint_names.proofs.naming.bound_is_named.Goals as goal

pub returns : goal.returns
returns g c = λ same other s t n tells tells' names ranks. by_name.bound_named same other tells tells' s t n names ranks
