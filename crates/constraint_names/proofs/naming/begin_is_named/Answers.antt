use Rattle.constraint_names.proofs.NamingLemmas as by_name
use Rattle.constraint_names.proofs.naming.begin_is_named.Goals as goal

pub returns : goal.returns
returns g c = λ same other s t n tells tells' names. by_name.begin_named same other tells tells' s t n names
