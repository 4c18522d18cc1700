use Rattle.constraint_names.proofs.NamingLemmas as by_name
use Rattle.constraint_names.proofs.naming.values_are_named.Goals as goal

pub returns : goal.returns
returns g c = λ same other s t n tells tells' names law ks all. by_name.agrees_replay same other tells tells' s t n names law ks all
