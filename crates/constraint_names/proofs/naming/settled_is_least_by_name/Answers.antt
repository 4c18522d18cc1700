use Rattle.constraint_names.proofs.NamingLemmas as by_name
use Rattle.constraint_names.proofs.naming.settled_is_least_by_name.Goals as goal

pub returns : goal.returns
returns g c = λ same other s t n tells tells' names law law' st b sound rest agree. by_name.settled_named same other tells tells' s t n names law st b law' sound rest agree
