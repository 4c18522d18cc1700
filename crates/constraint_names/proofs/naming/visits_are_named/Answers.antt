use Rattle.constraint_names.proofs.NamingLemmas as by_name
use Rattle.constraint_names.proofs.naming.visits_are_named.Goals as goal

pub returns : goal.returns
returns g c = λ same other s t n tells tells' names law st ks sound legal. (by_name.legal_named same other tells tells' s t n names law ks st sound legal, by_name.after_named same other tells tells' s t n names law ks st sound legal)
