use Rattle.constraint_names.proofs.BackLemmas as back
use Rattle.constraint_names.proofs.naming.ranks_come_back.Goals as goal

pub returns : goal.returns
returns g c = λ same other s t n tells tells' names law' ranks. back.ranks_back same other tells tells' s t n names ranks law'
