use Rattle.constraint_names.proofs.NumberingLemmas as numbering
use Rattle.constraint_names.proofs.numbering.numbered_is_named.Goals as goal

pub returns : goal.returns
returns g c = λ other t n tells' law is. (numbering.numbered_named other tells' t n law is, numbering.ranks_named other tells' t n law is)
