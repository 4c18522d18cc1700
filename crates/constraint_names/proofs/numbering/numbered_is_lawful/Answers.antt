use Rattle.constraint_names.proofs.NumberingLemmas as numbering
use Rattle.constraint_names.proofs.numbering.numbered_is_lawful.Goals as goal

pub returns : goal.returns
returns g c = λ other t n tells' law is. (numbering.numbered_monotone other tells' t n law is, λ ranks. numbering.numbered_lawful other tells' t n (record { monotone = law; ranks = ranks }) is)
