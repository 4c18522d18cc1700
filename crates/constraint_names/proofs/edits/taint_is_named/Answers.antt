use Rattle.constraint_names.proofs.EditedLemmas as edited
use Rattle.constraint_names.proofs.edits.taint_is_named.Goals as goal

pub returns : goal.returns
returns g c = λ same other s s' t t' n n' e f tells tells' law law' names names' change edit st taint sound least. edited.tainted_named same other tells tells' s s' t t' n n' e f law law' names names' change edit st taint sound least
