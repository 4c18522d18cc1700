use Rattle.constraint_names.proofs.EditBackLemmas as back
use Rattle.constraint_names.proofs.edits.edit_comes_back.Goals as goal

pub returns : goal.returns
returns g c = λ same other s s' t t' n n' e f tells tells' law law' names names' change edit. back.edit_back same other tells tells' s s' t t' n n' e f law law' names names' change edit
