use Rattle.constraint_theory.proofs.EditLemmas as edits
use Rattle.constraint_theory.proofs.edits.visits_after_edit.Goals as goal

pub returns : goal.returns
returns g c = λ same s t e tells old new edit st taint region reach ks sound rest least r reached legal. edits.visits_after same tells s t e old new edit taint region reach st ks sound rest least r reached legal
