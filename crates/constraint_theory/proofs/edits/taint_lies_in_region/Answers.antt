use Rattle.constraint_theory.proofs.EditLemmas as edits
use Rattle.constraint_theory.proofs.edits.taint_lies_in_region.Goals as goal

pub returns : goal.returns
returns g c = λ same s t e tells old new edit st taint region sound least r u tainted. edits.taint_in_region same tells s t e old new edit taint st.steps region least r sound.steps_known u tainted
