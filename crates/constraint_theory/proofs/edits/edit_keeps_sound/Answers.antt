use Rattle.constraint_theory.proofs.EditLemmas as edits
use Rattle.constraint_theory.proofs.edits.edit_keeps_sound.Goals as goal

pub returns : goal.returns
returns g c = λ same s t e tells old new edit st taint sound closed. edits.sound_edited same tells s t e old new edit taint st sound closed
