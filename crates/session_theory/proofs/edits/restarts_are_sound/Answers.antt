use Rattle.session_theory.proofs.EditLemmas as lemmas
use Rattle.session_theory.proofs.edits.restarts_are_sound.Goals as goal

pub returns : goal.returns
returns g c = lemmas.restart_sound g.A.Analysis.same g.A.Analysis.tells g.A.Analysis.IsSystemOf g.A.Analysis.systems
