use Rattle.session_theory.proofs.MomentLemmas as lemmas
use Rattle.session_theory.proofs.moments.visits_keep_moments_sound.Goals as goal

pub returns : goal.returns
returns g c = lemmas.sound_after g.A.Analysis.same g.A.Analysis.tells g.A.Analysis.IsSystemOf g.A.Analysis.systems
