use Rattle.session_theory.proofs.MomentLemmas as lemmas
use Rattle.session_theory.proofs.moments.settles_or_spends.Goals as goal

pub returns : goal.returns
returns g c = lemmas.settles_or_spends g.A.Analysis.same g.A.Analysis.tells g.A.Analysis.IsSystemOf g.A.Analysis.systems
