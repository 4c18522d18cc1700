use Rattle.session_theory.proofs.MomentLemmas as lemmas
use Rattle.session_theory.proofs.moments.settled_is_least.Goals as goal

pub returns : goal.returns
returns g c = lemmas.settled_least g.A.Analysis.same g.A.Analysis.tells g.A.Analysis.IsSystemOf g.A.Analysis.systems
