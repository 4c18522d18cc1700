use Rattle.session_theory.proofs.MomentLemmas as lemmas
use Rattle.session_theory.proofs.moments.spent_is_below_bound.Goals as goal

pub returns : goal.returns
returns g c = lemmas.spent_below g.A.Analysis.same g.A.Analysis.tells g.A.Analysis.IsSystemOf g.A.Analysis.systems
