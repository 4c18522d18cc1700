use Rattle.session_theory.proofs.TaintLemmas as lemmas
use Rattle.session_theory.proofs.edits.repairs_exist.Goals as goal

pub returns : goal.returns
returns g c = lemmas.repair g.A.Analysis.same g.A.Analysis.tells g.A.Analysis.IsSystemOf
