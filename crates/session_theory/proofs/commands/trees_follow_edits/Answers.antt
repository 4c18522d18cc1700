use Rattle.session_theory.proofs.CommandLemmas as lemmas
use Rattle.session_theory.proofs.commands.trees_follow_edits.Goals as goal

pub returns : goal.returns
returns g c = λ budget. lemmas.trees_follow g.C.Commanded.same g.C.Commanded.tells g.C.Commanded.IsSystemOf g.C.Commanded.systems g.C.Commanded.says g.C.Commanded.edits budget
