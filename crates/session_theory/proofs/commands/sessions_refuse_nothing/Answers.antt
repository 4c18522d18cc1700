use Rattle.session_theory.proofs.CommandLemmas as lemmas
use Rattle.session_theory.proofs.commands.sessions_refuse_nothing.Goals as goal

pub returns : goal.returns
returns g c = λ apart budget. lemmas.session_refuses_nothing g.C.Commanded.same g.C.Commanded.tells g.C.Commanded.IsSystemOf g.C.Commanded.systems g.C.Commanded.says g.C.Commanded.edits budget g.C.Commanded.ends apart
