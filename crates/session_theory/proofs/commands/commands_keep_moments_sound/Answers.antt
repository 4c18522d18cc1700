use Rattle.session_theory.proofs.CommandLemmas as lemmas
use Rattle.session_theory.proofs.commands.commands_keep_moments_sound.Goals as goal

pub returns : goal.returns
returns g c = λ budget. lemmas.leads_sound g.C.Commanded.same g.C.Commanded.tells g.C.Commanded.IsSystemOf g.C.Commanded.systems g.C.Commanded.says g.C.Commanded.edits budget
