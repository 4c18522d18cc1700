use Rattle.std.proofs.Common.{refl}
use Rattle.std.proofs.lemmas.Result.{on_ok_weaker}
use Rattle.check_exprs.proofs.Occurrences.{placed, scope_of_outer}
use Rattle.check_exprs.proofs.rules.check_in.Goals as goal

pub returns : goal.returns
returns c = on_ok_weaker c.note.result (placed _ _ _ _ _ (scope_of_outer _) refl) c.note.ensures
