use Rattle.std.proofs.lemmas.Result.{on_ok_weaker}
use Rattle.check_exprs.proofs.Occurrences.{placed}
use Rattle.check_exprs.proofs.rules.check_rule.Goals as goal

pub returns : goal.returns
returns c = on_ok_weaker c.check_in.result (placed _ _ _ _ _ c.in_ok-whole.ensures c.in_ok-expected.ensures) c.check_in.ensures
