use Rattle.check_rules.proofs.Loops.{gathers_if}
use Rattle.check_rules.proofs.patterns.check_depth.Goals as goal

pub returns : goal.returns
returns c = gathers_if c.looks_deep-is_deep.ensures c.note_if.ensures
