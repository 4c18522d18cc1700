use Rattle.check_base.proofs.GathersLaws.{Gathers-then}
use Rattle.check_rules.proofs.Loops.{gathers_if}
use Rattle.check_rules.proofs.items.check_item.Goals as goal

pub returns : goal.returns
returns c = Gathers-then c.check_name.ensures (gathers_if c.is_misplaced-is_misplaced.ensures c.note_if.ensures)
