use Rattle.check_base.proofs.GathersLaws.{Gathers-then}
use Rattle.check_decls.proofs.Laws.{Gathers-where}
use Rattle.check_decls.proofs.section.note_rule.Goals as goal

pub returns : goal.returns
returns c = Gathers-then c.note_unknown.ensures (Gathers-where c.is_turned-is_fault.ensures.0 c.is_turned-is_fault.ensures.1 c.note_if.ensures)
