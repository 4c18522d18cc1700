use Rattle.std.proofs.Common.{sym, ◌∙◌}
use Rattle.check_base.proofs.GathersLaws.{Gathers-then}
use Rattle.check_rules.proofs.ItemLemmas.{some_misnamed}
use Rattle.check_rules.proofs.items.note_variable.Goals as goal

pub returns-in-Some : goal.returns-in-Some
returns-in-Some c = some_misnamed _ c.in-Some.is_position c.has_name-is_direct.result _ c.args.place (sym c.is_position.ensures ∙ c.in-Some.is) c.has_name-is_direct.ensures (Gathers-then c.note_if.ensures c.note_if-in-Some.ensures)
