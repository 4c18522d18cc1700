use Rattle.check_rules.proofs.ItemLemmas.{gathers_named}
use Rattle.check_rules.proofs.items.check_name.Goals as goal

pub returns-in-Whole : goal.returns-in-Whole
returns-in-Whole c = gathers_named c.args.rule.now c.args.head.now c.args.item.now c.in-Whole.name c.requires c.in-Whole.is c.note_variable.ensures
