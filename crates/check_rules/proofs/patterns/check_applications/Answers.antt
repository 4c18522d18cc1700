use Rattle.std.proofs.Common.{sym, ◌∙◌}
use Rattle.check_rules.proofs.Misapplied.{gathers_signed, gathers_unsigned}
use Rattle.check_rules.proofs.patterns.check_applications.Goals as goal

pub returns-then-is_some : goal.returns-then-is_some
returns-then-is_some c = gathers_signed c.args.spec.now c.args.names.now c.args.pattern.now c.requires (sym c.is_some.ensures ∙ c.if-is_some.true) c.note_applications.ensures

pub returns-else-is_some : goal.returns-else-is_some
returns-else-is_some c = gathers_unsigned c.args.spec.now c.args.pattern.now c.args.earliest.now (sym c.is_some.ensures ∙ c.if-is_some.false)
