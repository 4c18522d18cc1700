use Rattle.std.proofs.Common.{sym, ◌∙◌}
use Rattle.flow_links.proofs.NumberLemmas.{numbered_new, numbered_old}
use Rattle.flow_links.proofs.numbers.number_of.Goals as goal

pub returns-in_ok-push-clause-numbered : goal.returns-in_ok-push-clause-numbered
returns-in_ok-push-clause-numbered c =
    numbered_new c.args.points.now.keys c.args.successors.now.items c.insert_full.new.self.keys c.args.point.now c.in_ok-duplicate.field-0 c.in_ok-number.number c.in_ok-duplicate.ensures
    c.in_ok-number.ensures.keys c.in_ok-number.ensures.unique c.in_ok-number.ensures.stored c.push.new.self.items c.new.result (sym c.if-is_new.true ∙ c.in_ok-number.ensures.added) c.in_ok-push.ensures.items c.new.ensures

pub returns-else-is_new-clause-numbered : goal.returns-else-is_new-clause-numbered
returns-else-is_new-clause-numbered c =
    numbered_old c.args.points.now.keys c.args.successors.now.items c.insert_full.new.self.keys c.args.point.now c.in_ok-duplicate.field-0 c.in_ok-number.number c.in_ok-duplicate.ensures
    c.in_ok-number.ensures.keys c.in_ok-number.ensures.unique c.in_ok-number.ensures.stored (sym c.if-is_new.false ∙ c.in_ok-number.ensures.added)
