use Rattle.std.proofs.Common.{sym, ◌∙◌}
use Rattle.flow_term.proofs.Outcomes.{if_ok}
use Rattle.flow_match.proofs.Found.{hit_passed, hit_reached}
use Rattle.flow_match.proofs.indexed.hit_among.Goals as goal

pub returns-in-Some : goal.returns-in-Some
returns-in-Some c = if_ok c.hit_of.result c.hit_of.ensures (λ hit same.
    same
    ∙ sym (hit_reached c.args.property c.args.name.now c.args.boundary c.args.term.now c.args.path.now c.args.rules.now c.args.numbers.now c.loop-number.number-index c.loop-number-test.true c.in-Some.rule.now (sym c.in-Some.ensures))
    ∙ c.loop-number.invariant)

pub loop-number-preserved : goal.loop-number-preserved
loop-number-preserved c =
    hit_passed c.args.property c.args.name.now c.args.boundary c.args.term.now c.args.path.now c.args.rules.now c.args.numbers.now c.loop-number.number-index c.loop-number-test.true (sym c.in_default.ensures)
    ∙ c.loop-number.invariant
