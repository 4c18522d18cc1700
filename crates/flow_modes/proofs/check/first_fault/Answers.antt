use Rattle.std.proofs.Common.{◌+◌, List, drop, refl, sym, subst, ◌∙◌}
use Rattle.flow_syntax.specs.declared.property.PropRule.{PropRule}
use Rattle.flow_modes.proofs.Rules.{IsLeft, left_at, one_passed, fault_here}
use Rattle.flow_modes.proofs.check.first_fault.Goals as goal

pub returns-then-is_refused : goal.returns-then-is_refused
returns-then-is_refused c =
    let rules = c.args.rules.now in
    let left = subst (λ (xs : List PropRule). IsLeft rules c.args.types.now xs c.loop-rule.rest.now) (left_at rules c.loop-rule.rule-index c.rule-item.result c.loop-rule-test.true c.rule-item.is) c.loop-rule.invariant in
    fault_here rules c.args.types.now c.rule-item.result (drop (c.loop-rule.rule-index + 1) rules) c.loop-rule.rest.now c.walked-mode.result.1.now c.walked-mode.result.0 _ left c.walked-mode.ensures
    (sym c.is_refused.ensures ∙ c.if-is_refused.true) refl

pub loop-rule-preserved : goal.loop-rule-preserved
loop-rule-preserved c =
    let rules = c.args.rules.now in
    let left = subst (λ (xs : List PropRule). IsLeft rules c.args.types.now xs c.loop-rule.rest.now) (left_at rules c.loop-rule.rule-index c.rule-item.result c.loop-rule-test.true c.rule-item.is) c.loop-rule.invariant in
    one_passed rules c.args.types.now c.rule-item.result (drop (c.loop-rule.rule-index + 1) rules) c.loop-rule.rest.now c.walked-mode.result.1.now c.walked-mode.result.0 left c.walked-mode.ensures
    (sym c.is_refused.ensures ∙ c.if-is_refused.false)
