use Rattle.std.proofs.Common.{◌++◌, ◌∙◌, ap, map}
use Rattle.flow_syntax.specs.Binders.{binders_in, bound_in}
use Rattle.flow_syntax.specs.ExprFaults.{trigger_pattern}
use Rattle.check_rules.specs.inner.Tables.{known_binder, known_bound, known_by}
use Rattle.check_rules.proofs.Repeats.{of_both}
use Rattle.check_rules.proofs.binds.PropRuleBinds.bindings.Goals as goal

pub returns : goal.returns
returns c =
    of_both c.push_binders.new.out.items (bound_in (trigger_pattern c.args.self.now.trigger)) (binders_in c.args.self.now.body)
    (c.in_ok-push_binders.ensures ∙ ap (λ ks. ks ++ map known_binder (binders_in c.args.self.now.body))
    (c.in_ok-push_variables.ensures ∙ ap (λ xs. map known_by xs ++ map known_bound (bound_in c.trigger_pattern.result.now)) c.new-bindings.ensures.items ∙ ap (λ p. map known_bound (bound_in p)) c.trigger_pattern.ensures))
