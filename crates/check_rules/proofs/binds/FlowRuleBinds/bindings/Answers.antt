use Rattle.std.proofs.Common.{◌++◌, ◌∙◌, ap, map}
use Rattle.flow_syntax.specs.Binders.{bound_in}
use Rattle.check_rules.specs.inner.Tables.{known_bound, known_by}
use Rattle.check_rules.proofs.Repeats.{of_pattern}
use Rattle.check_rules.proofs.binds.FlowRuleBinds.bindings.Goals as goal

pub returns : goal.returns
returns c =
    of_pattern c.push_variables.new.out.items (bound_in c.args.self.now.head)
    (c.in_ok-push_variables.ensures ∙ ap (λ xs. map known_by xs ++ map known_bound (bound_in c.args.self.now.head)) c.new-bindings.ensures.items)
