use Rattle.std.proofs.Common.{ap, ◌∙◌}
use Rattle.std.specs.List.{list_any}
use Rattle.flow_syntax.specs.Binders.{bound_in}
use Rattle.flow_syntax.specs.Control.{is_variable_in}
use Rattle.flow_syntax.specs.Matching.{pattern_layer}
use Rattle.flow_syntax.specs.RuleFaults.{binds_itself}
use Rattle.check_rules.proofs.Heads.{first_known}
use Rattle.check_rules.proofs.head.head_of.Goals as goal

pub returns : goal.returns
returns c = record {
  variables = λ x. c.in_ok-variables.ensures x ∙ first_known x (bound_in c.args.rule.now.head);
  direct = λ x. c.in_ok-direct.ensures x ∙ ap (list_any (λ p. binds_itself x (pattern_layer p))) c.arguments.ensures;
  arguments = λ x. c.in_ok-arguments.ensures x ∙ ap (list_any (λ p. is_variable_in x (pattern_layer p))) c.arguments-2.ensures;
}
