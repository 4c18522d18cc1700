use Rattle.std.proofs.Common.{◌∙◌}
use Rattle.flow_match.proofs.Found.{rule_found}
use Rattle.flow_match.proofs.indexed.RuleIndexRuleSource.control_rule.Goals as goal

pub returns-clause-rule : goal.returns-clause-rule
returns-clause-rule g c = c.rule_among.ensures ∙ rule_found c.args.term.now c.args.self.now.spec.now.spec.control c.as_slice-rules.result.now c.args.self.now.control c.numbers.result.now c.args.self.now.control_indexed c.as_slice-rules.ensures c.numbers.ensures
