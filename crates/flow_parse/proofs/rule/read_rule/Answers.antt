use Rattle.std.proofs.Common.{rules}
use Rattle.flow_parse.proofs.RuleLaws.{rule_at}
use Rattle.flow_parse.proofs.rule.read_rule.Goals as goal

pub returns-in_err-property : goal.returns-in_err-property
returns-in_err-property c = rw (rule_at c.args.cursor.tokens.now) (search rules)

pub returns-in_err-trigger : goal.returns-in_err-trigger
returns-in_err-trigger c = rw (rule_at c.args.cursor.tokens.now) (search rules)

pub returns-in_err-body : goal.returns-in_err-body
returns-in_err-body c = rw (rule_at c.args.cursor.tokens.now) (search rules)

pub returns : goal.returns
returns c = rw (rule_at c.args.cursor.tokens.now) (search rules)
