use Rattle.std.proofs.Common.{rules}
use Rattle.flow_parse.proofs.RuleLaws.{message_at}
use Rattle.flow_parse.proofs.message.read_message.Goals as goal

pub returns-in_err-word : goal.returns-in_err-word
returns-in_err-word c = rw (message_at c.args.cursor.tokens.now) (search rules)

pub returns-in_err-parts : goal.returns-in_err-parts
returns-in_err-parts c = rw (message_at c.args.cursor.tokens.now) (search rules)

pub returns-in_err-rest : goal.returns-in_err-rest
returns-in_err-rest c = rw (message_at c.args.cursor.tokens.now) (search rules)

pub returns-in_err-pattern : goal.returns-in_err-pattern
returns-in_err-pattern c = rw (message_at c.args.cursor.tokens.now) (search rules)

pub returns-in_err-condition : goal.returns-in_err-condition
returns-in_err-condition c = rw (message_at c.args.cursor.tokens.now) (search rules)

pub returns : goal.returns
returns c = rw (message_at c.args.cursor.tokens.now) (search rules)
