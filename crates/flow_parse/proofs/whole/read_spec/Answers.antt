use Rattle.std.proofs.Common.{rules}
use Rattle.flow_parse.proofs.WholeLaws.{spec_at}
use Rattle.flow_parse.proofs.whole.read_spec.Goals as goal

pub returns-in_err-name : goal.returns-in_err-name
returns-in_err-name c = rw (spec_at c.args.cursor.tokens.now) (search rules)

pub returns-in_err-signed : goal.returns-in_err-signed
returns-in_err-signed c = rw (spec_at c.args.cursor.tokens.now) (search rules)

pub returns-in_err-enums : goal.returns-in_err-enums
returns-in_err-enums c = rw (spec_at c.args.cursor.tokens.now) (search rules)

pub returns-in_err-body : goal.returns-in_err-body
returns-in_err-body c = rw (spec_at c.args.cursor.tokens.now) (search rules)

pub returns : goal.returns
returns c = rw (spec_at c.args.cursor.tokens.now) (search rules)
