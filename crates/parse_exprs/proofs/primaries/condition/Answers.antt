use Rattle.std.proofs.Common.{rules}
use Rattle.parse_exprs.proofs.PrimaryLaws.{condition_at}
use Rattle.parse_exprs.proofs.primaries.condition.Goals as goal

pub returns-then-not-begins : goal.returns-then-not-begins
returns-then-not-begins c = rw (condition_at c.args.nesting c.args.cursor.tokens.now) (search rules)

pub returns-in_err-e : goal.returns-in_err-e
returns-in_err-e c = rw (condition_at c.args.nesting c.args.cursor.tokens.now) (search rules)

pub returns : goal.returns
returns c = rw (condition_at c.args.nesting c.args.cursor.tokens.now) (search rules)
