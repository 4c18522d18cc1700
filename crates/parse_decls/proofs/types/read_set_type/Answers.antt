use Rattle.std.proofs.Common.{rules}
use Rattle.parse_decls.proofs.TypeLaws.{set_at}
use Rattle.parse_decls.proofs.types.read_set_type.Goals as goal

pub returns-in_err-elements : goal.returns-in_err-elements
returns-in_err-elements c = rw (set_at c.args.nesting c.args.cursor.tokens.now) (search rules)

pub returns : goal.returns
returns c = rw (set_at c.args.nesting c.args.cursor.tokens.now) (search rules)
