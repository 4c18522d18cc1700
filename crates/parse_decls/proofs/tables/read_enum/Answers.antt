use Rattle.std.proofs.Common.{arith, rules}
use Rattle.parse_decls.proofs.TableLaws.{enum_at}
use Rattle.parse_decls.proofs.tables.read_enum.Goals as goal

pub returns-in_err-name : goal.returns-in_err-name
returns-in_err-name c = rw (enum_at 0 c.args.cursor.tokens.now (omega arith)) (search rules)

pub returns-in_err-rest : goal.returns-in_err-rest
returns-in_err-rest c = rw (enum_at 0 c.args.cursor.tokens.now (omega arith)) (search rules)

pub returns-in_err-items : goal.returns-in_err-items
returns-in_err-items c = rw (enum_at 0 c.args.cursor.tokens.now (omega arith)) (search rules)

pub returns : goal.returns
returns c = rw (enum_at 0 c.args.cursor.tokens.now (omega arith)) (search rules)
