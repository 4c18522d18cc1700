use Rattle.std.proofs.Common.{arith, rules}
use Rattle.parse_decls.proofs.TableLaws.{table_at}
use Rattle.parse_decls.proofs.tables.read_table.Goals as goal

pub returns-in_err-name : goal.returns-in_err-name
returns-in_err-name c = rw (table_at 0 c.args.cursor.tokens.now (omega arith)) (search rules)

pub returns-in_err-rest : goal.returns-in_err-rest
returns-in_err-rest c = rw (table_at 0 c.args.cursor.tokens.now (omega arith)) (search rules)

pub returns-in_err-rest-2 : goal.returns-in_err-rest-2
returns-in_err-rest-2 c = rw (table_at 0 c.args.cursor.tokens.now (omega arith)) (search rules)

pub returns-in_err-elements : goal.returns-in_err-elements
returns-in_err-elements c = rw (table_at 0 c.args.cursor.tokens.now (omega arith)) (search rules)

pub returns-in_err-rest-3 : goal.returns-in_err-rest-3
returns-in_err-rest-3 c = rw (table_at 0 c.args.cursor.tokens.now (omega arith)) (search rules)

pub returns-in_err-bottom : goal.returns-in_err-bottom
returns-in_err-bottom c = rw (table_at 0 c.args.cursor.tokens.now (omega arith)) (search rules)

pub returns-in_err-rest-4 : goal.returns-in_err-rest-4
returns-in_err-rest-4 c = rw (table_at 0 c.args.cursor.tokens.now (omega arith)) (search rules)

pub returns-in_err-join : goal.returns-in_err-join
returns-in_err-join c = rw (table_at 0 c.args.cursor.tokens.now (omega arith)) (search rules)

pub returns-in_err-rest-5 : goal.returns-in_err-rest-5
returns-in_err-rest-5 c = rw (table_at 0 c.args.cursor.tokens.now (omega arith)) (search rules)

pub returns : goal.returns
returns c = rw (table_at 0 c.args.cursor.tokens.now (omega arith)) (search rules)
