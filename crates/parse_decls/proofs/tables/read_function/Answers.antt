use Rattle.std.proofs.Common.{arith, rules}
use Rattle.parse_decls.proofs.TableLaws.{function_at}
use Rattle.parse_decls.proofs.tables.read_function.Goals as goal

pub returns-in_err-name : goal.returns-in_err-name
returns-in_err-name c = rw (function_at 0 c.args.cursor.tokens.now (omega arith)) (search rules)

pub returns-in_err-args : goal.returns-in_err-args
returns-in_err-args c = rw (function_at 0 c.args.cursor.tokens.now (omega arith)) (search rules)

pub returns-in_err-rest : goal.returns-in_err-rest
returns-in_err-rest c = rw (function_at 0 c.args.cursor.tokens.now (omega arith)) (search rules)

pub returns-in_err-made : goal.returns-in_err-made
returns-in_err-made c = rw (function_at 0 c.args.cursor.tokens.now (omega arith)) (search rules)

pub returns-in_err-table : goal.returns-in_err-table
returns-in_err-table c = rw (function_at 0 c.args.cursor.tokens.now (omega arith)) (search rules)

pub returns : goal.returns
returns c = rw (function_at 0 c.args.cursor.tokens.now (omega arith)) (search rules)
