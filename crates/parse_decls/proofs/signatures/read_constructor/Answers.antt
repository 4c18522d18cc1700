use Rattle.std.proofs.Common.{arith, rules}
use Rattle.parse_decls.proofs.TableLaws.{constructor_at}
use Rattle.parse_decls.proofs.signatures.read_constructor.Goals as goal

pub returns-in_err-name : goal.returns-in_err-name
returns-in_err-name c = rw (constructor_at 0 c.args.cursor.tokens.now (omega arith)) (search rules)

pub returns-in_err-rest : goal.returns-in_err-rest
returns-in_err-rest c = rw (constructor_at 0 c.args.cursor.tokens.now (omega arith)) (search rules)

pub returns-in_err-args : goal.returns-in_err-args
returns-in_err-args c = rw (constructor_at 0 c.args.cursor.tokens.now (omega arith)) (search rules)

pub returns-in_err-rest-2 : goal.returns-in_err-rest-2
returns-in_err-rest-2 c = rw (constructor_at 0 c.args.cursor.tokens.now (omega arith)) (search rules)

pub returns-in_err-made : goal.returns-in_err-made
returns-in_err-made c = rw (constructor_at 0 c.args.cursor.tokens.now (omega arith)) (search rules)

pub returns : goal.returns
returns c = rw (constructor_at 0 c.args.cursor.tokens.now (omega arith)) (search rules)
