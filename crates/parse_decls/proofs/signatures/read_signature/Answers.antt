use Rattle.std.proofs.Common.{arith, rules}
use Rattle.parse_decls.proofs.TableLaws.{signature_at}
use Rattle.parse_decls.proofs.signatures.read_signature.Goals as goal

pub returns-in_err-rest : goal.returns-in_err-rest
returns-in_err-rest c = rw (signature_at 0 c.args.cursor.tokens.now (omega arith)) (search rules)

pub returns-in_err-rest-2 : goal.returns-in_err-rest-2
returns-in_err-rest-2 c = rw (signature_at 0 c.args.cursor.tokens.now (omega arith)) (search rules)

pub returns-in_err-start : goal.returns-in_err-start
returns-in_err-start c = rw (signature_at 0 c.args.cursor.tokens.now (omega arith)) (search rules)

pub returns-in_err-constructors : goal.returns-in_err-constructors
returns-in_err-constructors c = rw (signature_at 0 c.args.cursor.tokens.now (omega arith)) (search rules)

pub returns : goal.returns
returns c = rw (signature_at 0 c.args.cursor.tokens.now (omega arith)) (search rules)
