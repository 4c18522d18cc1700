use Rattle.std.proofs.Common.{arith, rules}
use Rattle.parse_decls.proofs.TableLaws.{property_at}
use Rattle.parse_decls.proofs.types.read_property.Goals as goal

pub returns-in_err-name : goal.returns-in_err-name
returns-in_err-name c = rw (property_at 0 c.args.cursor.tokens.now (omega arith)) (search rules)

pub returns-in_err-rest : goal.returns-in_err-rest
returns-in_err-rest c = rw (property_at 0 c.args.cursor.tokens.now (omega arith)) (search rules)

pub returns-in_err-lattice : goal.returns-in_err-lattice
returns-in_err-lattice c = rw (property_at 0 c.args.cursor.tokens.now (omega arith)) (search rules)

pub returns : goal.returns
returns c = rw (property_at 0 c.args.cursor.tokens.now (omega arith)) (search rules)
