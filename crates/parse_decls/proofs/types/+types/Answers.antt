use Rattle.std.proofs.Common.{arith, rules, sym}
use Rattle.spec_grammar.proofs.GivesLemmas.{deep_fails}
use Rattle.spec_grammar.specs.Symbols.{AType}
use Rattle.parse_decls.proofs.TypeLaws.{type_set, type_map, type_pair, type_table}
use Rattle.parse_decls.proofs.types.+types.Goals as goal

pub read_type-returns-then-nesting-gt-LIMIT : goal.read_type-returns-then-nesting-gt-LIMIT
read_type-returns-then-nesting-gt-LIMIT t c = deep_fails c.too_deep.result c.args.nesting AType c.args.cursor.tokens.now c.if-nesting-gt-LIMIT.true c.too_deep.ensures

pub read_type-returns-then-begins_any : goal.read_type-returns-then-begins_any
read_type-returns-then-begins_any t c = rw (type_set c.args.nesting c.args.cursor.tokens.now (omega arith) (sym c.if-begins_any.ensures)) c.read_set_type.ensures

pub read_type-returns-in_err-keys : goal.read_type-returns-in_err-keys
read_type-returns-in_err-keys t c = rw (type_map c.args.nesting c.args.cursor.tokens.now (omega arith) (sym c.if-begins.ensures)) (search rules)

pub read_type-returns-then-begins : goal.read_type-returns-then-begins
read_type-returns-then-begins t c = rw (type_map c.args.nesting c.args.cursor.tokens.now (omega arith) (sym c.if-begins.ensures)) (search rules)

pub read_type-returns-in_err-first : goal.read_type-returns-in_err-first
read_type-returns-in_err-first t c = rw (type_pair c.args.nesting c.args.cursor.tokens.now (omega arith) (sym c.if-begins-2.ensures)) (search rules)

pub read_type-returns-then-begins-2 : goal.read_type-returns-then-begins-2
read_type-returns-then-begins-2 t c = rw (type_pair c.args.nesting c.args.cursor.tokens.now (omega arith) (sym c.if-begins-2.ensures)) (search rules)

pub read_type-returns-in_err-name : goal.read_type-returns-in_err-name
read_type-returns-in_err-name t c = rw (type_table c.args.nesting c.args.cursor.tokens.now (omega arith) (sym c.if-begins_any.ensures) (sym c.if-begins.ensures) (sym c.if-begins-2.ensures)) (search rules)

pub read_type-returns : goal.read_type-returns
read_type-returns t c = rw (type_table c.args.nesting c.args.cursor.tokens.now (omega arith) (sym c.if-begins_any.ensures) (sym c.if-begins.ensures) (sym c.if-begins-2.ensures)) (search rules)
