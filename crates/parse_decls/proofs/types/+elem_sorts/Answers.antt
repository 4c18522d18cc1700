use Rattle.std.proofs.Common.{arith, rules, sym}
use Rattle.spec_grammar.proofs.GivesLemmas.{deep_fails}
use Rattle.spec_grammar.specs.Symbols.{AnElemSort}
use Rattle.parse_decls.proofs.TypeLaws.{elem_plain, elem_pair}
use Rattle.parse_decls.proofs.types.+elem_sorts.Goals as goal

pub read_elem_sort-returns-then-nesting-gt-LIMIT : goal.read_elem_sort-returns-then-nesting-gt-LIMIT
read_elem_sort-returns-then-nesting-gt-LIMIT t c = deep_fails c.too_deep.result c.args.nesting AnElemSort c.args.cursor.tokens.now c.if-nesting-gt-LIMIT.true c.too_deep.ensures

pub read_elem_sort-returns-then-begins_any : goal.read_elem_sort-returns-then-begins_any
read_elem_sort-returns-then-begins_any t c = rw (elem_plain c.args.nesting c.args.cursor.tokens.now (omega arith) (sym c.if-begins_any.ensures)) c.read_plain_elem_sort.ensures

pub read_elem_sort-returns-in_err-first : goal.read_elem_sort-returns-in_err-first
read_elem_sort-returns-in_err-first t c = rw (elem_pair c.args.nesting c.args.cursor.tokens.now (omega arith) (sym c.if-begins_any.ensures)) (search rules)

pub read_elem_sort-returns : goal.read_elem_sort-returns
read_elem_sort-returns t c = rw (elem_pair c.args.nesting c.args.cursor.tokens.now (omega arith) (sym c.if-begins_any.ensures)) (search rules)
