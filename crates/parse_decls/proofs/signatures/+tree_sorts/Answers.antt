use Rattle.std.proofs.Common.{arith, rules, refl, sym, ◌∙◌}
use Rattle.spec_grammar.proofs.Turns.{after_take, after_turn}
use Rattle.spec_grammar.specs.Symbols.{ATreeSort}
use Rattle.spec_grammar.proofs.GivesLemmas.{deep_fails}
use Rattle.parse_decls.proofs.SortLaws.{sort_plain, sort_list, sort_tuple}
use Rattle.parse_decls.proofs.signatures.+tree_sorts.Goals as goal

pub read_tree_sort-returns-then-nesting-gt-LIMIT : goal.read_tree_sort-returns-then-nesting-gt-LIMIT
read_tree_sort-returns-then-nesting-gt-LIMIT t c = deep_fails c.too_deep.result c.args.nesting ATreeSort c.args.cursor.tokens.now c.if-nesting-gt-LIMIT.true c.too_deep.ensures

pub read_tree_sort-returns-then-begins_any : goal.read_tree_sort-returns-then-begins_any
read_tree_sort-returns-then-begins_any t c = rw (sort_plain c.args.nesting c.args.cursor.tokens.now (omega arith) (sym c.if-begins_any.ensures)) c.read_plain_tree_sort.ensures

pub read_tree_sort-returns-in_err-items : goal.read_tree_sort-returns-in_err-items
read_tree_sort-returns-in_err-items t c = rw (sort_list c.args.nesting c.args.cursor.tokens.now (omega arith) (sym c.if-begins.ensures)) (search rules)

pub read_tree_sort-returns-then-begins : goal.read_tree_sort-returns-then-begins
read_tree_sort-returns-then-begins t c = rw (sort_list c.args.nesting c.args.cursor.tokens.now (omega arith) (sym c.if-begins.ensures)) (search rules)

pub read_tree_sort-returns-in_err-rest-2 : goal.read_tree_sort-returns-in_err-rest-2
read_tree_sort-returns-in_err-rest-2 t c = rw (sort_tuple c.args.nesting c.args.cursor.tokens.now (omega arith) (sym c.if-begins_any.ensures) (sym c.if-begins.ensures)) (search rules)

pub read_tree_sort-returns-in_err-parts : goal.read_tree_sort-returns-in_err-parts
read_tree_sort-returns-in_err-parts t c = rw (sort_tuple c.args.nesting c.args.cursor.tokens.now (omega arith) (sym c.if-begins_any.ensures) (sym c.if-begins.ensures)) (search rules)

pub read_tree_sort-returns-in_err-rest-3 : goal.read_tree_sort-returns-in_err-rest-3
read_tree_sort-returns-in_err-rest-3 t c = rw (sort_tuple c.args.nesting c.args.cursor.tokens.now (omega arith) (sym c.if-begins_any.ensures) (sym c.if-begins.ensures)) (search rules)

pub read_tree_sort-returns : goal.read_tree_sort-returns
read_tree_sort-returns t c = rw (sort_tuple c.args.nesting c.args.cursor.tokens.now (omega arith) (sym c.if-begins_any.ensures) (sym c.if-begins.ensures)) (search rules)

pub read_tree_sorts-loop-alloc-smaller : goal.read_tree_sorts-loop-alloc-smaller
read_tree_sorts-loop-alloc-smaller t c = after_take c.args.nesting c.args.separator ATreeSort c.loop-alloc.rest.tokens.now c.in_ok-after.field-0-0.now c.in_ok-after.after.tokens.now c.in_ok-sort.sort c.in_ok-sort.after.tokens.now c.in_ok-after.ensures.reads c.in_ok-sort.ensures

pub read_tree_sorts-loop-alloc-preserved : goal.read_tree_sorts-loop-alloc-preserved
read_tree_sorts-loop-alloc-preserved t c = rw c.in_ok-push-2.ensures.ok (sym (after_turn c.args.nesting c.args.separator ATreeSort c.loop-alloc.sorts c.loop-alloc.rest.tokens.now c.requires.kind (sym c.loop-alloc-test.ensures) ∙ rw (c.in_ok-after.ensures.reads, c.in_ok-sort.ensures) refl) ∙ c.loop-alloc.invariant)
