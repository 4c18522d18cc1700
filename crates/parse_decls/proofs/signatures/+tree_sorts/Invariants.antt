use Rattle.std.proofs.Common.{◌≡◌, ◌+◌, ◌-◌, ◌*◌, length}
use Rattle.spec_grammar.proofs.Turns.{more_after}
use Rattle.spec_grammar.specs.Symbols.{ATreeSort}
use Rattle.parse_decls.specs.inner.Pieces.{reads_sorts}
use Rattle.parse_decls.proofs.signatures.+tree_sorts.Given as goal

abbrev pub decreases-read_sort_in_round : goal.decreases-read_sort_in_round
decreases-read_sort_in_round l = 3 * (257 - l.nesting)

abbrev pub decreases-read_tree_sort : goal.decreases-read_tree_sort
decreases-read_tree_sort l = 3 * (257 - l.nesting) + 1

abbrev pub decreases-read_tree_sorts : goal.decreases-read_tree_sorts
decreases-read_tree_sorts l = 3 * (257 - l.nesting) + 2

abbrev pub invariant-read_tree_sorts-loop-alloc : goal.invariant-read_tree_sorts-loop-alloc
invariant-read_tree_sorts-loop-alloc l = more_after l.nesting l.separator ATreeSort l.sorts l.rest.tokens.now ≡ reads_sorts l.nesting l.separator l.cursor.tokens.now

abbrev pub decreases-read_tree_sorts-loop-alloc : goal.decreases-read_tree_sorts-loop-alloc
decreases-read_tree_sorts-loop-alloc l = length l.rest.tokens.now
