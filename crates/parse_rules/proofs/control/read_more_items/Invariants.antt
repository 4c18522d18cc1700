use Rattle.std.proofs.Common.{◌≡◌, length}
use Rattle.spec_grammar.proofs.Turns.{more_after}
use Rattle.spec_grammar.specs.Symbols.{AnItem}
use Rattle.spec_grammar.specs.declared.kind.Kind.TheVariants as kinds
use Rattle.parse_rules.proofs.control.read_more_items.Given as goal

abbrev pub invariant-loop-alloc : goal.invariant-loop-alloc
invariant-loop-alloc l = more_after l.nesting kinds.Arrow AnItem l.items l.rest.tokens.now ≡ more_after l.fn.nesting kinds.Arrow AnItem l.fn.items l.fn.cursor.tokens.now

abbrev pub decreases-loop-alloc : goal.decreases-loop-alloc
decreases-loop-alloc l = length l.rest.tokens.now
