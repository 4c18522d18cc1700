use Rattle.std.proofs.Common.{◌≡◌, ◌+◌, ◌-◌, ◌*◌, length}
use Rattle.spec_grammar.proofs.Turns.{more_after}
use Rattle.spec_grammar.specs.Symbols.{APattern}
use Rattle.spec_grammar.specs.declared.kind.Kind.TheVariants as kinds
use Rattle.parse_rules.proofs.pattern.+pattern.Given as goal

abbrev pub decreases-read_pattern : goal.decreases-read_pattern
decreases-read_pattern l = 9 * (257 - l.nesting) + 6

abbrev pub decreases-read_identifier_pattern : goal.decreases-read_identifier_pattern
decreases-read_identifier_pattern l = 9 * (257 - l.nesting) + 5

abbrev pub decreases-read_firm_pattern : goal.decreases-read_firm_pattern
decreases-read_firm_pattern l = 9 * (257 - l.nesting) + 5

abbrev pub decreases-read_unnamed_pattern : goal.decreases-read_unnamed_pattern
decreases-read_unnamed_pattern l = 9 * (257 - l.nesting) + 4

abbrev pub decreases-read_application : goal.decreases-read_application
decreases-read_application l = 9 * (257 - l.nesting) + 3

abbrev pub decreases-read_quoted_pattern : goal.decreases-read_quoted_pattern
decreases-read_quoted_pattern l = 9 * (257 - l.nesting) + 3

abbrev pub decreases-read_arguments : goal.decreases-read_arguments
decreases-read_arguments l = 9 * (257 - l.nesting) + 2

abbrev pub decreases-read_bracketed : goal.decreases-read_bracketed
decreases-read_bracketed l = 9 * (257 - l.nesting) + 1

abbrev pub decreases-read_patterns : goal.decreases-read_patterns
decreases-read_patterns l = 9 * (257 - l.nesting) + 8

abbrev pub decreases-read_more_patterns : goal.decreases-read_more_patterns
decreases-read_more_patterns l = 9 * (257 - l.nesting) + 7

abbrev pub invariant-read_more_patterns-loop-alloc : goal.invariant-read_more_patterns-loop-alloc
invariant-read_more_patterns-loop-alloc l = more_after l.nesting kinds.Comma APattern l.patterns l.rest.tokens.now ≡ more_after l.fn.nesting kinds.Comma APattern l.fn.patterns l.fn.cursor.tokens.now

abbrev pub decreases-read_more_patterns-loop-alloc : goal.decreases-read_more_patterns-loop-alloc
decreases-read_more_patterns-loop-alloc l = length l.rest.tokens.now
