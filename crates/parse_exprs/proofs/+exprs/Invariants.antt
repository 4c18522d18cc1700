use Rattle.std.proofs.Common.{◌≤◌, ◌≡◌, ◌+◌, ◌-◌, ◌*◌, length}
use Rattle.spec_grammar.proofs.Turns.{more_after}
use Rattle.spec_grammar.specs.Choice.{rank_of_level, rank_of_operand}
use Rattle.spec_grammar.specs.Reading.{reads}
use Rattle.spec_grammar.specs.Symbols.{AnExpr, ALevel, ALookup}
use Rattle.spec_grammar.specs.declared.kind.Kind.TheVariants as kinds
use Rattle.parse_exprs.proofs.LevelLaws.{reads_operators, reads_suffixes}
use Rattle.parse_exprs.proofs.PrimaryLaws.{reads_entries}
use Rattle.parse_exprs.proofs.+exprs.Given as goal

-- A function that calls another at the same nesting is of higher rank; the symbols have those of the grammar.

abbrev pub decreases-exprs::expr : goal.decreases-exprs::expr
decreases-exprs::expr l = 24 * (257 - l.nesting) + 16

abbrev pub decreases-exprs::expr_after : goal.decreases-exprs::expr_after
decreases-exprs::expr_after l = 24 * (257 - l.nesting) + 17

abbrev pub decreases-exprs::conditional : goal.decreases-exprs::conditional
decreases-exprs::conditional l = 24 * (257 - l.nesting) + 18

abbrev pub decreases-exprs::binding : goal.decreases-exprs::binding
decreases-exprs::binding l = 24 * (257 - l.nesting) + 18

abbrev pub decreases-exprs::level_of : goal.decreases-exprs::level_of
decreases-exprs::level_of l = 24 * (257 - l.nesting) + rank_of_level l.level

abbrev pub invariant-exprs::level_of-loop-operators : goal.invariant-exprs::level_of-loop-operators
invariant-exprs::level_of-loop-operators l = record {
  least : l.nesting ≤ l.deeper;
  deep : l.deeper ≤ 257;
  reads : reads_operators l.deeper l.level l.left l.rest.tokens.now ≡ reads l.nesting (ALevel l.level) l.cursor.tokens.now;
}

abbrev pub decreases-exprs::level_of-loop-operators : goal.decreases-exprs::level_of-loop-operators
decreases-exprs::level_of-loop-operators l = 258 - l.deeper

abbrev pub decreases-exprs::operand : goal.decreases-exprs::operand
decreases-exprs::operand l = 24 * (257 - l.nesting) + rank_of_operand l.level

abbrev pub decreases-exprs::negation : goal.decreases-exprs::negation
decreases-exprs::negation l = 24 * (257 - l.nesting) + 11

abbrev pub decreases-exprs::comparison : goal.decreases-exprs::comparison
decreases-exprs::comparison l = 24 * (257 - l.nesting) + 10

abbrev pub decreases-exprs::opposite : goal.decreases-exprs::opposite
decreases-exprs::opposite l = 24 * (257 - l.nesting) + 3

abbrev pub decreases-exprs::lookup : goal.decreases-exprs::lookup
decreases-exprs::lookup l = 24 * (257 - l.nesting) + 2

abbrev pub invariant-exprs::lookup-loop-alloc : goal.invariant-exprs::lookup-loop-alloc
invariant-exprs::lookup-loop-alloc l = record {
  least : l.nesting ≤ l.deeper;
  deep : l.deeper ≤ 256;
  reads : reads_suffixes l.deeper l.whole l.rest.tokens.now ≡ reads l.nesting ALookup l.cursor.tokens.now;
}

abbrev pub decreases-exprs::lookup-loop-alloc : goal.decreases-exprs::lookup-loop-alloc
decreases-exprs::lookup-loop-alloc l = 258 - l.deeper

abbrev pub decreases-exprs::bracketed : goal.decreases-exprs::bracketed
decreases-exprs::bracketed l = 24 * (257 - l.nesting) + 19

abbrev pub decreases-primaries::primary : goal.decreases-primaries::primary
decreases-primaries::primary l = 24 * (257 - l.nesting) + 1

abbrev pub decreases-primaries::applied : goal.decreases-primaries::applied
decreases-primaries::applied l = 24 * (257 - l.nesting)

abbrev pub decreases-primaries::named : goal.decreases-primaries::named
decreases-primaries::named l = 24 * (257 - l.nesting)

abbrev pub decreases-primaries::called : goal.decreases-primaries::called
decreases-primaries::called l = 24 * (257 - l.nesting) + 20

abbrev pub decreases-primaries::arguments : goal.decreases-primaries::arguments
decreases-primaries::arguments l = 24 * (257 - l.nesting) + 19

abbrev pub decreases-primaries::pair : goal.decreases-primaries::pair
decreases-primaries::pair l = 24 * (257 - l.nesting) + 18

abbrev pub decreases-primaries::parenthesis : goal.decreases-primaries::parenthesis
decreases-primaries::parenthesis l = 24 * (257 - l.nesting)

abbrev pub decreases-primaries::brace : goal.decreases-primaries::brace
decreases-primaries::brace l = 24 * (257 - l.nesting)

abbrev pub decreases-primaries::elements : goal.decreases-primaries::elements
decreases-primaries::elements l = 24 * (257 - l.nesting) + 19

abbrev pub decreases-primaries::further : goal.decreases-primaries::further
decreases-primaries::further l = 24 * (257 - l.nesting) + 18

abbrev pub invariant-primaries::further-loop-alloc : goal.invariant-primaries::further-loop-alloc
invariant-primaries::further-loop-alloc l = more_after l.nesting kinds.Comma AnExpr l.elements l.rest.tokens.now ≡ more_after l.fn.nesting kinds.Comma AnExpr l.fn.elements l.fn.cursor.tokens.now

abbrev pub decreases-primaries::further-loop-alloc : goal.decreases-primaries::further-loop-alloc
decreases-primaries::further-loop-alloc l = length l.rest.tokens.now

abbrev pub decreases-primaries::comprehension : goal.decreases-primaries::comprehension
decreases-primaries::comprehension l = 24 * (257 - l.nesting) + 18

abbrev pub decreases-primaries::map : goal.decreases-primaries::map
decreases-primaries::map l = 24 * (257 - l.nesting)

abbrev pub decreases-primaries::entries : goal.decreases-primaries::entries
decreases-primaries::entries l = 24 * (257 - l.nesting) + 20

abbrev pub decreases-primaries::further_entries : goal.decreases-primaries::further_entries
decreases-primaries::further_entries l = 24 * (257 - l.nesting) + 19

abbrev pub invariant-primaries::further_entries-loop-alloc : goal.invariant-primaries::further_entries-loop-alloc
invariant-primaries::further_entries-loop-alloc l = reads_entries l.nesting l.entries l.rest.tokens.now ≡ reads_entries l.fn.nesting l.fn.entries l.fn.cursor.tokens.now

abbrev pub decreases-primaries::further_entries-loop-alloc : goal.decreases-primaries::further_entries-loop-alloc
decreases-primaries::further_entries-loop-alloc l = length l.rest.tokens.now

abbrev pub decreases-primaries::entry : goal.decreases-primaries::entry
decreases-primaries::entry l = 24 * (257 - l.nesting) + 18

abbrev pub decreases-exprs::optional_after : goal.decreases-exprs::optional_after
decreases-exprs::optional_after l = 24 * (257 - l.nesting) + 18

abbrev pub decreases-exprs::operated : goal.decreases-exprs::operated
decreases-exprs::operated l = 24 * (257 - l.nesting) + rank_of_operand l.level

abbrev pub decreases-exprs::suffix : goal.decreases-exprs::suffix
decreases-exprs::suffix l = 24 * (257 - l.nesting)
