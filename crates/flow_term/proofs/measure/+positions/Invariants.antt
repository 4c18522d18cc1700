use Rattle.std.specs.Prelude.{sum_by}
use Rattle.std.proofs.Common.{◌≡◌, ◌+◌, ◌*◌, ◌≤◌, take}
use Rattle.flow_term.specs.Trees.{position_count, term_size}
use Rattle.flow_term.proofs.measure.+positions.Given as goal

abbrev pub decreases-positions : goal.decreases-positions
decreases-positions l = 2 * term_size l.term.now

abbrev pub decreases-positions_of_all : goal.decreases-positions_of_all
decreases-positions_of_all l = 2 * sum_by term_size l.terms.now + 1

abbrev pub invariant-positions_of_all-loop-term : goal.invariant-positions_of_all-loop-term
invariant-positions_of_all-loop-term l = record {
  count : l.total ≡ sum_by position_count (take l.term-index l.terms);
  within : l.total ≤ sum_by term_size (take l.term-index l.terms);
}
