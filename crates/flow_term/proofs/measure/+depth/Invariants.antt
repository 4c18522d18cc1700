use Rattle.std.specs.Prelude.{sum_by}
use Rattle.std.proofs.Common.{◌≡◌, ◌+◌, ◌*◌, ◌≤◌, take}
use Rattle.flow_term.specs.Trees.{deepest, term_size}
use Rattle.flow_term.proofs.measure.+depth.Given as goal

abbrev pub decreases-depth : goal.decreases-depth
decreases-depth l = 2 * term_size l.term.now

abbrev pub decreases-greatest_depth : goal.decreases-greatest_depth
decreases-greatest_depth l = 2 * sum_by term_size l.terms.now + 1

abbrev pub invariant-greatest_depth-loop-term : goal.invariant-greatest_depth-loop-term
invariant-greatest_depth-loop-term l = record {
  deepest : l.deepest ≡ deepest (take l.term-index l.terms);
  within : l.deepest ≤ sum_by term_size (take l.term-index l.terms);
}
