use Rattle.std.specs.Prelude.{sum_by}
use Rattle.std.proofs.Common.{◌≡◌, ◌+◌, ◌*◌, take}
use Rattle.flow_term.specs.Trees.{term_size}
use Rattle.flow_term.proofs.measure.+size.Given as goal

abbrev pub decreases-size : goal.decreases-size
decreases-size l = 2 * term_size l.term.now

abbrev pub decreases-size_of_all : goal.decreases-size_of_all
decreases-size_of_all l = 2 * sum_by term_size l.terms.now + 1

abbrev pub invariant-size_of_all-loop-term : goal.invariant-size_of_all-loop-term
invariant-size_of_all-loop-term l = l.total ≡ sum_by term_size (take l.term-index l.terms)
