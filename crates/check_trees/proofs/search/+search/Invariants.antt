use Rattle.std.proofs.Common.{◌+◌, ◌*◌, Some, slice_get, sum_by}
use Rattle.flow_term.specs.Trees.{term_size}
use Rattle.tree_fitting.proofs.ChildLemmas.{NoneBefore}
use Rattle.check_trees.proofs.search.+search.Given as goal

abbrev pub decreases-misfit : goal.decreases-misfit
decreases-misfit l = 3 * term_size l.term.now + 2

abbrev pub decreases-misfit_of_sort : goal.decreases-misfit_of_sort
decreases-misfit_of_sort l = 3 * term_size l.term.now + 1

abbrev pub decreases-misfit_of_list : goal.decreases-misfit_of_list
decreases-misfit_of_list l = 3 * term_size l.term.now + 1

abbrev pub decreases-misfit_of_tuple : goal.decreases-misfit_of_tuple
decreases-misfit_of_tuple l = 3 * term_size l.term.now + 1

abbrev pub decreases-misfit_in_items : goal.decreases-misfit_in_items
decreases-misfit_in_items l = 3 * sum_by term_size l.items.now + 3

abbrev pub decreases-misfit_in_parts : goal.decreases-misfit_in_parts
decreases-misfit_in_parts l = 3 * sum_by term_size l.parts.now + 3

-- no misfit in what was searched
abbrev pub invariant-misfit_in_items-loop-n : goal.invariant-misfit_in_items-loop-n
invariant-misfit_in_items-loop-n l = NoneBefore l.constructors (λ n. Some l.sort) l.items l.n

abbrev pub invariant-misfit_in_parts-loop-n : goal.invariant-misfit_in_parts-loop-n
invariant-misfit_in_parts-loop-n l = NoneBefore l.constructors (slice_get l.sorts) l.parts l.n
