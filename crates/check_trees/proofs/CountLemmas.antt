-- Terms are at most as many as the sum of their sizes.
use Rattle.std.proofs.Common.{◌≤◌, List, [], ◌∷◌, length, arith}
use Rattle.std.specs.Prelude.{sum_by}
use Rattle.std.proofs.lemmas.List.Sums.{sum_by-cons}
use Rattle.flow_term.specs.declared.term.Term.{Term}
use Rattle.flow_term.specs.Trees.{term_size}
use Rattle.flow_term.proofs.Sizes.{term_size_out}

pub count_le : (ts : List Term) → length ts ≤ sum_by term_size ts
count_le [] = omega arith
count_le (t ∷ ts) = omega (arith, count_le ts, term_size_out t, sum_by-cons term_size t ts)
