use Rattle.flow_solver.proofs.PermutationLemmas.{distinct_permuted, has_permuted, set_permuted}
use Rattle.flow_solver.proofs.numbers.NumberSet.sort.Goals as goal

pub invariant_of-self : goal.invariant_of-self
invariant_of-self g c = set_permuted c.self.inside.items.items c.sort_keys.new.keys.items c.self.inside.marks.items c.sort_keys.ensures.permutation c.self.invariant

pub returns-clause-same : goal.returns-clause-same
returns-clause-same g c = rw (← c.self.view_is) (has_permuted c.self.inside.items.items c.sort_keys.new.keys.items c.sort_keys.ensures.permutation)

pub returns-clause-once : goal.returns-clause-once
returns-clause-once g c = distinct_permuted c.self.inside.items.items c.sort_keys.new.keys.items c.sort_keys.ensures.permutation c.self.invariant.once
