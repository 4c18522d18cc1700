use Rattle.flow_term.specs.Elements.{elem_cmp}
use Rattle.lattice_sets.specs.SetLaws.{union_is_union, intersection_is_intersection}
use Rattle.value_domains.specs.inner.Elements.{elem_total, elem_exact}
use Rattle.lattice_any.proofs.laws.set_joins_are_unions_and_intersections.Goals as goal

pub returns-clause-may : goal.returns-clause-may
returns-clause-may c a b ra rb = union_is_union elem_cmp elem_total elem_exact a b ra

pub returns-clause-must : goal.returns-clause-must
returns-clause-must c a b ra rb = intersection_is_intersection elem_cmp elem_total elem_exact a b ra
