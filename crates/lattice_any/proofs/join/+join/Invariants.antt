use Rattle.std.proofs.Common.{◌≡◌, ◌++◌, ◌+◌, ◌*◌, length}
use Rattle.flow_term.specs.Elements.{elem_cmp}
use Rattle.lattice_sets.specs.Maps.{IsMap}
use Rattle.lattice_any.specs.declared.any.AnyL.{size-AnyL}
use Rattle.value_domains.specs.Domains.{IsValueOf, least_of, joined_of}
use Rattle.value_domains.specs.Values.{map_join, pairs_of}
use Rattle.lattice_any.specs.Types.{domain_of_any}
use Rattle.lattice_any.proofs.join.+join.Given as goal

abbrev pub decreases-join_values : goal.decreases-join_values
decreases-join_values l = 3 * size-AnyL l.lattice.now

abbrev pub decreases-push_joined : goal.decreases-push_joined
decreases-push_joined l = 3 * size-AnyL l.values.now + 1

abbrev pub decreases-join_entries : goal.decreases-join_entries
decreases-join_entries l = 3 * size-AnyL l.values.now + 2

abbrev pub invariant-join_entries-loop-x : goal.invariant-join_entries-loop-x
invariant-join_entries-loop-x l = record {
  left : IsMap elem_cmp (IsValueOf (domain_of_any l.values)) (least_of (domain_of_any l.values)) (pairs_of l.left);
  right : IsMap elem_cmp (IsValueOf (domain_of_any l.values)) (least_of (domain_of_any l.values)) (pairs_of l.right);
  whole : pairs_of l.list ++ map_join (joined_of (domain_of_any l.values)) (pairs_of l.left) (pairs_of l.right) ≡ map_join (joined_of (domain_of_any l.values)) (pairs_of l.a) (pairs_of l.b);
}

abbrev pub decreases-join_entries-loop-x : goal.decreases-join_entries-loop-x
decreases-join_entries-loop-x l = length l.left + length l.right
