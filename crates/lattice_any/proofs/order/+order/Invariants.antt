use Rattle.std.proofs.Common.{◌≡◌, ◌↔◌, ◌+◌, ◌*◌, length}
use Rattle.flow_term.specs.Elements.{elem_cmp}
use Rattle.lattice_sets.specs.Maps.{IsMap}
use Rattle.lattice_any.specs.declared.any.AnyL.{size-AnyL}
use Rattle.value_domains.specs.Domains.{IsValueOf, least_of, joined_of}
use Rattle.value_domains.specs.Values.{map_join, pairs_of}
use Rattle.lattice_any.specs.Types.{domain_of_any}
use Rattle.lattice_any.proofs.order.+order.Given as goal

abbrev pub decreases-is_below : goal.decreases-is_below
decreases-is_below l = 3 * size-AnyL l.lattice.now

abbrev pub decreases-are_below : goal.decreases-are_below
decreases-are_below l = 3 * size-AnyL l.values.now + 2

abbrev pub invariant-are_below-loop-x : goal.invariant-are_below-loop-x
invariant-are_below-loop-x l = record {
  left : IsMap elem_cmp (IsValueOf (domain_of_any l.values)) (least_of (domain_of_any l.values)) (pairs_of l.left);
  right : IsMap elem_cmp (IsValueOf (domain_of_any l.values)) (least_of (domain_of_any l.values)) (pairs_of l.right);
  answer : (map_join (joined_of (domain_of_any l.values)) (pairs_of l.left) (pairs_of l.right) ≡ pairs_of l.right) ↔ (map_join (joined_of (domain_of_any l.values)) (pairs_of l.a) (pairs_of l.b) ≡ pairs_of l.b);
}

abbrev pub decreases-are_below-loop-x : goal.decreases-are_below-loop-x
decreases-are_below-loop-x l = length l.left + length l.right
