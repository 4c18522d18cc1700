-- By their tests domains are lattices, and those that are made of given elements are ranked.
use Rattle.std.proofs.Common.{◌≡◌, Bool, true, ◌&&◌, arith}
use Rattle.std.specs.Bool.{Decides}
use Rattle.std.proofs.Math.Nat.{lt_of_not-le, mul-le-mul}
use Rattle.std.proofs.lemmas.Bool.{and_parts, both_ways}
use Rattle.std.proofs.lemmas.Bool.Decides.{Decides-and}
use Rattle.flow_term.specs.declared.value.Value.{Value}
use Rattle.lattice_base.specs.Laws.{JoinLaws, OrderLaw}
use Rattle.value_domains.specs.Domains.{may, must, flat, map_to, pair_of, listed, IsValueOf, IsBelowIn, least_of, joined_of}
use Rattle.value_domains.specs.inner.Carried.{part_laws, part_order}
use Rattle.value_domains.specs.inner.DomainLaws.{domain_laws, domain_order}
use Rattle.value_heights.specs.Heights.{is_within}
use Rattle.value_heights.specs.Laws.{DomainsAreLattices, DomainsAreRanked, HeightsAreMonotone}
use Rattle.value_heights.specs.Ranked.{IsLattice}
use Rattle.value_heights.specs.Tests.{is_valid, is_below}
use Rattle.value_heights.proofs.Ranks.{rank_within, rank_back}
use Rattle.value_heights.proofs.Told.{values_told, orders_told}
use Rattle.value_heights.proofs.Within.{least_within, joined_within}

-- a lattice on what a test tells, in the order that a test tells

module _ {V : Type 0} (Valid : V → Type 0) (least : V) (joined : V → V → V) (Below : V → V → Type 0) (laws : JoinLaws Valid least joined) (order : OrderLaw Valid joined Below)
    (fits : V → Bool) (leq : V → V → Bool) (told : (v : V) → Decides (fits v) (Valid v)) (order_told : (a b : V) → Valid a → Valid b → Decides (leq a b) (Below a b)) where
  lattice_by_tests : IsLattice fits least joined leq
  lattice_by_tests = record {
    joins = record {
      least_valid = (told least).1 laws.least_valid;
      joined_valid = λ a b fa fb. (told (joined a b)).1 (laws.joined_valid a b ((told a).0 fa) ((told b).0 fb));
      idempotent = λ a fa. laws.idempotent a ((told a).0 fa);
      commutative = λ a b fa fb. laws.commutative a b ((told a).0 fa) ((told b).0 fb);
      associative = λ a b c fa fb fc. laws.associative a b c ((told a).0 fa) ((told b).0 fb) ((told c).0 fc);
      neutral = λ a fa. laws.neutral a ((told a).0 fa);
    };
    order = λ a b fa fb.
        let va = (told a).0 fa in
        let vb = (told b).0 fb in
        (λ h. (order a b va vb).0 ((order_told a b va vb).0 h), λ e. (order_told a b va vb).1 ((order a b va vb).1 e));
  }

pub are_lattices : DomainsAreLattices
are_lattices d lawful =
    lattice_by_tests (IsValueOf d) (least_of d) (joined_of d) (IsBelowIn d) (domain_laws d lawful) (domain_order d lawful)
    (is_valid d) (is_below d) (values_told d lawful) (orders_told d lawful)

within_told : (b : Bool) → Decides b (b ≡ true)
within_told b = (λ h. h, λ h. h)

pub are_ranked : DomainsAreRanked
are_ranked elements d lawful =
    let within : Value → Type 0 = λ v. is_within elements d v ≡ true in
    let joins : (a b : Value) → IsValueOf d a → IsValueOf d b → within a → within b → within (joined_of d a b) = λ a b _ _ wa wb. joined_within elements d a b wa wb in
    record {
      lattice = lattice_by_tests (λ v. IsValueOf d v × within v) (least_of d) (joined_of d) (IsBelowIn d)
          (part_laws (IsValueOf d) (least_of d) (joined_of d) (domain_laws d lawful) within (least_within elements d) joins)
          (part_order (IsValueOf d) (least_of d) (joined_of d) (domain_laws d lawful) within (least_within elements d) joins (IsBelowIn d) (domain_order d lawful))
          (λ v. is_valid d v && is_within elements d v) (is_below d)
          (λ v. Decides-and (is_valid d v) (is_within elements d v) (values_told d lawful v) (within_told (is_within elements d v)))
          (λ a b va vb. orders_told d lawful a b va.0 vb.0);
      rank_within = λ a fa. rank_within elements d lawful a ((values_told d lawful a).0 (and_parts (is_valid d a) (is_within elements d a) fa).0);
      rank_rises = λ a b fa fb below above.
          let pa = and_parts (is_valid d a) (is_within elements d a) fa in
          let pb = and_parts (is_valid d b) (is_within elements d b) fb in
          let va = (values_told d lawful a).0 pa.0 in
          let vb = (values_told d lawful b).0 pb.0 in
          lt_of_not-le (λ h. both_ways (is_below d b a) above ((orders_told d lawful b a vb va).1 (rank_back elements d lawful a b va vb pa.1 pb.1 ((orders_told d lawful a b va vb).0 below) h)));
    }

pub are_monotone : HeightsAreMonotone
are_monotone few many more (may sort) = more sort
are_monotone few many more (must sort) = omega (arith, more sort)
are_monotone few many more (flat sort) = omega arith
are_monotone few many more (map_to sort inner) = mul-le-mul (more sort) (are_monotone few many more inner)
are_monotone few many more (pair_of left right) = omega (arith, are_monotone few many more left, are_monotone few many more right)
are_monotone few many more (listed t) = omega arith
