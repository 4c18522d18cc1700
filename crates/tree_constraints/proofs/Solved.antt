-- Systems over given elements: their ranks, what their replays lead to, and their bounds.
use Rattle.std.proofs.Common.{◌≡◌, ℕ, ◌*◌, ◌≤◌, true, List, [], ◌∷◌, length, refl, sym, ap, subst, ◌∙◌, arith}
use Rattle.std.proofs.Math.Nat.{mul-le-mul_right}
use Rattle.std.proofs.lemmas.Bool.{and_parts, and_from}
use Rattle.list_theory.specs.Lists.{has}
use Rattle.list_theory.proofs.ListLemmas.{sum-le}
use Rattle.flow_term.specs.declared.elem.Elem.{Elem}
use Rattle.flow_term.specs.declared.graph.Unknown.{Unknown}
use Rattle.flow_term.specs.declared.value.Value.{Value}
use Rattle.flow_syntax.specs.declared.spec.Spec.{Spec}
use Rattle.flow_syntax.specs.Types.{Sort, Typing}
use Rattle.constraint_theory.specs.Machine.{joined, replay, replay_from}
use Rattle.constraint_theory.specs.Systems.{ConstraintSystem, IsKey, Fitting, Satisfies, IsLeast, IsMonotone, holds, readers, bound}
use Rattle.constraint_theory.proofs.LeastLemmas as least
use Rattle.value_heights.specs.Heights.{HasNoMore, height_of, is_within}
use Rattle.value_heights.specs.Ranked.{IsRanked, ranked_of}
use Rattle.value_heights.specs.Tests.{is_valid}
use Rattle.value_heights.proofs.Fitting.{are_ranked, are_monotone}
use Rattle.tree_constraints.specs.declared.constraint.Constraint.{Constraint}
use Rattle.tree_constraints.specs.Constraints.{value_of}
use Rattle.tree_constraints.specs.Elements.{elements_of}
use Rattle.tree_constraints.specs.Laws.{SystemsAreLawful, ReplaysAreSolutions, BoundsAreWithin}
use Rattle.tree_constraints.specs.Orders.{by_parts}
use Rattle.tree_constraints.specs.Solutions.{domain_at, system_over, tree_system, valid_system}
use Rattle.tree_constraints.proofs.Exact.{parts_tell}
use Rattle.tree_constraints.proofs.Facts.{constraints_one, unknowns_one}
use Rattle.tree_constraints.proofs.Monotone.{systems_monotone}
use Rattle.tree_constraints.proofs.Situations.{unknown_lawful}

-- what fits is valid
pub fits_valid : (elements : Sort → List Elem) (spec : Spec) (types : List Typing) (cs : List Constraint) (us : List Unknown) (a : Unknown → Value) → Fitting by_parts (system_over spec types elements cs us) a → Fitting by_parts (valid_system spec types cs us) a
fits_valid elements spec types cs us a fits u used = (and_parts (is_valid (domain_at spec u) (a u)) (is_within elements (domain_at spec u) (a u)) (fits u used)).0

pub systems_lawful : SystemsAreLawful
systems_lawful spec types analysed elements tree cs us hc hu keeps =
    let ranked : (u : Unknown) → IsRanked (ranked_of elements (domain_at spec u)) = λ u. are_ranked elements (domain_at spec u) (unknown_lawful spec analysed.lawful u) in
    let wide = systems_monotone spec types analysed tree cs us hc hu in
    let valid = fits_valid elements spec types cs us in
    record {
      monotone = record {
        keys_once = wide.keys_once;
        target_used = wide.target_used;
        reads_used = wide.reads_used;
        bottom_fits = λ u used. (ranked u).lattice.joins.least_valid;
        join_fits = λ u a b used fa fb. (ranked u).lattice.joins.joined_valid a b fa fb;
        eval_fits = λ c a h fits. and_from (is_valid (domain_at spec c.key.target) (value_of spec types c a)) (is_within elements (domain_at spec c.key.target) (value_of spec types c a)) (wide.eval_fits c a h (valid a fits)) (keeps c a h fits);
        leq_join = λ u a b used fa fb h. ((ranked u).lattice.order a b fa fb).0 h;
        join_leq = λ u a b used fa fb e. ((ranked u).lattice.order a b fa fb).1 e;
        idempotent = λ u a used fa. (ranked u).lattice.joins.idempotent a fa;
        commutative = λ u a b used fa fb. (ranked u).lattice.joins.commutative a b fa fb;
        associative = λ u a b c used fa fb fc. (ranked u).lattice.joins.associative a b c fa fb fc;
        neutral = λ u a used fa. (ranked u).lattice.joins.neutral a fa;
        eval_monotone = λ c a b h fa fb below. wide.eval_monotone c a b h (valid a fa) (valid b fb) below;
        eval_reads = λ c a b h fa fb agree. wide.eval_reads c a b h (valid a fa) (valid b fb) agree;
      };
      ranks = record {
        rank_within = λ u a used fa. (ranked u).rank_within a fa;
        rank_rises = λ u a b used fa fb h above. (ranked u).rank_rises a b fa fb h above;
      };
    }

-- REPLAYS

module _ (spec : Spec) (types : List Typing) (elements : Sort → List Elem) (cs : List Constraint) (us : List Unknown) where
  abbrev narrow : ConstraintSystem Constraint Unknown Value
  narrow = system_over spec types elements cs us

  abbrev wide : ConstraintSystem Constraint Unknown Value
  wide = valid_system spec types cs us

  -- which values fit doesn't enter a replay
  same_replay : (a : Unknown → Value) (ks : List Constraint) → replay_from by_parts narrow a ks ≡ replay_from by_parts wide a ks
  same_replay a [] = refl
  same_replay a (k ∷ ks) = same_replay (joined by_parts narrow a k) ks

  least_over_valid : IsMonotone by_parts wide → (ks : List Constraint) → ((c : Constraint) → has by_parts.key ks c ≡ true → IsKey by_parts narrow c)
      → Satisfies by_parts narrow (replay by_parts narrow ks) → IsLeast by_parts wide (replay by_parts narrow ks)
  least_over_valid law ks known satisfied =
      let same : replay by_parts narrow ks ≡ replay by_parts wide ks = same_replay narrow.bottom ks in
      subst (λ (a : Unknown → Value). IsLeast by_parts wide a) (sym same)
      (least.replay_least by_parts parts_tell wide law ks known (λ k used. ap (λ (a : Unknown → Value). holds by_parts wide a k) (sym same) ∙ satisfied k used))

pub replays_solve : ReplaysAreSolutions
replays_solve spec types analysed elements tree cs us hc hu steps known satisfied = record {
  constraints = cs;
  unknowns = us;
  are_constraints = hc;
  are_unknowns = hu;
  least = least_over_valid spec types elements cs us (systems_monotone spec types analysed tree cs us hc hu) steps known satisfied;
}

-- BOUNDS

module _ (few many : Sort → List Elem) (fewer : HasNoMore few many) (spec : Spec) (types : List Typing) (cs : List Constraint) (us : List Unknown) where
  lower_bound : bound by_parts (system_over spec types few cs us) ≤ bound by_parts (system_over spec types many cs us)
  lower_bound =
      let sums = sum-le by_parts.unknown parts_tell.unknowns (λ u. height_of many (domain_at spec u) * length (readers by_parts (system_over spec types many cs us) u))
      (λ u. height_of few (domain_at spec u) * length (readers by_parts (system_over spec types few cs us) u)) us
      (λ u _. mul-le-mul_right (length (readers by_parts (system_over spec types many cs us) u)) (are_monotone few many fewer (domain_at spec u))) in
      omega (arith, sums)

pub bounds_within : BoundsAreWithin
bounds_within spec types elements tree cs us hc hu fewer n is =
    let same : bound by_parts (tree_system spec types tree is.constraints is.unknowns) ≡ bound by_parts (tree_system spec types tree cs us) =
    (λ i. bound by_parts (tree_system spec types tree (constraints_one spec tree is.constraints cs is.are_constraints hc i) (unknowns_one spec tree is.unknowns us is.are_unknowns hu i))) in
    subst (λ (m : ℕ). bound by_parts (system_over spec types elements cs us) ≤ m) (sym (is.is_bound ∙ same)) (lower_bound elements (elements_of spec tree) fewer spec types cs us)
