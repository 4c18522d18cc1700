-- The laws of the lattice of sets under intersection.
use Rattle.std.proofs.Common.{◌≡◌, true, ◌&&◌, List, refl, sym, ap, ◌∙◌}
use Rattle.std.specs.declared.cmp.Ordering.{Ordering}
use Rattle.std.specs.declared.cmp.Ordering.TheVariants.{Equal}
use Rattle.std.specs.Cmp.{IsTotalOrder}
use Rattle.std.specs.List.Sorted.{IsStrictlySortedBy}
use Rattle.std.proofs.Math.Bool.{and_comm, and_assoc, and_self}
use Rattle.std.proofs.lemmas.Bool.{and_parts, and_from}
use Rattle.lattice_base.specs.Laws.{JoinLaws, OrderLaw}
use Rattle.lattice_sets.specs.declared.must.MustV.{MustV}
use Rattle.lattice_sets.specs.declared.must.MustV.TheVariants.{Unreached, Set}
use Rattle.lattice_sets.specs.Must.{IsMust, IsBelowMust, must_join}
use Rattle.lattice_sets.specs.Sets.{Includes, has_item, intersection_of}
use Rattle.lattice_sets.specs.SetLaws.{same_items, same_test, has_contained, contains_had, has_intersection, rising_intersection}

unreached≢set : {E : Type 0} (a : List E) → Set a ≡ Unreached → ⊥
unreached≢set a e = cc

same_set : {E : Type 0} (a b : List E) → Set a ≡ Set b → a ≡ b
same_set a b e = cc

module _ {E : Type 0} (R : E → E → Ordering) (o : IsTotalOrder R) (exact : (x y : E) → R x y ≡ Equal → x ≡ y) where
  valid_join : (a b : MustV E) → IsMust R a → IsMust R b → IsMust R (must_join R a b)
  valid_join Unreached b va vb = vb
  valid_join (Set a) Unreached va vb = va
  valid_join (Set a) (Set b) va vb = rising_intersection R o exact a b va

  join_itself : (a : MustV E) → IsMust R a → must_join R a a ≡ a
  join_itself Unreached va = refl
  join_itself (Set a) va = ap Set (same_items R o exact (intersection_of R a a) a (rising_intersection R o exact a a va) va (λ q. has_intersection R o exact a a q ∙ and_self (has_item R a q)))

  join_commutes : (a b : MustV E) → IsMust R a → IsMust R b → must_join R a b ≡ must_join R b a
  join_commutes Unreached Unreached va vb = refl
  join_commutes Unreached (Set b) va vb = refl
  join_commutes (Set a) Unreached va vb = refl
  join_commutes (Set a) (Set b) va vb =
      ap Set (same_items R o exact (intersection_of R a b) (intersection_of R b a) (rising_intersection R o exact a b va) (rising_intersection R o exact b a vb)
      (λ q. has_intersection R o exact a b q ∙ and_comm (has_item R a q) (has_item R b q) ∙ sym (has_intersection R o exact b a q)))

  join_associates : (a b c : MustV E) → IsMust R a → IsMust R b → IsMust R c → must_join R (must_join R a b) c ≡ must_join R a (must_join R b c)
  join_associates Unreached b c va vb vc = refl
  join_associates (Set a) Unreached c va vb vc = refl
  join_associates (Set a) (Set b) Unreached va vb vc = refl
  join_associates (Set a) (Set b) (Set c) va vb vc =
      ap Set (same_items R o exact (intersection_of R (intersection_of R a b) c) (intersection_of R a (intersection_of R b c))
      (rising_intersection R o exact (intersection_of R a b) c (rising_intersection R o exact a b va)) (rising_intersection R o exact a (intersection_of R b c) va)
      (λ q. has_intersection R o exact (intersection_of R a b) c q ∙ ap (λ x. x && has_item R c q) (has_intersection R o exact a b q) ∙ and_assoc (has_item R a q) (has_item R b q) (has_item R c q)
      ∙ ap (λ x. has_item R a q && x) (sym (has_intersection R o exact b c q)) ∙ sym (has_intersection R o exact a (intersection_of R b c) q)))

  pub must_laws : JoinLaws {V = MustV E} (IsMust R) Unreached (must_join R)
  must_laws = record {
    least_valid = tt;
    joined_valid = valid_join;
    idempotent = join_itself;
    commutative = join_commutes;
    associative = join_associates;
    neutral = λ a va. refl;
  }

  pub intersection_included : (a b : List E) → IsStrictlySortedBy R a → IsStrictlySortedBy R b → Includes a b → intersection_of R a b ≡ b
  intersection_included a b ra rb h =
      same_items R o exact (intersection_of R a b) b (rising_intersection R o exact a b ra) rb (λ q. same_test R o exact (has_item R (intersection_of R a b) q) (has_item R b q)
      (λ e. (and_parts (has_item R a q) (has_item R b q) (sym (has_intersection R o exact a b q) ∙ e)).1)
      (λ e. has_intersection R o exact a b q ∙ and_from (has_item R a q) (has_item R b q) (has_contained R o exact a q (h q (contains_had R o exact b q e))) e))

  pub included_intersection : (a b : List E) → intersection_of R a b ≡ b → Includes a b
  included_intersection a b e q c =
      let both : has_item R (intersection_of R a b) q ≡ true = ap (λ l. has_item R l q) e ∙ has_contained R o exact b q c in
      contains_had R o exact a q (and_parts (has_item R a q) (has_item R b q) (sym (has_intersection R o exact a b q) ∙ both)).0

  -- the order by the join
  pub must_order : OrderLaw {V = MustV E} (IsMust R) (must_join R) IsBelowMust
  must_order Unreached b va vb = (λ h. refl, λ e. tt)
  must_order (Set a) Unreached va vb = (λ h. absurd h, λ e. unreached≢set a e)
  must_order (Set a) (Set b) va vb = (λ h. ap Set (intersection_included a b va vb h), λ e. included_intersection a b (same_set (intersection_of R a b) b e))
