-- The laws of the lattice of sets in which more is above less.
use Rattle.std.proofs.Common.{◌≡◌, ◌||◌, List, [], sym, ap, ◌∙◌, inl, inr}
use Rattle.std.specs.declared.cmp.Ordering.{Ordering}
use Rattle.std.specs.declared.cmp.Ordering.TheVariants.{Equal}
use Rattle.std.specs.Cmp.{IsTotalOrder}
use Rattle.std.specs.List.Sorted.{IsStrictlySortedBy}
use Rattle.std.proofs.Math.Bool.{or_comm, or_assoc, or_self}
use Rattle.std.proofs.lemmas.Bool.{or_cases, or_left, or_right}
use Rattle.lattice_base.specs.Laws.{JoinLaws, OrderLaw}
use Rattle.lattice_sets.specs.Sets.{Includes, has_item, union_of}
use Rattle.lattice_sets.specs.SetLaws.{same_items, same_test, has_contained, contains_had, has_union, rising_union, rising_nothing}

module _ {E : Type 0} (R : E → E → Ordering) (o : IsTotalOrder R) (exact : (x y : E) → R x y ≡ Equal → x ≡ y) where
  pub may_laws : JoinLaws {V = List E} (IsStrictlySortedBy R) [] (union_of R)
  may_laws = record {
    least_valid = rising_nothing R o;
    joined_valid = λ a b ra rb. rising_union R o a b ra;
    idempotent = λ a ra. same_items R o exact (union_of R a a) a (rising_union R o a a ra) ra (λ q. has_union R o exact a a q ∙ or_self (has_item R a q));
    commutative = λ a b ra rb. same_items R o exact (union_of R a b) (union_of R b a) (rising_union R o a b ra) (rising_union R o b a rb)
        (λ q. has_union R o exact a b q ∙ or_comm (has_item R a q) (has_item R b q) ∙ sym (has_union R o exact b a q));
    associative = λ a b c ra rb rc. same_items R o exact (union_of R (union_of R a b) c) (union_of R a (union_of R b c)) (rising_union R o (union_of R a b) c (rising_union R o a b ra)) (rising_union R o a (union_of R b c) ra)
        (λ q. has_union R o exact (union_of R a b) c q ∙ ap (λ x. x || has_item R c q) (has_union R o exact a b q) ∙ or_assoc (has_item R a q) (has_item R b q) (has_item R c q)
        ∙ ap (λ x. has_item R a q || x) (sym (has_union R o exact b c q)) ∙ sym (has_union R o exact a (union_of R b c) q));
    neutral = λ a ra. same_items R o exact (union_of R [] a) a (rising_union R o [] a (rising_nothing R o)) ra (λ q. has_union R o exact [] a q);
  }

  -- inclusion is the order of union
  pub may_order : OrderLaw {V = List E} (IsStrictlySortedBy R) (union_of R) (λ a b. Includes b a)
  may_order a b ra rb = (
    λ h. same_items R o exact (union_of R a b) b (rising_union R o a b ra) rb (λ q. same_test R o exact (has_item R (union_of R a b) q) (has_item R b q)
        (λ e. elim (or_cases (has_item R a q) (has_item R b q) (sym (has_union R o exact a b q) ∙ e)) [ inl in_a ↦ has_contained R o exact b q (h q (contains_had R o exact a q in_a)) | inr in_b ↦ in_b ])
        (λ e. has_union R o exact a b q ∙ or_right (has_item R a q) (has_item R b q) e)),
    λ e q in_a. contains_had R o exact b q (ap (λ c. has_item R c q) (sym e) ∙ has_union R o exact a b q ∙ or_left (has_item R a q) (has_item R b q) (has_contained R o exact a q in_a)),
  )
