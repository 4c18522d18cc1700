-- Joins and the order of two sets that are reached.
use Rattle.std.proofs.Common.{◌≡◌, ◌↔◌, Bool, true, List, sym, ap, ◌∙◌}
use Rattle.std.specs.declared.cmp.Ordering.{Ordering}
use Rattle.std.specs.declared.cmp.Ordering.TheVariants.{Equal}
use Rattle.std.specs.Cmp.{IsTotalOrder}
use Rattle.std.specs.List.Sorted.{IsStrictlySortedBy}
use Rattle.lattice_sets.specs.declared.must.MustV.{MustV}
use Rattle.lattice_sets.specs.declared.must.MustV.TheVariants.{Set}
use Rattle.lattice_sets.specs.Must.{must_join}
use Rattle.lattice_sets.specs.MustLaws.{must_order}
use Rattle.lattice_sets.specs.Sets.{Includes, IsIntersection}
use Rattle.lattice_sets.specs.SetLaws.{intersection_unique}

module _ {E : Type 0} (R : E → E → Ordering) (o : IsTotalOrder R) (exact : (x y : E) → R x y ≡ Equal → x ≡ y) where
  joined_sets : (a b : MustV E) (x y : List E) → a ≡ Set x → b ≡ Set y → must_join R a b ≡ must_join R (Set x) (Set y)
  joined_sets a b x y e f = ap (λ v. must_join R v b) e ∙ ap (must_join R (Set x)) f

  pub join_of_sets : (a b : MustV E) (x y z : List E) → a ≡ Set x → b ≡ Set y → IsStrictlySortedBy R x → IsIntersection R x y z → Set z ≡ must_join R a b
  join_of_sets a b x y z e f rx is = ap Set (intersection_unique R o exact x y z rx is) ∙ sym (joined_sets a b x y e f)

  pub order_of_sets : (a b : MustV E) (x y : List E) → a ≡ Set x → b ≡ Set y → IsStrictlySortedBy R x → IsStrictlySortedBy R y → (r : Bool) → (r ≡ true) ↔ Includes x y → (r ≡ true) ↔ (must_join R a b ≡ b)
  order_of_sets a b x y e f rx ry r told =
      let order = must_order R o exact (Set x) (Set y) rx ry in
      (λ h. joined_sets a b x y e f ∙ order.0 (told.0 h) ∙ sym f, λ j. told.1 (order.1 (sym (joined_sets a b x y e f) ∙ j ∙ f)))
