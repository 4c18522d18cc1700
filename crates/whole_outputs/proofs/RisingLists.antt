-- Lists that rise strictly and have the same items are the same.
use Rattle.std.proofs.Common.{◌≡◌, ℕ, zero, suc, ◌<◌, List, [], ◌∷◌, length, refl, sym, ◌∙◌, subst, arith, inl, inr}
use Rattle.std.specs.Prelude.{◌⊎◌, ◌↔◌, Contains}
use Rattle.std.specs.List.{AllByRecursion}
use Rattle.std.specs.List.Sorted.{IsStrictlySortedBy}
use Rattle.std.specs.Cmp.{IsTotalOrder}
use Rattle.std.specs.Ordering.{ordering_reverse}
use Rattle.std.specs.declared.cmp.Ordering.{Ordering}
use Rattle.std.specs.declared.cmp.Ordering.TheVariants.{Less, Greater}
use Rattle.std.proofs.Common.{ap}

module _ {X : Type 0} where
  in_nothing : (x : X) → Contains [] x → ⊥
  in_nothing x h = absurd (omega (arith, h.1))

  here : (x : X) (xs : List X) → Contains (x ∷ xs) x
  here x xs = (0, omega arith, refl)

  behind : (x y : X) (xs : List X) → Contains xs y → Contains (x ∷ xs) y
  behind x y xs h = (suc h.0, omega (arith, h.1), h.2)

  -- an item of a list is its first, or stands behind it
  split : (x : X) (xs : List X) (q : X) → Contains (x ∷ xs) q → (x ≡ q) ⊎ Contains xs q
  split x xs q (zero, l, e) = inl e
  split x xs q (suc k, l, e) = inr (k, omega arith, e)

  -- what holds of all items holds of each
  each : (P : X → Type 0) (xs : List X) → AllByRecursion P xs → (q : X) → Contains xs q → P q
  each P [] all q h = absurd (in_nothing q h)
  each P (x ∷ xs) all q h = elim (split x xs q h) [ inl e ↦ subst P e all.0 | inr later ↦ each P xs all.1 q later ]

module _ {X : Type 0} (R : X → X → Ordering) (total : IsTotalOrder R) where
  one_way : (x y : X) → R x y ≡ Less → R y x ≡ Less → ⊥
  one_way x y e f = let g : Less ≡ Greater = sym f ∙ total.antisymm y x ∙ ap ordering_reverse e in cc

  first_same : (x y : X) (xs ys : List X) → AllByRecursion (λ z. R x z ≡ Less) xs → AllByRecursion (λ z. R y z ≡ Less) ys → (y ≡ x) ⊎ Contains ys x → (x ≡ y) ⊎ Contains xs y → x ≡ y
  first_same x y xs ys above_x above_y (inl e) h = sym e
  first_same x y xs ys above_x above_y (inr g) (inl e) = e
  first_same x y xs ys above_x above_y (inr g) (inr h) = absurd (one_way x y (each (λ z. R x z ≡ Less) xs above_x y h) (each (λ z. R y z ≡ Less) ys above_y x g))

  -- an item behind the first of a list is behind the same first of another one with the same items
  still_behind : (x y : X) (xs ys : List X) → x ≡ y → AllByRecursion (λ z. R x z ≡ Less) xs → ((q : X) → Contains (x ∷ xs) q → Contains (y ∷ ys) q) → (q : X) → Contains xs q → Contains ys q
  still_behind x y xs ys e above same q h = elim (split y ys q (same q (behind x q xs h))) [
    | inl f ↦ let below : R x q ≡ Less = each (λ z. R x z ≡ Less) xs above q h in
        let itself : R x x ≡ Less = subst (λ z. R x z ≡ Less) (sym (e ∙ f)) below in absurd (one_way x x itself itself)
    | inr later ↦ later
  ]

  pub same_list : (xs ys : List X) → IsStrictlySortedBy R xs → IsStrictlySortedBy R ys → ((q : X) → Contains xs q ↔ Contains ys q) → xs ≡ ys
  unfolding IsStrictlySortedBy
  same_list [] [] s t same = refl
  same_list [] (y ∷ ys) s t same = absurd (in_nothing y ((same y).1 (here y ys)))
  same_list (x ∷ xs) [] s t same = absurd (in_nothing x ((same x).0 (here x xs)))
  same_list (x ∷ xs) (y ∷ ys) s t same =
      let first : x ≡ y = first_same x y xs ys s.0 t.0 (split y ys x ((same x).0 (here x xs))) (split x xs y ((same y).1 (here y ys))) in
      let rest : xs ≡ ys = same_list xs ys s.1 t.1 (λ q. (
        still_behind x y xs ys first s.0 (λ z. (same z).0) q,
        still_behind y x ys xs (sym first) t.0 (λ z. (same z).1) q,
      )) in λ i. first i ∷ rest i
