-- Membership and order of lists that are put together.
use Rattle.std.proofs.Common.{◌≡◌, Bool, true, false, cond, List, [], ◌∷◌, ◌++◌, refl, sym, ap, subst, ◌∙◌, inl, inr, map, filter}
use Rattle.std.specs.Prelude.{Contains}
use Rattle.std.specs.List.{flat_map, AllByRecursion}
use Rattle.std.specs.List.Sorted.{IsStrictlySortedBy}
use Rattle.std.specs.declared.cmp.Ordering.{Ordering}
use Rattle.std.specs.declared.cmp.Ordering.TheVariants.{Less}
use Rattle.std.proofs.lemmas.List.Elements.{Contains-append_cases}
use Rattle.tree_constraints.proofs.Lists.{none_in_nil, at_head, in_tail, cons_cases, all_at, map_from, flat_map_from}

module _ {X : Type 0} where
  -- a fact of each item, by recursion
  all_from : (P : X → Type 0) (xs : List X) → ((x : X) → Contains xs x → P x) → AllByRecursion P xs
  all_from P [] h = tt
  all_from P (x ∷ xs) h = (h x (at_head x xs), all_from P xs (λ y c. h y (in_tail x xs y c)))

  -- an item of a filtered list is one of the whole and passes
  kept_from : (p : X → Bool) (x : X) (xs kept : List X) (y : X) → (Contains kept y → Contains xs y × (p y ≡ true)) → (b : Bool) → p x ≡ b → Contains (cond b (x ∷ kept) kept) y → Contains (x ∷ xs) y × (p y ≡ true)
  kept_from p x xs kept y rest true e c = elim (cons_cases x kept y c) [
    | inl same ↦ (subst (λ (z : X). Contains (x ∷ xs) z) same (at_head x xs), ap p (sym same) ∙ e)
    | inr t ↦ (in_tail x xs y (rest t).0, (rest t).1)
  ]
  kept_from p x xs kept y rest false e c = (in_tail x xs y (rest c).0, (rest c).1)

  pub filter_from : (p : X → Bool) (xs : List X) (y : X) → Contains (filter p xs) y → Contains xs y × (p y ≡ true)
  filter_from p [] y h = absurd (none_in_nil y h)
  filter_from p (x ∷ xs) y h = kept_from p x xs (filter p xs) y (filter_from p xs y) (p x) refl h

-- ORDER

module _ {Y : Type 0} (d : Y → Y → Ordering) where
  pub sorted_append : (xs ys : List Y) → IsStrictlySortedBy d xs → IsStrictlySortedBy d ys → ((x y : Y) → Contains xs x → Contains ys y → d x y ≡ Less) → IsStrictlySortedBy d (xs ++ ys)
  unfolding IsStrictlySortedBy
  sorted_append [] ys hx hy across = hy
  sorted_append (x ∷ xs) ys hx hy across = (
    all_from (λ y. d x y ≡ Less) (xs ++ ys) (λ y c. elim (Contains-append_cases xs ys y c) [
      | inl left ↦ all_at (λ z. d x z ≡ Less) xs y hx.0 left
      | inr right ↦ across x y (at_head x xs) right
    ]),
    sorted_append xs ys hx.1 hy (λ z y cz cy. across z y (in_tail x xs z cz) cy),
  )

  pub sorted_nil : IsStrictlySortedBy d []
  unfolding IsStrictlySortedBy
  sorted_nil = tt

  pub sorted_one : (y : Y) → IsStrictlySortedBy d (y ∷ [])
  unfolding IsStrictlySortedBy
  sorted_one y = (tt, tt)

module _ {X Y : Type 0} (c : X → X → Ordering) (d : Y → Y → Ordering) where
  pub sorted_map : (f : X → Y) (xs : List X) → ((x y : X) → Contains xs x → Contains xs y → c x y ≡ Less → d (f x) (f y) ≡ Less) → IsStrictlySortedBy c xs → IsStrictlySortedBy d (map f xs)
  unfolding IsStrictlySortedBy
  sorted_map f [] rises h = tt
  sorted_map f (x ∷ xs) rises h = (
    all_from (λ z. d (f x) z ≡ Less) (map f xs) (λ z w.
        let from = map_from f xs z w in
        subst (λ (v : Y). d (f x) v ≡ Less) from.2 (rises x from.0 (at_head x xs) (in_tail x xs from.0 from.1) (all_at (λ y. c x y ≡ Less) xs from.0 h.0 from.1))),
    sorted_map f xs (λ y z cy cz. rises y z (in_tail x xs y cy) (in_tail x xs z cz)) h.1,
  )

  pub sorted_flat_map : (f : X → List Y) (xs : List X) → ((x : X) → Contains xs x → IsStrictlySortedBy d (f x))
      → ((x z : X) (y w : Y) → c x z ≡ Less → Contains (f x) y → Contains (f z) w → d y w ≡ Less) → IsStrictlySortedBy c xs → IsStrictlySortedBy d (flat_map f xs)
  unfolding IsStrictlySortedBy
  sorted_flat_map f [] each across h = tt
  sorted_flat_map f (x ∷ xs) each across h =
      sorted_append d (f x) (flat_map f xs) (each x (at_head x xs)) (sorted_flat_map f xs (λ z cz. each z (in_tail x xs z cz)) across h.1)
      (λ y w cy cw. let from = flat_map_from f xs w cw in across x from.0 y w (all_at (λ z. c x z ≡ Less) xs from.0 h.0 from.1) cy from.2)
