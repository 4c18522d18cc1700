-- Items of lists, and lists in order.
use Rattle.std.proofs.Common.{◌≡◌, ℕ, zero, suc, ◌<◌, Bool, true, false, cond, not, ◌||◌, List, [], ◌∷◌, length, refl, sym, ap, subst, ◌∙◌, inl, inr, arith, map, get_or, filter, true≢false}
use Rattle.std.specs.Prelude.{◌⊎◌, ◌↔◌, Contains}
use Rattle.std.specs.List.{AllByRecursion, flat_map}
use Rattle.std.proofs.lemmas.List.Elements.{Contains-append_left, Contains-append_right, Contains-append_cases}
use Rattle.std.specs.List.Sorted.{IsStrictlySortedBy}
use Rattle.std.specs.Ordering.{ordering_reverse}
use Rattle.std.specs.declared.cmp.Ordering.{Ordering}
use Rattle.std.specs.declared.cmp.Ordering.TheVariants.{Less, Equal, Greater}
use Rattle.std.proofs.lemmas.Bool.{false_from_ne_true, and_from, or_left, or_right}
use Rattle.list_theory.specs.Lists.{IsExact, has, distinct}

module _ {X : Type 0} where
  pub none_in_nil : (y : X) → Contains {X = X} [] y → ⊥
  none_in_nil y h = let lt = h.1 in omega arith

  pub at_head : (x : X) (xs : List X) → Contains (x ∷ xs) x
  at_head x xs = (0, omega arith, refl)

  pub in_tail : (x : X) (xs : List X) (y : X) → Contains xs y → Contains (x ∷ xs) y
  in_tail x xs y h = let lt = h.1 in (suc h.0, omega arith, h.2)

  cases_at : (x : X) (xs : List X) (y : X) (k : ℕ) → k < length (x ∷ xs) → get_or (x ∷ xs) k y ≡ y → (x ≡ y) ⊎ Contains xs y
  cases_at x xs y zero lt e = inl e
  cases_at x xs y (suc k) lt e = inr (k, omega arith, e)

  pub cons_cases : (x : X) (xs : List X) (y : X) → Contains (x ∷ xs) y → (x ≡ y) ⊎ Contains xs y
  cons_cases x xs y h = cases_at x xs y h.0 h.1 h.2

  pub all_at : (P : X → Type 0) (xs : List X) (y : X) → AllByRecursion P xs → Contains xs y → P y
  all_at P [] y h c = absurd (none_in_nil y c)
  all_at P (x ∷ xs) y h c = elim (cons_cases x xs y c) [ inl e ↦ subst P e h.0 | inr t ↦ all_at P xs y h.1 t ]

  -- an item of a filtered list passes, and what passes is kept
  kept_has : (p : X → Bool) (x : X) (kept xs : List X) (y : X) → p y ≡ true → (Contains xs y → Contains kept y) → (b : Bool) → p x ≡ b → (x ≡ y) ⊎ Contains xs y → Contains (cond b (x ∷ kept) kept) y
  kept_has p x kept xs y t rest true e (inl same) = subst (λ (z : X). Contains (x ∷ kept) z) same (at_head x kept)
  kept_has p x kept xs y t rest true e (inr c) = in_tail x kept y (rest c)
  kept_has p x kept xs y t rest false e (inl same) = let no : true ≡ false = sym t ∙ ap p (sym same) ∙ e in absurd (true≢false no)
  kept_has p x kept xs y t rest false e (inr c) = rest c

  pub filter_has : (p : X → Bool) (xs : List X) (y : X) → Contains xs y → p y ≡ true → Contains (filter p xs) y
  filter_has p [] y h t = h
  filter_has p (x ∷ xs) y h t = kept_has p x (filter p xs) xs y t (λ c. filter_has p xs y c t) (p x) refl (cons_cases x xs y h)

module _ {X Y : Type 0} where
  pub map_has : (f : X → Y) (xs : List X) (x : X) → Contains xs x → Contains (map f xs) (f x)
  map_has f [] x h = absurd (none_in_nil x h)
  map_has f (z ∷ xs) x h = elim (cons_cases z xs x h) [
    | inl e ↦ subst (λ (w : X). Contains (f z ∷ map f xs) (f w)) e (at_head (f z) (map f xs))
    | inr c ↦ in_tail (f z) (map f xs) (f x) (map_has f xs x c)
  ]

  pub map_from : (f : X → Y) (xs : List X) (y : Y) → Contains (map f xs) y → (x : X) × Contains xs x × (f x ≡ y)
  map_from f [] y h = absurd (none_in_nil y h)
  map_from f (z ∷ xs) y h = elim (cons_cases (f z) (map f xs) y h) [
    | inl e ↦ (z, at_head z xs, e)
    | inr c ↦ let w = map_from f xs y c in (w.0, in_tail z xs w.0 w.1, w.2)
  ]

  pub flat_map_has : (f : X → List Y) (xs : List X) (x : X) (y : Y) → Contains xs x → Contains (f x) y → Contains (flat_map f xs) y
  flat_map_has f [] x y h c = absurd (none_in_nil x h)
  flat_map_has f (z ∷ xs) x y h c = elim (cons_cases z xs x h) [
    | inl e ↦ Contains-append_left (f z) (flat_map f xs) y (subst (λ (w : X). Contains (f w) y) (sym e) c)
    | inr t ↦ Contains-append_right (f z) (flat_map f xs) y (flat_map_has f xs x y t c)
  ]

  pub flat_map_from : (f : X → List Y) (xs : List X) (y : Y) → Contains (flat_map f xs) y → (x : X) × Contains xs x × Contains (f x) y
  flat_map_from f [] y h = absurd (none_in_nil y h)
  flat_map_from f (z ∷ xs) y h = elim (Contains-append_cases (f z) (flat_map f xs) y h) [
    | inl c ↦ (z, at_head z xs, c)
    | inr t ↦ let w = flat_map_from f xs y t in (w.0, in_tail z xs w.0 w.1, w.2)
  ]

-- LISTS IN ORDER

pub not_both : (a b : Ordering) → a ≡ ordering_reverse b → a ≡ Less → b ≡ Less → ⊥
not_both a b e ha hb = let no : Less ≡ Greater = sym ha ∙ e ∙ ap ordering_reverse hb in cc

pub not_itself : (o : Ordering) → o ≡ Equal → o ≡ Less → ⊥
not_itself o e h = let no : Equal ≡ Less = sym e ∙ h in cc

-- two lists in order with the same items are equal
module _ {X : Type 0} (c : X → X → Ordering) (ties : (x : X) → c x x ≡ Equal) (flips : (x y : X) → c x y ≡ ordering_reverse (c y x)) where
  head_same : (x : X) (xs : List X) (y : X) (ys : List X) → IsStrictlySortedBy c (x ∷ xs) → IsStrictlySortedBy c (y ∷ ys) → Contains (x ∷ xs) y → Contains (y ∷ ys) x → x ≡ y
  unfolding IsStrictlySortedBy
  head_same x xs y ys hx hy cx cy = elim (cons_cases x xs y cx) [
    | inl e ↦ e
    | inr t ↦ elim (cons_cases y ys x cy) [
      | inl e ↦ sym e
      | inr s ↦ absurd (not_both (c x y) (c y x) (flips x y) (all_at (λ z. c x z ≡ Less) xs y hx.0 t) (all_at (λ z. c y z ≡ Less) ys x hy.0 s))
    ]
  ]

  rest_same : (x : X) (xs ys : List X) → AllByRecursion (λ z. c x z ≡ Less) xs → ((z : X) → Contains (x ∷ xs) z → Contains (x ∷ ys) z) → (z : X) → Contains xs z → Contains ys z
  rest_same x xs ys below h z cz = elim (cons_cases x ys z (h z (in_tail x xs z cz))) [
    | inl e ↦ absurd (not_itself (c x x) (ties x) (subst (λ (w : X). c x w ≡ Less) (sym e) (all_at (λ w. c x w ≡ Less) xs z below cz)))
    | inr t ↦ t
  ]

  pub same_lists : (xs ys : List X) → IsStrictlySortedBy c xs → IsStrictlySortedBy c ys → ((z : X) → Contains xs z ↔ Contains ys z) → xs ≡ ys
  unfolding IsStrictlySortedBy
  same_lists [] [] hx hy h = refl
  same_lists [] (y ∷ ys) hx hy h = absurd (none_in_nil y ((h y).1 (at_head y ys)))
  same_lists (x ∷ xs) [] hx hy h = absurd (none_in_nil x ((h x).0 (at_head x xs)))
  same_lists (x ∷ xs) (y ∷ ys) hx hy h =
      let e : x ≡ y = head_same x xs y ys hx hy ((h y).1 (at_head y ys)) ((h x).0 (at_head x xs)) in
      let ey : IsStrictlySortedBy c (x ∷ ys) = subst (λ (w : X). IsStrictlySortedBy c (w ∷ ys)) (sym e) hy in
      let to : (z : X) → Contains (x ∷ xs) z → Contains (x ∷ ys) z = λ z cz. subst (λ (w : X). Contains (w ∷ ys) z) (sym e) ((h z).0 cz) in
      let back : (z : X) → Contains (x ∷ ys) z → Contains (x ∷ xs) z = λ z cz. (h z).1 (subst (λ (w : X). Contains (w ∷ ys) z) e cz) in
      let rest : xs ≡ ys = same_lists xs ys hx.1 hy.1 (λ z. (rest_same x xs ys hx.0 to z, rest_same x ys xs ey.0 back z)) in
      λ i. e i ∷ rest i

-- ITEMS BY A TEST

module _ {A : Type 0} (same : A → A → Bool) (exact : IsExact same) where
  pub has_from : (xs : List A) (x : A) → Contains xs x → has same xs x ≡ true
  has_from [] x h = absurd (none_in_nil x h)
  has_from (y ∷ xs) x h = elim (cons_cases y xs x h) [
    | inl e ↦ or_left (same y x) (has same xs x) (ap (λ z. same z x) e ∙ exact.itself x)
    | inr c ↦ or_right (same y x) (has same xs x) (has_from xs x c)
  ]

  has_cases : (b : Bool) (y : A) (xs : List A) (x : A) → same y x ≡ b → (b || has same xs x) ≡ true → (has same xs x ≡ true → Contains xs x) → Contains (y ∷ xs) x
  has_cases true y xs x e h rest = subst (λ (z : A). Contains (y ∷ xs) z) (exact.exact y x e) (at_head y xs)
  has_cases false y xs x e h rest = in_tail y xs x (rest h)

  pub contains_from : (xs : List A) (x : A) → has same xs x ≡ true → Contains xs x
  contains_from [] x h = cc
  contains_from (y ∷ xs) x h = has_cases (same y x) y xs x refl h (contains_from xs x)

  pub distinct_sorted : (c : A → A → Ordering) → ((x : A) → c x x ≡ Equal) → (xs : List A) → IsStrictlySortedBy c xs → distinct same xs ≡ true
  unfolding IsStrictlySortedBy
  distinct_sorted c ties [] h = refl
  distinct_sorted c ties (x ∷ xs) h = and_from (not (has same xs x)) (distinct same xs)
      (ap not (false_from_ne_true (has same xs x) (λ e. not_itself (c x x) (ties x) (all_at (λ y. c x y ≡ Less) xs x h.0 (contains_from xs x e)))))
      (distinct_sorted c ties xs h.1)
