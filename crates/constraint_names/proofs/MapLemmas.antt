-- Lists whose items are renamed.
use Rattle.std.proofs.Common.{◌≡◌, Bool, true, false, cond, not, ◌||◌, List, [], ◌∷◌, ◌++◌, refl, sym, ap, ◌∙◌, inl, inr, arith}
use Rattle.std.specs.Prelude.{ℕ, map, filter, sum_by}
use Rattle.std.proofs.lemmas.List.{map-append}
use Rattle.std.proofs.lemmas.List.Sums.{sum_by-cons}
use Rattle.std.proofs.lemmas.Bool.{true≢false, or_cases, or_left, or_right, both_ways, false_from_ne_true, cases_Bool, and_from, not_from_false}
use Rattle.list_theory.specs.Lists.{has, without, push_one, push_all, distinct, IsExact}
use Rattle.list_theory.proofs.ListLemmas.{alike, unlike, distinct_parts, has-push_one}

-- two renamings that agree on the items of a list give one list
pub map-alike : {A B : Type 0} (same : A → A → Bool) (ex : IsExact same) (f g : A → B) (xs : List A) → ((x : A) → has same xs x ≡ true → f x ≡ g x) → map f xs ≡ map g xs
map-alike same ex f g [] e = refl
map-alike same ex f g (x ∷ xs) e =
    ap (λ y. y ∷ map f xs) (e x (or_left (same x x) (has same xs x) (alike same ex x x refl))) ∙ ap (λ ys. g x ∷ ys) (map-alike same ex f g xs (λ y h. e y (or_right (same x y) (has same xs y) h)))

-- filtering by name is filtering
pub filter-map : {A B : Type 0} (same : A → A → Bool) (ex : IsExact same) (f : A → B) (p : A → Bool) (q : B → Bool) (xs : List A) → ((x : A) → has same xs x ≡ true → q (f x) ≡ p x) → filter q (map f xs) ≡ map f (filter p xs)
filter-map same ex f p q [] e = refl
filter-map same ex f p q (x ∷ xs) e =
    let rest : filter q (map f xs) ≡ map f (filter p xs) = filter-map same ex f p q xs (λ y h. e y (or_right (same x y) (has same xs y) h)) in
    ap (λ b. cond b (f x ∷ filter q (map f xs)) (filter q (map f xs))) (e x (or_left (same x x) (has same xs x) (alike same ex x x refl)))
    ∙ (elim (p x) as (λ b. cond b (f x ∷ filter q (map f xs)) (filter q (map f xs)) ≡ map f (cond b (x ∷ filter p xs) (filter p xs))) [ true ↦ ap (λ ys. f x ∷ ys) rest | false ↦ rest ])

-- a sum over names is a sum over what they name
pub sum-map_by : {A B : Type 0} (same : A → A → Bool) (ex : IsExact same) (f : A → B) (g : B → ℕ) (h : A → ℕ) (xs : List A) → ((x : A) → has same xs x ≡ true → g (f x) ≡ h x) → sum_by g (map f xs) ≡ sum_by h xs
sum-map_by same ex f g h [] e = refl
sum-map_by same ex f g h (x ∷ xs) e =
    omega (arith, sum_by-cons g (f x) (map f xs), sum_by-cons h x xs, e x (or_left (same x x) (has same xs x) (alike same ex x x refl)), sum-map_by same ex f g h xs (λ y i. e y (or_right (same x y) (has same xs y) i)))

module _ {A B : Type 0} (same : A → A → Bool) (other : B → B → Bool) (ex : IsExact same) (ex' : IsExact other) (f : A → B) where
  pub has-map : (xs : List A) (x : A) → has same xs x ≡ true → has other (map f xs) (f x) ≡ true
  has-map [] x h = h
  has-map (y ∷ ys) x h =
      elim (or_cases (same y x) (has same ys x) h) [
        | inl e ↦ or_left (other (f y) (f x)) (has other (map f ys) (f x)) (alike other ex' (f y) (f x) (ap f (ex.exact y x e)))
        | inr r ↦ or_right (other (f y) (f x)) (has other (map f ys) (f x)) (has-map ys x r)
      ]

  -- what is there by name names an item
  pub has-map_back : (xs : List A) (y : B) → has other (map f xs) y ≡ true → (x : A) × (has same xs x ≡ true) × (f x ≡ y)
  has-map_back [] y h = absurd (true≢false (sym h))
  has-map_back (z ∷ zs) y h =
      elim (or_cases (other (f z) y) (has other (map f zs) y) h) [
        | inl e ↦ (z, or_left (same z z) (has same zs z) (ex.itself z), ex'.exact (f z) y e)
        | inr r ↦ let found : (x : A) × (has same zs x ≡ true) × (f x ≡ y) = has-map_back zs y r in (found.0, or_right (same z found.0) (has same zs found.0) found.1, found.2)
      ]

  -- no item has two places where no name has
  pub distinct-map_back : (xs : List A) → distinct other (map f xs) ≡ true → distinct same xs ≡ true
  distinct-map_back [] d = refl
  distinct-map_back (x ∷ xs) d =
      let parts : (has other (map f xs) (f x) ≡ false) × (distinct other (map f xs) ≡ true) = distinct_parts other ex' (f x) (map f xs) d in
      and_from (not (has same xs x)) (distinct same xs) (not_from_false (has same xs x) (false_from_ne_true (has same xs x) (λ h. both_ways (has other (map f xs) (f x)) parts.0 (has-map xs x h)))) (distinct-map_back xs parts.1)

  -- items of a kind of which no two have one name
  module _ (Kind : A → Type 0) (own : (x y : A) → Kind x → Kind y → f x ≡ f y → x ≡ y) where
    abbrev pub AllKind : List A → Type 0
    AllKind xs = (x : A) → has same xs x ≡ true → Kind x

    kind_head : (x : A) (xs : List A) → AllKind (x ∷ xs) → Kind x
    kind_head x xs all = all x (or_left (same x x) (has same xs x) (ex.itself x))

    kind_tail : (x : A) (xs : List A) → AllKind (x ∷ xs) → AllKind xs
    kind_tail x xs all y h = all y (or_right (same x y) (has same xs y) h)

    pub same_by_name : (x y : A) → Kind x → Kind y → other (f x) (f y) ≡ same x y
    same_by_name x y kx ky =
        elim (cases_Bool (same x y)) [
          | inl e ↦ alike other ex' (f x) (f y) (ap f (ex.exact x y e)) ∙ sym e
          | inr n ↦ unlike other ex' (f x) (f y) (λ e. both_ways (same x y) n (alike same ex x y (own x y kx ky e))) ∙ sym n
        ]

    pub has_by_name : (xs : List A) (x : A) → AllKind xs → Kind x → has other (map f xs) (f x) ≡ has same xs x
    has_by_name [] x all kx = refl
    has_by_name (y ∷ ys) x all kx = ap (λ b. b || has other (map f ys) (f x)) (same_by_name y x (kind_head y ys all) kx) ∙ ap (λ b. same y x || b) (has_by_name ys x (kind_tail y ys all) kx)

    pub without_by_name : (xs : List A) (x : A) → AllKind xs → Kind x → without other (map f xs) (f x) ≡ map f (without same xs x)
    without_by_name xs x all kx = filter-map same ex f (λ y. not (same y x)) (λ y. not (other y (f x))) xs (λ y h. ap not (same_by_name y x (all y h) kx))

    pub push_one_by_name : (xs : List A) (x : A) → AllKind xs → Kind x → push_one other (map f xs) (f x) ≡ map f (push_one same xs x)
    push_one_by_name xs x all kx =
        ap (λ b. cond b (map f xs) (map f xs ++ f x ∷ [])) (has_by_name xs x all kx)
        ∙ (elim (has same xs x) as (λ b. cond b (map f xs) (map f xs ++ f x ∷ []) ≡ map f (cond b xs (xs ++ x ∷ []))) [ true ↦ refl | false ↦ sym (map-append f xs (x ∷ [])) ])

    kind_push : (xs : List A) (x : A) → AllKind xs → Kind x → AllKind (push_one same xs x)
    kind_push xs x all kx y h =
        elim (has-push_one same ex xs x y h) [ inl e ↦ all y e | inr e ↦ rw e kx ]

    pub push_all_by_name : (ys xs : List A) → AllKind xs → AllKind ys → push_all other (map f xs) (map f ys) ≡ map f (push_all same xs ys)
    push_all_by_name [] xs all new = refl
    push_all_by_name (y ∷ ys) xs all new =
        ap (λ zs. push_all other zs (map f ys)) (push_one_by_name xs y all (kind_head y ys new)) ∙ push_all_by_name ys (push_one same xs y) (kind_push xs y all (kind_head y ys new)) (kind_tail y ys new)

    pub distinct_by_name : (xs : List A) → AllKind xs → distinct same xs ≡ true → distinct other (map f xs) ≡ true
    distinct_by_name [] all d = refl
    distinct_by_name (x ∷ xs) all d =
        let parts : (has same xs x ≡ false) × (distinct same xs ≡ true) = distinct_parts same ex x xs d in
        and_from (not (has other (map f xs) (f x))) (distinct other (map f xs)) (not_from_false (has other (map f xs) (f x)) (has_by_name xs x (kind_tail x xs all) (kind_head x xs all) ∙ parts.0)) (distinct_by_name xs (kind_tail x xs all) parts.1)
