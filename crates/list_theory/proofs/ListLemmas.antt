-- Facts on lists whose items a test tells apart.
use Rattle.std.proofs.Common.{append-nil, append_assoc, ◌≡◌, ◌≢◌, zero, get_or, take, ℕ, ◌+◌, ◌<◌, ◌≤◌, suc, Bool, true, false, cond, not, ◌||◌, ◌⊎◌, List, [], ◌∷◌, ◌++◌, length, refl, sym, ap, ◌∙◌, arith, inl, inr, length-append}
use Rattle.std.specs.Prelude.{filter, sum_by, remove}
use Rattle.std.proofs.lemmas.List.{take_more}
use Rattle.std.proofs.lemmas.Bool.{true≢false, or_cases, or_left, or_right, or_parts, or_from, both_ways, not-true, not_from_false, false_from_ne_true, cases_Bool, and_parts, and_from}
use Rattle.std.proofs.lemmas.List.Sums.{sum_by-cons}
use Rattle.list_theory.specs.Lists.{has, without, push_one, push_all, distinct, IsExact}

module _ {A : Type 0} (same : A → A → Bool) (ex : IsExact same) where
  exactly : (a b : A) → same a b ≡ true → a ≡ b
  exactly a b h = ex.exact a b h

  pub alike : (a b : A) → a ≡ b → same a b ≡ true
  alike a b e = ap (same a) (sym e) ∙ ex.itself a

  pub unlike : (a b : A) → (a ≡ b → ⊥) → same a b ≡ false
  unlike a b n = false_from_ne_true (same a b) (λ h. n (ex.exact a b h))

  differs : (a b : A) → same a b ≡ false → a ≡ b → ⊥
  differs a b h e = both_ways (same a b) h (alike a b e)

  pub has-append : (xs ys : List A) (x : A) → has same (xs ++ ys) x ≡ (has same xs x || has same ys x)
  has-append [] ys x = refl
  has-append (z ∷ xs) ys x = elim (same z x) as (λ b. (b || has same (xs ++ ys) x) ≡ ((b || has same xs x) || has same ys x)) [ true ↦ refl | false ↦ has-append xs ys x ]

  -- an item is in a filtered list exactly where it is in the list and passes
  pub has-filter : (p : A → Bool) (xs : List A) (x : A) → has same (filter p xs) x ≡ true → (has same xs x ≡ true) × (p x ≡ true)
  has-filter p [] x h = absurd (true≢false (sym h))
  has-filter p (y ∷ ys) x h =
      elim (p y) as (λ b. p y ≡ b → has same (cond b (y ∷ filter p ys) (filter p ys)) x ≡ true → (has same (y ∷ ys) x ≡ true) × (p x ≡ true)) [
        | true ↦ λ py h. elim (or_cases (same y x) (has same (filter p ys) x) h) [
          | inl e ↦ (or_left (same y x) (has same ys x) e, ap p (sym (exactly y x e)) ∙ py)
          | inr r ↦ let i : (has same ys x ≡ true) × (p x ≡ true) = has-filter p ys x r in (or_right (same y x) (has same ys x) i.0, i.1)
        ]
        | false ↦ λ py h. let i : (has same ys x ≡ true) × (p x ≡ true) = has-filter p ys x h in (or_right (same y x) (has same ys x) i.0, i.1)
      ] refl h

  pub has-filter_from : (p : A → Bool) (xs : List A) (x : A) → has same xs x ≡ true → p x ≡ true → has same (filter p xs) x ≡ true
  has-filter_from p [] x h q = h
  has-filter_from p (y ∷ ys) x h q =
      elim (p y) as (λ b. p y ≡ b → has same (cond b (y ∷ filter p ys) (filter p ys)) x ≡ true) [
        | true ↦ λ py. elim (or_cases (same y x) (has same ys x) h) [
          | inl e ↦ or_left (same y x) (has same (filter p ys) x) e
          | inr r ↦ or_right (same y x) (has same (filter p ys) x) (has-filter_from p ys x r q)
        ]
        | false ↦ λ py. elim (or_cases (same y x) (has same ys x) h) [
          | inl e ↦ absurd (both_ways (p y) py (ap p (exactly y x e) ∙ q))
          | inr r ↦ has-filter_from p ys x r q
        ]
      ] refl

  pub has-without : (ys : List A) (x y : A) → has same (without same ys x) y ≡ true → (has same ys y ≡ true) × (same y x ≡ false)
  has-without ys x y h = let i : (has same ys y ≡ true) × (not (same y x) ≡ true) = has-filter (λ z. not (same z x)) ys y h in (i.0, not-true (same y x) i.1)

  -- what is no more there was the item taken out
  pub has-without_gone : (ys : List A) (x y : A) → has same ys y ≡ true → has same (without same ys x) y ≡ false → y ≡ x
  has-without_gone ys x y h n =
      elim (cases_Bool (same y x)) [
        | inl e ↦ exactly y x e
        | inr e ↦ absurd (both_ways (has same (without same ys x) y) n (has-filter_from (λ z. not (same z x)) ys y h (not_from_false (same y x) e)))
      ]

  pub has-push_one : (ys : List A) (x y : A) → has same (push_one same ys x) y ≡ true → (has same ys y ≡ true) ⊎ (y ≡ x)
  has-push_one ys x y h =
      elim (has same ys x) as (λ b. has same (cond b ys (ys ++ x ∷ [])) y ≡ true → (has same ys y ≡ true) ⊎ (y ≡ x)) [
        | true ↦ λ h. inl h
        | false ↦ λ h. elim (or_cases (has same ys y) (same x y || false) (sym (has-append ys (x ∷ []) y) ∙ h)) [
          | inl e ↦ inl e
          | inr e ↦ elim (or_cases (same x y) false e) [ inl e ↦ inr (sym (exactly x y e)) | inr e ↦ absurd (true≢false (sym e)) ]
        ]
      ] h

  pub push_one_keeps : (ys : List A) (x y : A) → has same ys y ≡ true → has same (push_one same ys x) y ≡ true
  push_one_keeps ys x y h =
      elim (has same ys x) as (λ b. has same (cond b ys (ys ++ x ∷ [])) y ≡ true) [
        | true ↦ h
        | false ↦ has-append ys (x ∷ []) y ∙ or_left (has same ys y) (same x y || false) h
      ]

  pub push_one_there : (ys : List A) (x : A) → has same (push_one same ys x) x ≡ true
  push_one_there ys x =
      elim (has same ys x) as (λ b. has same ys x ≡ b → has same (cond b ys (ys ++ x ∷ [])) x ≡ true) [
        | true ↦ λ e. e
        | false ↦ λ e. has-append ys (x ∷ []) x ∙ or_right (has same ys x) (same x x || false) (or_left (same x x) false (alike x x refl))
      ] refl

  pub has-push_all : (xs ys : List A) (y : A) → has same (push_all same ys xs) y ≡ true → (has same ys y ≡ true) ⊎ (has same xs y ≡ true)
  has-push_all [] ys y h = inl h
  has-push_all (x ∷ xs) ys y h =
      elim (has-push_all xs (push_one same ys x) y h) [
        | inl e ↦ elim (has-push_one ys x y e) [ inl e ↦ inl e | inr e ↦ inr (or_left (same x y) (has same xs y) (alike x y (sym e))) ]
        | inr e ↦ inr (or_right (same x y) (has same xs y) e)
      ]

  pub push_all_keeps : (xs ys : List A) (y : A) → has same ys y ≡ true → has same (push_all same ys xs) y ≡ true
  push_all_keeps [] ys y h = h
  push_all_keeps (x ∷ xs) ys y h = push_all_keeps xs (push_one same ys x) y (push_one_keeps ys x y h)

  pub push_all_there : (xs ys : List A) (y : A) → has same xs y ≡ true → has same (push_all same ys xs) y ≡ true
  push_all_there [] ys y h = absurd (true≢false (sym h))
  push_all_there (x ∷ xs) ys y h =
      elim (or_cases (same x y) (has same xs y) h) [
        | inl e ↦ push_all_keeps xs (push_one same ys x) y (ap (has same (push_one same ys x)) (sym (exactly x y e)) ∙ push_one_there ys x)
        | inr e ↦ push_all_there xs (push_one same ys x) y e
      ]

  pub length-push_one : (ys : List A) (x : A) → length (push_one same ys x) ≤ length ys + 1
  length-push_one ys x = elim (has same ys x) as (λ b. length (cond b ys (ys ++ x ∷ [])) ≤ length ys + 1) [ true ↦ omega arith | false ↦ omega (arith, length-append ys (x ∷ [])) ]

  pub length-push_all : (xs ys : List A) → length (push_all same ys xs) ≤ length ys + length xs
  length-push_all [] ys = omega arith
  length-push_all (x ∷ xs) ys = omega (arith, length-push_all xs (push_one same ys x), length-push_one ys x)

  pub length-without_le : (ys : List A) (x : A) → length (without same ys x) ≤ length ys
  length-without_le [] x = omega arith
  length-without_le (y ∷ ys) x =
      elim (same y x) as (λ b. length (cond (not b) (y ∷ without same ys x) (without same ys x)) ≤ length (y ∷ ys)) [ true ↦ omega (arith, length-without_le ys x) | false ↦ omega (arith, length-without_le ys x) ]

  pub length-without : (ys : List A) (x : A) → has same ys x ≡ true → length (without same ys x) < length ys
  length-without [] x h = absurd (true≢false (sym h))
  length-without (y ∷ ys) x h =
      elim (same y x) as (λ b. (b || has same ys x) ≡ true → length (cond (not b) (y ∷ without same ys x) (without same ys x)) < length (y ∷ ys)) [
        | true ↦ λ _. omega (arith, length-without_le ys x)
        | false ↦ λ h. omega (arith, length-without ys x h)
      ] h

  pub sum-le : (f g : A → ℕ) (us : List A) → ((u : A) → has same us u ≡ true → g u ≤ f u) → sum_by g us ≤ sum_by f us
  sum-le f g [] le = omega arith
  sum-le f g (u ∷ us) le =
      omega (arith, sum_by-cons f u us, sum_by-cons g u us, le u (or_left (same u u) (has same us u) (alike u u refl)), sum-le f g us (λ w h. le w (or_right (same u w) (has same us w) h)))

  -- where no term is larger and one of them is smaller by d, so is the sum
  pub sum-falls : (f g : A → ℕ) (t : A) (d : ℕ) (us : List A) → ((u : A) → has same us u ≡ true → g u ≤ f u) → g t + d ≤ f t → has same us t ≡ true → sum_by g us + d ≤ sum_by f us
  sum-falls f g t d [] le falls h = absurd (true≢false (sym h))
  sum-falls f g t d (u ∷ us) le falls h =
      let rest : (w : A) → has same us w ≡ true → g w ≤ f w = λ w i. le w (or_right (same u w) (has same us w) i) in
      elim (or_cases (same u t) (has same us t) h) [
        | inl e ↦ let here_is : u ≡ t = exactly u t e in
            let here : g u + d ≤ f u = rw here_is falls in
            omega (arith, sum_by-cons f u us, sum_by-cons g u us, here, sum-le f g us rest)
        | inr e ↦ omega (arith, sum_by-cons f u us, sum_by-cons g u us, le u (or_left (same u u) (has same us u) (alike u u refl)), sum-falls f g t d us rest falls e)
      ]

  -- lists without repeats
  pub distinct_parts : (x : A) (xs : List A) → distinct same (x ∷ xs) ≡ true → (has same xs x ≡ false) × (distinct same xs ≡ true)
  distinct_parts x xs h = let i : (not (has same xs x) ≡ true) × (distinct same xs ≡ true) = and_parts (not (has same xs x)) (distinct same xs) h in (not-true (has same xs x) i.0, i.1)

  pub without_absent : (xs : List A) (x : A) → has same xs x ≡ false → without same xs x ≡ xs
  without_absent [] x h = refl
  without_absent (y ∷ ys) x h =
      let i : (same y x ≡ false) × (has same ys x ≡ false) = or_parts (same y x) (has same ys x) h in
      ap (λ b. cond (not b) (y ∷ without same ys x) (without same ys x)) i.0 ∙ ap (λ zs. y ∷ zs) (without_absent ys x i.1)

  pub has_from_false : (xs ys : List A) (x : A) → (has same ys x ≡ true → has same xs x ≡ true) → has same xs x ≡ false → has same ys x ≡ false
  has_from_false xs ys x sub h = false_from_ne_true (has same ys x) (λ e. both_ways (has same xs x) h (sub e))

  pub distinct-without : (xs : List A) (x : A) → distinct same xs ≡ true → distinct same (without same xs x) ≡ true
  distinct-without [] x d = refl
  distinct-without (y ∷ ys) x d =
      let parts : (has same ys y ≡ false) × (distinct same ys ≡ true) = distinct_parts y ys d in
      elim (same y x) as (λ b. distinct same (cond (not b) (y ∷ without same ys x) (without same ys x)) ≡ true) [
        | true ↦ distinct-without ys x parts.1
        | false ↦ and_from (not (has same (without same ys x) y)) (distinct same (without same ys x)) (not_from_false (has same (without same ys x) y) (has_from_false ys (without same ys x) y (λ e. (has-without ys x y e).0) parts.0)) (distinct-without ys x parts.1)
      ]

  pub distinct-append_one : (xs : List A) (x : A) → distinct same xs ≡ true → has same xs x ≡ false → distinct same (xs ++ x ∷ []) ≡ true
  distinct-append_one [] x d h = refl
  distinct-append_one (y ∷ ys) x d h =
      let parts : (has same ys y ≡ false) × (distinct same ys ≡ true) = distinct_parts y ys d in
      let i : (same y x ≡ false) × (has same ys x ≡ false) = or_parts (same y x) (has same ys x) h in
      and_from (not (has same (ys ++ x ∷ []) y)) (distinct same (ys ++ x ∷ []))
      (not_from_false (has same (ys ++ x ∷ []) y) (has-append ys (x ∷ []) y ∙ or_from (has same ys y) (same x y || false) parts.0 (or_from (same x y) false (unlike x y (λ e. differs y x i.0 (sym e))) refl)))
      (distinct-append_one ys x parts.1 i.1)

  pub distinct-push_one : (xs : List A) (x : A) → distinct same xs ≡ true → distinct same (push_one same xs x) ≡ true
  distinct-push_one xs x d =
      elim (has same xs x) as (λ b. has same xs x ≡ b → distinct same (cond b xs (xs ++ x ∷ [])) ≡ true) [ true ↦ λ _. d | false ↦ λ h. distinct-append_one xs x d h ] refl

  pub distinct-push_all : (xs ys : List A) → distinct same ys ≡ true → distinct same (push_all same ys xs) ≡ true
  distinct-push_all [] ys d = d
  distinct-push_all (x ∷ xs) ys d = distinct-push_all xs (push_one same ys x) (distinct-push_one ys x d)

  -- distinct items that are all in another list are no more than it has
  pub length_distinct : (xs ys : List A) → distinct same xs ≡ true → ((x : A) → has same xs x ≡ true → has same ys x ≡ true) → length xs ≤ length ys
  length_distinct [] ys d sub = omega arith
  length_distinct (x ∷ xs) ys d sub =
      let parts : (has same xs x ≡ false) × (distinct same xs ≡ true) = distinct_parts x xs d in
      let rest : length xs ≤ length (without same ys x) = length_distinct xs (without same ys x) parts.1
      (λ y h. has-filter_from (λ z. not (same z x)) ys y (sub y (or_right (same x y) (has same xs y) h))
      (not_from_false (same y x) (unlike y x (λ e. both_ways (has same xs x) parts.0 (ap (has same xs) (sym e) ∙ h))))) in
      omega (arith, rest, length-without ys x (sub x (or_left (same x x) (has same xs x) (alike x x refl))))

  pub push_one-absent : (xs : List A) (x : A) → has same xs x ≡ false → xs ++ x ∷ [] ≡ push_one same xs x
  push_one-absent xs x h = sym (ap (λ b. cond b xs (xs ++ x ∷ [])) h)

  -- pushing new items, each once, appends them
  pub push_all-append : (xs ys : List A) → distinct same xs ≡ true → ((x : A) → has same xs x ≡ true → has same ys x ≡ false) → push_all same ys xs ≡ ys ++ xs
  push_all-append [] ys d apart = sym (append-nil ys)
  push_all-append (x ∷ xs) ys d apart =
      let parts : (has same xs x ≡ false) × (distinct same xs ≡ true) = distinct_parts x xs d in
      ap (λ zs. push_all same zs xs) (sym (push_one-absent ys x (apart x (or_left (same x x) (has same xs x) (alike x x refl)))))
      ∙ push_all-append xs (ys ++ x ∷ []) parts.1
      (λ y h. has-append ys (x ∷ []) y ∙ or_from (has same ys y) (same x y || false) (apart y (or_right (same x y) (has same xs y) h))
      (or_from (same x y) false (unlike x y (λ e. both_ways (has same xs x) parts.0 (ap (has same xs) e ∙ h))) refl))
      ∙ append_assoc ys (x ∷ []) xs

  pub push_all-nil : (xs : List A) → distinct same xs ≡ true → push_all same [] xs ≡ xs
  push_all-nil xs d = push_all-append xs [] d (λ _ _. refl)

  pub distinct-filter : (p : A → Bool) (xs : List A) → distinct same xs ≡ true → distinct same (filter p xs) ≡ true
  distinct-filter p [] d = refl
  distinct-filter p (x ∷ xs) d =
      let parts : (has same xs x ≡ false) × (distinct same xs ≡ true) = distinct_parts x xs d in
      elim (p x) as (λ b. distinct same (cond b (x ∷ filter p xs) (filter p xs)) ≡ true) [
        | true ↦ and_from (not (has same (filter p xs) x)) (distinct same (filter p xs)) (not_from_false (has same (filter p xs) x) (has_from_false xs (filter p xs) x (λ h. (has-filter p xs x h).0) parts.0)) (distinct-filter p xs parts.1)
        | false ↦ distinct-filter p xs parts.1
      ]

  -- places in a list, for any default
  pub has-get_or : (xs : List A) (i : ℕ) (d : A) → i < length xs → has same xs (get_or xs i d) ≡ true
  has-get_or [] i d h = absurd (omega arith)
  has-get_or (x ∷ xs) zero d h = or_left (same x x) (has same xs x) (alike x x refl)
  has-get_or (x ∷ xs) (suc i) d h = or_right (same x (get_or xs i d)) (has same xs (get_or xs i d)) (has-get_or xs i d (omega arith))

  -- where no item is there twice, taking out a place takes out its item
  pub remove-without : (xs : List A) (i : ℕ) (d : A) → distinct same xs ≡ true → i < length xs → remove xs i ≡ without same xs (get_or xs i d)
  remove-without [] i d once h = absurd (omega arith)
  remove-without (x ∷ xs) zero d once h =
      sym (ap (λ b. cond (not b) (x ∷ without same xs x) (without same xs x)) (alike x x refl) ∙ without_absent xs x (distinct_parts x xs once).0)
  remove-without (x ∷ xs) (suc i) d once h =
      let parts : (has same xs x ≡ false) × (distinct same xs ≡ true) = distinct_parts x xs once in
      let here : i < length xs = omega arith in
      let other : same x (get_or xs i d) ≡ false = unlike x (get_or xs i d) (λ p. both_ways (has same xs x) parts.0 (ap (has same xs) p ∙ has-get_or xs i d here)) in
      ap (λ zs. x ∷ zs) (remove-without xs i d parts.1 here) ∙ sym (ap (λ b. cond (not b) (x ∷ without same xs (get_or xs i d)) (without same xs (get_or xs i d))) other)

  or_false : (b : Bool) → (b || false) ≡ b
  or_false true = refl
  or_false false = refl

  pub has-append_one : (xs : List A) (x y : A) → has same (xs ++ x ∷ []) y ≡ (has same xs y || same x y)
  has-append_one xs x y = has-append xs (x ∷ []) y ∙ ap (λ b. has same xs y || b) (or_false (same x y))

  pub has-take_next : (xs : List A) (i : ℕ) (d x : A) → i < length xs → has same (take (i + 1) xs) x ≡ (has same (take i xs) x || same (get_or xs i d) x)
  has-take_next xs i d x h = ap (λ ys. has same ys x) (take_more xs i d h) ∙ has-append_one (take i xs) (get_or xs i d) x

  -- what isn't among one item more is neither among those before nor that item
  pub not_next : (xs : List A) (i : ℕ) (d x : A) → i < length xs → has same (take (i + 1) xs) x ≡ false → (has same (take i xs) x ≡ false) × (get_or xs i d ≢ x)
  not_next xs i d x h e =
      let p : (has same (take i xs) x ≡ false) × (same (get_or xs i d) x ≡ false) = or_parts (has same (take i xs) x) (same (get_or xs i d) x) (sym (has-take_next xs i d x h) ∙ e) in
      (p.0, differs (get_or xs i d) x p.1)

  -- what was passed so far holds of one item more
  pub each_next : (P : A → Type 0) (xs : List A) (i : ℕ) (d : A) → i < length xs → ((x : A) → has same (take i xs) x ≡ true → P x) → P (get_or xs i d) → (x : A) → has same (take (i + 1) xs) x ≡ true → P x
  each_next P xs i d h before here x e =
      elim (or_cases (has same (take i xs) x) (same (get_or xs i d) x) (sym (has-take_next xs i d x h) ∙ e)) [
        | inl p ↦ before x p
        | inr p ↦ rw (← exactly (get_or xs i d) x p) here
      ]
