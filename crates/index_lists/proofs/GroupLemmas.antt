-- Lists of pairs by a key, after a pair is added or taken out.
use Rattle.std.proofs.Common.{◌≡◌, ◌≢◌, ℕ, ◌<◌, Bool, true, false, cond, not, ◌||◌, List, [], ◌∷◌, ◌++◌, length, Some, refl, sym, ap, ◌∙◌, inl, inr, append-nil}
use Rattle.std.specs.Prelude.{nat_eq, filter, map}
use Rattle.std.proofs.lemmas.Bool.{cases_eq, cases_Bool, both_ways, eq-eqb, eqb-true, ne_eqb, or_cases, or_left, or_right, or_parts, true≢false, false_from_ne_true}
use Rattle.std.proofs.lemmas.List.{get_or-set_other}
use Rattle.list_theory.specs.Lists.{has, without, distinct}
use Rattle.list_theory.proofs.ListLemmas.{distinct_parts, without_absent, length-without}
use Rattle.list_theory.proofs.NumberLemmas.{numbers_exact}
use Rattle.linked_lists.specs.Chains.{Lists, first_of, list_in, with_list}
use Rattle.index_lists.specs.Records.{AreGrouped, entry_of, has_key, numbers, pair_of, without_number}
use Rattle.index_lists.proofs.RecordLemmas.{list_in_same, there_is}

list_in_other : (s : Lists) (k j : ℕ) (xs : List ℕ) → j ≢ k → list_in (with_list s k xs) j ≡ list_in s j
list_in_other s k j xs other = get_or-set_other s.lists k j xs [] other

module _ (p : ℕ × (ℕ × ℕ) → Bool) where
  -- the numbers of those that pass, with a pair more
  numbers_added : (es : List (ℕ × (ℕ × ℕ))) (e : ℕ × (ℕ × ℕ)) → numbers (filter p (es ++ e ∷ [])) ≡ numbers (filter p es) ++ cond (p e) (e.0 ∷ []) []
  numbers_added [] e = elim (p e) as (λ b. numbers (cond b (e ∷ []) []) ≡ [] ++ cond b (e.0 ∷ []) []) [ true ↦ refl | false ↦ refl ]
  numbers_added (y ∷ ys) e =
      elim (p y) as (λ b. numbers (cond b (y ∷ filter p (ys ++ e ∷ [])) (filter p (ys ++ e ∷ []))) ≡ numbers (cond b (y ∷ filter p ys) (filter p ys)) ++ cond (p e) (e.0 ∷ []) []) [
        | true ↦ ap (λ zs. y.0 ∷ zs) (numbers_added ys e)
        | false ↦ numbers_added ys e
      ]

  -- and with a pair less
  pub numbers_removed : (es : List (ℕ × (ℕ × ℕ))) (n : ℕ) → numbers (filter p (without_number es n)) ≡ without nat_eq (numbers (filter p es)) n
  numbers_removed [] n = refl
  numbers_removed (y ∷ ys) n =
      elim (cases_Bool (nat_eq y.0 n)) [
        | inl e ↦ ap (λ b. numbers (filter p (cond (not b) (y ∷ without_number ys n) (without_number ys n)))) e ∙ numbers_removed ys n ∙ sym (
            elim (p y) as (λ b. without nat_eq (numbers (cond b (y ∷ filter p ys) (filter p ys))) n ≡ without nat_eq (numbers (filter p ys)) n) [
              | true ↦ ap (λ b. cond (not b) (y.0 ∷ without nat_eq (numbers (filter p ys)) n) (without nat_eq (numbers (filter p ys)) n)) e
              | false ↦ refl
            ])
        | inr e ↦ ap (λ b. numbers (filter p (cond (not b) (y ∷ without_number ys n) (without_number ys n)))) e ∙ (
            elim (p y) as (λ b. numbers (cond b (y ∷ filter p (without_number ys n)) (filter p (without_number ys n))) ≡ without nat_eq (numbers (cond b (y ∷ filter p ys) (filter p ys))) n) [
              | true ↦ ap (λ zs. y.0 ∷ zs) (numbers_removed ys n) ∙ sym (ap (λ b. cond (not b) (y.0 ∷ without nat_eq (numbers (filter p ys)) n) (without nat_eq (numbers (filter p ys)) n)) e)
              | false ↦ numbers_removed ys n
            ])
      ]

  -- a pair that passes is there
  pub has_passed : (es : List (ℕ × (ℕ × ℕ))) (n : ℕ) → has nat_eq (numbers (filter p es)) n ≡ true → has nat_eq (numbers es) n ≡ true
  has_passed [] n h = h
  has_passed (y ∷ ys) n h =
      elim (p y) as (λ b. has nat_eq (numbers (cond b (y ∷ filter p ys) (filter p ys))) n ≡ true → has nat_eq (numbers (y ∷ ys)) n ≡ true) [
        | true ↦ λ h. elim (or_cases (nat_eq y.0 n) (has nat_eq (numbers (filter p ys)) n) h) [
          | inl e ↦ or_left (nat_eq y.0 n) (has nat_eq (numbers ys) n) e
          | inr r ↦ or_right (nat_eq y.0 n) (has nat_eq (numbers ys) n) (has_passed ys n r)
        ]
        | false ↦ λ h. or_right (nat_eq y.0 n) (has nat_eq (numbers ys) n) (has_passed ys n h)
      ] h

  -- where none passes, those that don't pass are all
  pub none_passes : (es : List (ℕ × (ℕ × ℕ))) → numbers (filter p es) ≡ [] → filter (λ e. not (p e)) es ≡ es
  none_passes [] h = refl
  none_passes (y ∷ ys) h =
      elim (p y) as (λ b. numbers (cond b (y ∷ filter p ys) (filter p ys)) ≡ [] → cond (not b) (y ∷ filter (λ e. not (p e)) ys) (filter (λ e. not (p e)) ys) ≡ y ∷ ys) [
        | true ↦ λ h. absurd (cc (h))
        | false ↦ λ h. ap (λ zs. y ∷ zs) (none_passes ys h)
      ] h

  -- without a number that isn't there, all pairs are as they were
  absent_number : (es : List (ℕ × (ℕ × ℕ))) (n : ℕ) → has nat_eq (numbers es) n ≡ false → without_number es n ≡ es
  absent_number [] n h = refl
  absent_number (y ∷ ys) n h =
      let parts : (nat_eq y.0 n ≡ false) × (has nat_eq (numbers ys) n ≡ false) = or_parts (nat_eq y.0 n) (has nat_eq (numbers ys) n) h in
      ap (λ b. cond (not b) (y ∷ without_number ys n) (without_number ys n)) parts.0 ∙ ap (λ zs. y ∷ zs) (absent_number ys n parts.1)

  -- taking out one that passes changes nothing for those that don't
  pub passed_removed : (es : List (ℕ × (ℕ × ℕ))) (n : ℕ) → distinct nat_eq (numbers es) ≡ true → has nat_eq (numbers (filter p es)) n ≡ true → filter (λ e. not (p e)) (without_number es n) ≡ filter (λ e. not (p e)) es
  passed_removed [] n d h = refl
  passed_removed (y ∷ ys) n d h =
      let parts : (has nat_eq (numbers ys) y.0 ≡ false) × (distinct nat_eq (numbers ys) ≡ true) = distinct_parts nat_eq numbers_exact y.0 (numbers ys) d in
      elim (cases_Bool (nat_eq y.0 n)) [
        | inl e ↦
            let same : y.0 ≡ n = eqb-true y.0 n e in
            let gone : has nat_eq (numbers ys) n ≡ false = rw (← same) parts.0 in
            ap (λ b. filter (λ e. not (p e)) (cond (not b) (y ∷ without_number ys n) (without_number ys n))) e ∙ ap (filter (λ e. not (p e))) (absent_number ys n gone) ∙ (
            elim (p y) as (λ b. has nat_eq (numbers (cond b (y ∷ filter p ys) (filter p ys))) n ≡ true → filter (λ e. not (p e)) ys ≡ cond (not b) (y ∷ filter (λ e. not (p e)) ys) (filter (λ e. not (p e)) ys)) [
              | true ↦ λ h. refl
              | false ↦ λ h. absurd (both_ways (has nat_eq (numbers ys) n) gone (has_passed ys n h))
            ] h)
        | inr e ↦
            ap (λ b. filter (λ e. not (p e)) (cond (not b) (y ∷ without_number ys n) (without_number ys n))) e ∙ (
            elim (p y) as (λ b. has nat_eq (numbers (cond b (y ∷ filter p ys) (filter p ys))) n ≡ true
            → cond (not b) (y ∷ filter (λ e. not (p e)) (without_number ys n)) (filter (λ e. not (p e)) (without_number ys n)) ≡ cond (not b) (y ∷ filter (λ e. not (p e)) ys) (filter (λ e. not (p e)) ys)) [
              | true ↦ λ h. passed_removed ys n parts.1 (sym (ap (λ b. b || has nat_eq (numbers (filter p ys)) n) e) ∙ h)
              | false ↦ λ h. ap (λ zs. y ∷ zs) (passed_removed ys n parts.1 h)
            ] h)
      ]

first_none : (xs : List ℕ) → ((x : ℕ) → first_of xs ≡ Some x → ⊥) → xs ≡ []
first_none [] h = refl
first_none (x ∷ xs) h = absurd (h x refl)

pub first_has : (xs : List ℕ) (x : ℕ) → first_of xs ≡ Some x → has nat_eq xs x ≡ true
first_has [] x h = absurd (cc (h))
first_has (y ∷ ys) x h = let same : y ≡ x = cc (h) in or_left (nat_eq y x) (has nat_eq ys x) (eq-eqb y x same)

pub map_same : {A : Type 0} (f g : ℕ → A) (xs : List ℕ) → ((x : ℕ) → has nat_eq xs x ≡ true → f x ≡ g x) → map f xs ≡ map g xs
map_same f g [] same = refl
map_same f g (x ∷ xs) same =
    ap (λ y. y ∷ map f xs) (same x (or_left (nat_eq x x) (has nat_eq xs x) (eq-eqb x x refl)))
    ∙ ap (λ ys. g x ∷ ys) (map_same f g xs (λ y h. same y (or_right (nat_eq x y) (has nat_eq xs y) h)))

-- the pairs with the numbers of those that pass are those that pass
passed_entries : (p : ℕ × (ℕ × ℕ) → Bool) (es : List (ℕ × (ℕ × ℕ))) → distinct nat_eq (numbers es) ≡ true → map (entry_of es) (numbers (filter p es)) ≡ filter p es
passed_entries p [] d = refl
passed_entries p (y ∷ ys) d =
    let parts : (has nat_eq (numbers ys) y.0 ≡ false) × (distinct nat_eq (numbers ys) ≡ true) = distinct_parts nat_eq numbers_exact y.0 (numbers ys) d in
    let rest : map (entry_of (y ∷ ys)) (numbers (filter p ys)) ≡ filter p ys =
    map_same (entry_of (y ∷ ys)) (entry_of ys) (numbers (filter p ys)) (λ m h.
    let other : nat_eq y.0 m ≡ false = ne_eqb y.0 m (λ same. both_ways (has nat_eq (numbers ys) y.0) parts.0 (rw same (has_passed p ys m h))) in
    ap (λ b. (m, cond b y.1 (pair_of ys m))) other)
    ∙ passed_entries p ys parts.1 in
    elim (p y) as (λ b. map (entry_of (y ∷ ys)) (numbers (cond b (y ∷ filter p ys) (filter p ys))) ≡ cond b (y ∷ filter p ys) (filter p ys)) [
      | true ↦ ap (λ b. (y.0, cond b y.1 (pair_of ys y.0)) ∷ map (entry_of (y ∷ ys)) (numbers (filter p ys))) (eq-eqb y.0 y.0 refl) ∙ ap (λ zs. y ∷ zs) rest
      | false ↦ rest
    ]

module _ (key : ℕ × ℕ → ℕ) where
  -- a pair stands in the list of its key
  pub has_own : (es : List (ℕ × (ℕ × ℕ))) (n : ℕ) → has nat_eq (numbers es) n ≡ true → has nat_eq (numbers (filter (has_key key (key (pair_of es n))) es)) n ≡ true
  has_own es n h = from es (key (pair_of es n)) h refl
    where
      from : (es : List (ℕ × (ℕ × ℕ))) (k : ℕ) → has nat_eq (numbers es) n ≡ true → key (pair_of es n) ≡ k → has nat_eq (numbers (filter (has_key key k) es)) n ≡ true
      from [] k h is = h
      from (y ∷ ys) k h is =
          elim (cases_Bool (nat_eq y.0 n)) [
            | inl e ↦
                let own : nat_eq (key y.1) k ≡ true = eq-eqb (key y.1) k (sym (ap (λ b. key (cond b y.1 (pair_of ys n))) e) ∙ is) in
                ap (λ b. has nat_eq (numbers (cond b (y ∷ filter (has_key key k) ys) (filter (has_key key k) ys))) n) own ∙ or_left (nat_eq y.0 n) (has nat_eq (numbers (filter (has_key key k) ys)) n) e
            | inr e ↦
                let rest : has nat_eq (numbers (filter (has_key key k) ys)) n ≡ true = from ys k (sym (ap (λ b. b || has nat_eq (numbers ys) n) e) ∙ h) (sym (ap (λ b. key (cond b y.1 (pair_of ys n))) e) ∙ is) in
                elim (nat_eq (key y.1) k) as (λ b. has nat_eq (numbers (cond b (y ∷ filter (has_key key k) ys) (filter (has_key key k) ys))) n ≡ true) [
                  | true ↦ or_right (nat_eq y.0 n) (has nat_eq (numbers (filter (has_key key k) ys)) n) rest
                  | false ↦ rest
                ]
          ]

  -- and in no other
  has_only : (es : List (ℕ × (ℕ × ℕ))) (n k : ℕ) → distinct nat_eq (numbers es) ≡ true → has nat_eq (numbers (filter (has_key key k) es)) n ≡ true → key (pair_of es n) ≡ k
  has_only [] n k d h = absurd (true≢false (sym h))
  has_only (y ∷ ys) n k d h =
      let parts : (has nat_eq (numbers ys) y.0 ≡ false) × (distinct nat_eq (numbers ys) ≡ true) = distinct_parts nat_eq numbers_exact y.0 (numbers ys) d in
      elim (cases_Bool (nat_eq y.0 n)) [
        | inl e ↦
            let same : y.0 ≡ n = eqb-true y.0 n e in
            let gone : has nat_eq (numbers ys) n ≡ false = rw (← same) parts.0 in
            ap (λ b. key (cond b y.1 (pair_of ys n))) e ∙ (elim (cases_Bool (nat_eq (key y.1) k)) [
              | inl own ↦ eqb-true (key y.1) k own
              | inr other ↦ absurd (both_ways (has nat_eq (numbers ys) n) gone (has_passed (has_key key k) ys n (sym (ap (λ b. has nat_eq (numbers (cond b (y ∷ filter (has_key key k) ys) (filter (has_key key k) ys))) n) other) ∙ h)))
            ])
        | inr e ↦
            let rest : has nat_eq (numbers (filter (has_key key k) ys)) n ≡ true =
            elim (nat_eq (key y.1) k) as (λ b. has nat_eq (numbers (cond b (y ∷ filter (has_key key k) ys) (filter (has_key key k) ys))) n ≡ true → has nat_eq (numbers (filter (has_key key k) ys)) n ≡ true) [
              | true ↦ λ h. sym (ap (λ b. b || has nat_eq (numbers (filter (has_key key k) ys)) n) e) ∙ h
              | false ↦ λ h. h
            ] h in
            ap (λ b. key (cond b y.1 (pair_of ys n))) e ∙ has_only ys n k parts.1 rest
      ]

  -- a pair that isn't there is in no list
  pub absent_grouped : (es : List (ℕ × (ℕ × ℕ))) (lists : Lists) (n k : ℕ) → AreGrouped key es lists → has nat_eq (numbers es) n ≡ false → has nat_eq (list_in lists k) n ≡ false
  absent_grouped es lists n k g absent =
      false_from_ne_true (has nat_eq (list_in lists k) n) (λ h. both_ways (has nat_eq (numbers es) n) absent (has_passed (has_key key k) es n (ap (λ xs. has nat_eq xs n) (sym (g k)) ∙ h)))

  -- one that is there is in the list of its key
  pub there_grouped : (es : List (ℕ × (ℕ × ℕ))) (lists : Lists) (n : ℕ) → AreGrouped key es lists → has nat_eq (numbers es) n ≡ true → has nat_eq (list_in lists (key (pair_of es n))) n ≡ true
  there_grouped es lists n g there = ap (λ xs. has nat_eq xs n) (g (key (pair_of es n))) ∙ has_own es n there

  -- A pair is added.
  pub grouped_added : (es : List (ℕ × (ℕ × ℕ))) (lists : Lists) (n : ℕ) (e : ℕ × ℕ) → AreGrouped key es lists → key e < length lists.lists
      → AreGrouped key (es ++ (n, e) ∷ []) (with_list lists (key e) (list_in lists (key e) ++ n ∷ []))
  grouped_added es lists n e g w k =
      let whole : numbers (filter (has_key key k) (es ++ (n, e) ∷ [])) ≡ list_in lists k ++ cond (nat_eq (key e) k) (n ∷ []) [] =
      numbers_added (has_key key k) es (n, e) ∙ ap (λ xs. xs ++ cond (nat_eq (key e) k) (n ∷ []) []) (sym (g k)) in
      elim (cases_eq k (key e)) [
        | inl same ↦ ap (list_in (with_list lists (key e) (list_in lists (key e) ++ n ∷ []))) same ∙ list_in_same lists (key e) _ w ∙ ap (λ j. list_in lists j ++ n ∷ []) (sym same)
            ∙ sym (whole ∙ ap (λ b. list_in lists k ++ cond b (n ∷ []) []) (eq-eqb (key e) k (sym same)))
        | inr other ↦ list_in_other lists (key e) k _ other ∙ sym (append-nil (list_in lists k))
            ∙ sym (whole ∙ ap (λ b. list_in lists k ++ cond b (n ∷ []) []) (ne_eqb (key e) k (λ h. other (sym h))))
      ]

  -- A pair is taken out.
  pub grouped_removed : (es : List (ℕ × (ℕ × ℕ))) (lists : Lists) (n j : ℕ) → AreGrouped key es lists → distinct nat_eq (numbers es) ≡ true → has nat_eq (numbers es) n ≡ true → j ≡ key (pair_of es n)
      → AreGrouped key (without_number es n) (with_list lists j (without nat_eq (list_in lists j) n))
  grouped_removed es lists n j g d there is k =
      let whole : numbers (filter (has_key key k) (without_number es n)) ≡ without nat_eq (list_in lists k) n = numbers_removed (has_key key k) es n ∙ ap (λ xs. without nat_eq xs n) (sym (g k)) in
      let own : has nat_eq (list_in lists j) n ≡ true = rw is (there_grouped es lists n g there) in
      elim (cases_eq k j) [
        | inl same ↦ ap (list_in (with_list lists j (without nat_eq (list_in lists j) n))) same ∙ list_in_same lists j _ (there_is lists j n own) ∙ ap (λ i. without nat_eq (list_in lists i) n) (sym same) ∙ sym whole
        | inr other ↦
            let absent : has nat_eq (list_in lists k) n ≡ false = false_from_ne_true (has nat_eq (list_in lists k) n) (λ h. other (sym (has_only es n k d (ap (λ xs. has nat_eq xs n) (sym (g k)) ∙ h)) ∙ sym is)) in
            list_in_other lists j k _ other ∙ sym (whole ∙ without_absent nat_eq numbers_exact (list_in lists k) n absent)
      ]

  -- a list gets shorter
  pub list_shrinks : (es es' : List (ℕ × (ℕ × ℕ))) (lists lists' : Lists) (n k : ℕ) → AreGrouped key es lists → AreGrouped key es' lists' → es' ≡ without_number es n → has nat_eq (list_in lists k) n ≡ true
      → length (list_in lists' k) < length (list_in lists k)
  list_shrinks es es' lists lists' n k g g' is there =
      let now : list_in lists' k ≡ without nat_eq (list_in lists k) n = g' k ∙ ap (λ xs. numbers (filter (has_key key k) xs)) is ∙ numbers_removed (has_key key k) es n ∙ ap (λ xs. without nat_eq xs n) (sym (g k)) in
      rw now (length-without nat_eq numbers_exact (list_in lists k) n there)

  -- those with another key stay
  pub others_stay : (es es' : List (ℕ × (ℕ × ℕ))) (lists : Lists) (n k : ℕ) → AreGrouped key es lists → distinct nat_eq (numbers es) ≡ true → es' ≡ without_number es n → has nat_eq (list_in lists k) n ≡ true
      → filter (λ e. not (has_key key k e)) es' ≡ filter (λ e. not (has_key key k e)) es
  others_stay es es' lists n k g once is there = ap (filter (λ e. not (has_key key k e))) is ∙ passed_removed (has_key key k) es n once (ap (λ xs. has nat_eq xs n) (sym (g k)) ∙ there)

  -- where a list is empty, none has its key
  pub no_others : (es : List (ℕ × (ℕ × ℕ))) (lists : Lists) (k : ℕ) → AreGrouped key es lists → ((x : ℕ) → first_of (list_in lists k) ≡ Some x → ⊥) → filter (λ e. not (has_key key k e)) es ≡ es
  no_others es lists k g none = none_passes (has_key key k) es (sym (g k) ∙ first_none (list_in lists k) none)

  -- the pairs of a list are those with its key
  pub group_entries : (es : List (ℕ × (ℕ × ℕ))) (lists : Lists) (k : ℕ) → AreGrouped key es lists → distinct nat_eq (numbers es) ≡ true → map (entry_of es) (list_in lists k) ≡ filter (has_key key k) es
  group_entries es lists k g once = ap (map (entry_of es)) (g k) ∙ passed_entries (has_key key k) es once
