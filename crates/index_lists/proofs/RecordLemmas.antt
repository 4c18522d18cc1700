-- A slab of pairs and their order, after a pair is added or taken out.
use Rattle.std.proofs.Common.{◌≡◌, ◌≢◌, ℕ, ◌<◌, Bool, true, false, cond, not, ◌||◌, List, [], ◌∷◌, ◌++◌, length, Option, Some, None, is_some, refl, sym, ap, ◌∙◌, inl, inr, arith}
use Rattle.std.specs.Prelude.{nat_eq, unwrap_or, map}
use Rattle.std.proofs.lemmas.Bool.{cases_eq, cases_lt, cases_Bool, both_ways, eq-eqb, eqb-true, ne_eqb, or_parts, true≢false, false_from_ne_true, not_from_false}
use Rattle.std.proofs.lemmas.List.{get_or-set_same, get_or_past, length-set}
use Rattle.slab.specs.Slab.{Slab, Updates, get}
use Rattle.list_theory.specs.Lists.{distinct, has, without}
use Rattle.list_theory.proofs.ListLemmas.{distinct-append_one, distinct-without, has-append_one, has-filter_from, has-without}
use Rattle.list_theory.proofs.NumberLemmas.{numbers_exact}
use Rattle.linked_lists.specs.Chains.{Lists, list_in, with_list}
use Rattle.index_lists.specs.Records.{IsOrdered, all_in, entries_in, numbers, pair_at, pair_of, without_number}

pub list_in_same : (s : Lists) (k : ℕ) (xs : List ℕ) → k < length s.lists → list_in (with_list s k xs) k ≡ xs
list_in_same s k xs w = get_or-set_same s.lists k xs [] w

-- a pair with its number
abbrev with_pair : Slab (ℕ × ℕ) → ℕ → ℕ × (ℕ × ℕ)
with_pair s m = (m, pair_at s m)

-- the numbers of the pairs are those of the order
pub numbers_are : (s : Slab (ℕ × ℕ)) (order : Lists) → numbers (entries_in s order) ≡ all_in order
numbers_are s order = by_list (all_in order)
  where
    by_list : (xs : List ℕ) → numbers (map (with_pair s) xs) ≡ xs
    by_list [] = refl
    by_list (x ∷ xs) = ap (λ ys. x ∷ ys) (by_list xs)

-- the pair with a number is that of the slab
pub pair_is : (s : Slab (ℕ × ℕ)) (order : Lists) (n : ℕ) → IsOrdered s order → pair_of (entries_in s order) n ≡ pair_at s n
pair_is s order n o =
    elim (cases_Bool (has nat_eq (all_in order) n)) [
      | inl h ↦ there (all_in order) h
      | inr h ↦ absent (all_in order) h ∙ sym (nothing (get s n) (sym (o.present n) ∙ h))
    ]
  where
    there : (xs : List ℕ) → has nat_eq xs n ≡ true → pair_of (map (with_pair s) xs) n ≡ pair_at s n
    there [] h = absurd (true≢false (sym h))
    there (x ∷ xs) h =
        elim (cases_Bool (nat_eq x n)) [
          | inl e ↦ ap (λ b. cond b (pair_at s x) (pair_of (map (with_pair s) xs) n)) e ∙ ap (pair_at s) (eqb-true x n e)
          | inr e ↦ ap (λ b. cond b (pair_at s x) (pair_of (map (with_pair s) xs) n)) e ∙ there xs (sym (ap (λ b. b || has nat_eq xs n) e) ∙ h)
        ]

    absent : (xs : List ℕ) → has nat_eq xs n ≡ false → pair_of (map (with_pair s) xs) n ≡ (0, 0)
    absent [] h = refl
    absent (x ∷ xs) h =
        let parts : (nat_eq x n ≡ false) × (has nat_eq xs n ≡ false) = or_parts (nat_eq x n) (has nat_eq xs n) h in
        ap (λ b. cond b (pair_at s x) (pair_of (map (with_pair s) xs) n)) parts.0 ∙ absent xs parts.1

    nothing : (o : Option (ℕ × ℕ)) → is_some o ≡ false → unwrap_or o (0, 0) ≡ (0, 0)
    nothing None h = refl
    nothing (Some p) h = absurd (true≢false h)

-- another pair is as it was
pair_kept : (s s' : Slab (ℕ × ℕ)) (n : ℕ) (slot : Option (ℕ × ℕ)) (m : ℕ) → Updates s s' n slot → m ≢ n → pair_at s' m ≡ pair_at s m
pair_kept s s' n slot m u other = ap (λ o. unwrap_or o (0, 0)) (u.others m other)

-- the number of a new pair is not in the order
pub new_nowhere : (s : Slab (ℕ × ℕ)) (order : Lists) (n : ℕ) → IsOrdered s order → get s n ≡ None → has nat_eq (all_in order) n ≡ false
new_nowhere s order n o vacant = o.present n ∙ ap is_some vacant

-- the pairs after one is added
pub entries_added : (s s' : Slab (ℕ × ℕ)) (order order' : Lists) (n : ℕ) (e : ℕ × ℕ) → has nat_eq (all_in order) n ≡ false → Updates s s' n (Some e) → all_in order' ≡ all_in order ++ n ∷ [] → entries_in s' order' ≡ entries_in s order ++ (n, e) ∷ []
entries_added s s' order order' n e absent u all = ap (map (with_pair s')) all ∙ by_list (all_in order) absent
  where
    by_list : (xs : List ℕ) → has nat_eq xs n ≡ false → map (with_pair s') (xs ++ n ∷ []) ≡ map (with_pair s) xs ++ (n, e) ∷ []
    by_list [] h = ap (λ o. (n, unwrap_or o (0, 0)) ∷ []) u.changed
    by_list (x ∷ xs) h =
        let parts : (nat_eq x n ≡ false) × (has nat_eq xs n ≡ false) = or_parts (nat_eq x n) (has nat_eq xs n) h in
        let kept : pair_at s' x ≡ pair_at s x = pair_kept s s' n (Some e) x u (λ same. both_ways (nat_eq x n) parts.0 (eq-eqb x n same)) in
        ap (λ f. (x, f) ∷ map (with_pair s') (xs ++ n ∷ [])) kept ∙ ap (λ fs. (x, pair_at s x) ∷ fs) (by_list xs parts.1)

-- and after one is taken out
pub entries_removed : (s s' : Slab (ℕ × ℕ)) (order order' : Lists) (n : ℕ) → Updates s s' n None → all_in order' ≡ without nat_eq (all_in order) n → entries_in s' order' ≡ without_number (entries_in s order) n
entries_removed s s' order order' n u all = ap (map (with_pair s')) all ∙ by_list (all_in order)
  where
    by_list : (xs : List ℕ) → map (with_pair s') (without nat_eq xs n) ≡ without_number (map (with_pair s) xs) n
    by_list [] = refl
    by_list (x ∷ xs) =
        elim (cases_Bool (nat_eq x n)) [
          | inl e ↦ ap (λ b. map (with_pair s') (cond (not b) (x ∷ without nat_eq xs n) (without nat_eq xs n))) e ∙ by_list xs
              ∙ sym (ap (λ b. cond (not b) ((x, pair_at s x) ∷ without_number (map (with_pair s) xs) n) (without_number (map (with_pair s) xs) n)) e)
          | inr e ↦
              let kept : pair_at s' x ≡ pair_at s x = pair_kept s s' n None x u (λ same. both_ways (nat_eq x n) e (eq-eqb x n same)) in
              ap (λ b. map (with_pair s') (cond (not b) (x ∷ without nat_eq xs n) (without nat_eq xs n))) e
              ∙ ap (λ f. (x, f) ∷ map (with_pair s') (without nat_eq xs n)) kept ∙ ap (λ fs. (x, pair_at s x) ∷ fs) (by_list xs)
              ∙ sym (ap (λ b. cond (not b) ((x, pair_at s x) ∷ without_number (map (with_pair s) xs) n) (without_number (map (with_pair s) xs) n)) e)
        ]

or_false : (b : Bool) → (b || false) ≡ b
or_false true = refl
or_false false = refl

-- A pair is added.
pub ordered_added : (s s' : Slab (ℕ × ℕ)) (order order' : Lists) (n : ℕ) (e : ℕ × ℕ) → IsOrdered s order → get s n ≡ None → Updates s s' n (Some e) → 0 < length order.lists
    → order' ≡ with_list order 0 (all_in order ++ n ∷ []) → IsOrdered s' order'
ordered_added s s' order order' n e o vacant u some eo =
    let absent : has nat_eq (all_in order) n ≡ false = new_nowhere s order n o vacant in
    let all : all_in (with_list order 0 (all_in order ++ n ∷ [])) ≡ all_in order ++ n ∷ [] = list_in_same order 0 (all_in order ++ n ∷ []) some in
    rw eo (record {
      listed = λ h. omega (arith, some, length-set order.lists 0 (all_in order ++ n ∷ []));
      one = let few = o.one in omega (arith, few, length-set order.lists 0 (all_in order ++ n ∷ []));
      once = ap (distinct nat_eq) all ∙ distinct-append_one nat_eq numbers_exact (all_in order) n o.once absent;
      present = λ m. ap (λ ys. has nat_eq ys m) all ∙ has-append_one nat_eq numbers_exact (all_in order) n m ∙ (elim (cases_eq m n) [
        | inl same ↦ rw same (ap (λ b. b || nat_eq n n) absent ∙ eq-eqb n n refl ∙ sym (ap is_some u.changed))
        | inr other ↦ ap (λ b. has nat_eq (all_in order) m || b) (ne_eqb n m (λ h. other (sym h))) ∙ or_false _ ∙ o.present m ∙ sym (ap is_some (u.others m other))
      ]);
    })

-- A pair is taken out.
pub ordered_removed : (s s' : Slab (ℕ × ℕ)) (order order' : Lists) (n : ℕ) → IsOrdered s order → Updates s s' n None → 0 < length order.lists
    → order' ≡ with_list order 0 (without nat_eq (all_in order) n) → IsOrdered s' order'
ordered_removed s s' order order' n o u some eo =
    let all : all_in (with_list order 0 (without nat_eq (all_in order) n)) ≡ without nat_eq (all_in order) n = list_in_same order 0 (without nat_eq (all_in order) n) some in
    rw eo (record {
      listed = λ h. omega (arith, some, length-set order.lists 0 (without nat_eq (all_in order) n));
      one = let few = o.one in omega (arith, few, length-set order.lists 0 (without nat_eq (all_in order) n));
      once = ap (distinct nat_eq) all ∙ distinct-without nat_eq numbers_exact (all_in order) n o.once;
      present = λ m. ap (λ ys. has nat_eq ys m) all ∙ (elim (cases_eq m n) [
        | inl same ↦ rw same (false_from_ne_true (has nat_eq (without nat_eq (all_in order) n) n) (λ h. both_ways (nat_eq n n) (has-without nat_eq numbers_exact (all_in order) n n h).1 (eq-eqb n n refl)) ∙ sym (ap is_some u.changed))
        | inr other ↦ has_without_other (all_in order) n m other ∙ o.present m ∙ sym (ap is_some (u.others m other))
      ]);
    })
  where
    has_without_other : (items : List ℕ) (x y : ℕ) → y ≢ x → has nat_eq (without nat_eq items x) y ≡ has nat_eq items y
    has_without_other items x y other = elim (cases_Bool (has nat_eq items y)) [
      | inl w ↦ has-filter_from nat_eq numbers_exact (λ z. not (nat_eq z x)) items y w (not_from_false (nat_eq y x) (ne_eqb y x other)) ∙ sym w
      | inr m ↦ false_from_ne_true (has nat_eq (without nat_eq items x) y) (λ w. both_ways (has nat_eq items y) m (has-without nat_eq numbers_exact items x y w).0) ∙ sym m
    ]

-- a list with an item is there
pub there_is : (lists : Lists) (k x : ℕ) → has nat_eq (list_in lists k) x ≡ true → k < length lists.lists
there_is lists k x h = elim (cases_lt k (length lists.lists)) [
  | inl lt ↦ lt
  | inr past ↦ absurd (true≢false (sym h ∙ ap (λ xs. has nat_eq xs x) (get_or_past lists.lists k [] past)))
]

-- the number of a new pair is in no list
pub new_absent : (s : Slab (ℕ × ℕ)) (order : Lists) (n k : ℕ) → IsOrdered s order → get s n ≡ None → has nat_eq (list_in order k) n ≡ false
new_absent s order n k o vacant =
    elim (cases_eq k 0) [
      | inl same ↦ rw same (new_nowhere s order n o vacant)
      | inr other ↦ let few = o.one in ap (λ xs. has nat_eq xs n) (get_or_past order.lists k [] (omega (arith, few, other)))
    ]

-- no number is there twice
pub once_is : (s : Slab (ℕ × ℕ)) (order : Lists) → IsOrdered s order → distinct nat_eq (numbers (entries_in s order)) ≡ true
once_is s order o = ap (distinct nat_eq) (numbers_are s order) ∙ o.once
