-- Rows that are turned round, one after another.
use Rattle.std.proofs.Common.{◌≡◌, ◌≢◌, ◌<◌, ◌+◌, ℕ, zero, suc, Bool, true, false, cond, ◌||◌, List, [], ◌∷◌, ◌++◌, length, filter, get_or, take, set, refl, sym, ap, ◌∙◌, arith, append-nil, inl, inr}
use Rattle.std.specs.Prelude.{nat_eq}
use Rattle.std.specs.List.{range_with_len}
use Rattle.std.proofs.lemmas.Bool.{false_from_ne_true, both_ways, cases_Bool}
use Rattle.std.proofs.lemmas.List.{get_or-set_same, get_or-set_other, get_or-take, length-take}
use Rattle.std.proofs.lemmas.List.Elements.{filter-append}
use Rattle.list_theory.specs.Lists.{has}
use Rattle.index_tables.specs.inner.Gained.{gained}
use Rattle.list_theory.proofs.ListLemmas.{has-get_or, has-take_next}
use Rattle.list_theory.proofs.NumberLemmas.{numbers_exact}

range_push : (a n : ℕ) → range_with_len a (suc n) ≡ range_with_len a n ++ (a + n) ∷ []
range_push a zero = let e : a ≡ a + 0 = omega arith in ap (λ x. x ∷ []) e
range_push a (suc n) = let e : (a + 1) + n ≡ a + suc n = omega arith in ap (λ xs. a ∷ xs) (range_push (a + 1) n ∙ ap (λ x. range_with_len (a + 1) n ++ x ∷ []) e)

-- the numbers below the next that pass
pub filter_next : (P : ℕ → Bool) (n : ℕ) → filter P (range_with_len 0 (n + 1)) ≡ cond (P n) (filter P (range_with_len 0 n) ++ n ∷ []) (filter P (range_with_len 0 n))
filter_next P n =
    let e : n + 1 ≡ suc n = omega arith in
    let z : 0 + n ≡ n = omega arith in
    ap (λ m. filter P (range_with_len 0 m)) e ∙ ap (filter P) (range_push 0 n ∙ ap (λ x. range_with_len 0 n ++ x ∷ []) z) ∙ filter-append P (range_with_len 0 n) (n ∷ [])
    ∙ elim (P n) as (λ b. filter P (range_with_len 0 n) ++ cond b (n ∷ []) [] ≡ cond b (filter P (range_with_len 0 n) ++ n ∷ []) (filter P (range_with_len 0 n))) [ true ↦ refl | false ↦ append-nil (filter P (range_with_len 0 n)) ]

-- a row that gains the next number, where the number is put into the row of its place
pub pushed_next : (numbers : List ℕ) (n count : ℕ) (rows : List (List ℕ)) → get_or numbers n 0 < length rows → ((u : ℕ) → u < count → get_or rows u [] ≡ filter (λ k. nat_eq (get_or numbers k 0) u) (range_with_len 0 n))
    → (u : ℕ) → u < count → get_or (set rows (get_or numbers n 0) (get_or rows (get_or numbers n 0) [] ++ n ∷ [])) u [] ≡ filter (λ k. nat_eq (get_or numbers k 0) u) (range_with_len 0 (n + 1))
pushed_next numbers n count rows there so_far u below =
    elim (cases_Bool (nat_eq (get_or numbers n 0) u)) as (λ _. get_or (set rows (get_or numbers n 0) (get_or rows (get_or numbers n 0) [] ++ n ∷ [])) u [] ≡ filter (λ k. nat_eq (get_or numbers k 0) u) (range_with_len 0 (n + 1))) [
      | inl e ↦ let same : get_or numbers n 0 ≡ u = numbers_exact.exact (get_or numbers n 0) u e in
          ap (λ v. get_or (set rows (get_or numbers n 0) (get_or rows (get_or numbers n 0) [] ++ n ∷ [])) v []) (sym same)
          ∙ get_or-set_same rows (get_or numbers n 0) (get_or rows (get_or numbers n 0) [] ++ n ∷ []) [] there
          ∙ ap (λ xs. xs ++ n ∷ []) (ap (λ v. get_or rows v []) same ∙ so_far u below)
          ∙ sym (filter_next (λ k. nat_eq (get_or numbers k 0) u) n ∙ ap (λ b. cond b (filter (λ k. nat_eq (get_or numbers k 0) u) (range_with_len 0 n) ++ n ∷ []) (filter (λ k. nat_eq (get_or numbers k 0) u) (range_with_len 0 n))) e)
      | inr e ↦ get_or-set_other rows (get_or numbers n 0) u (get_or rows (get_or numbers n 0) [] ++ n ∷ []) [] (λ q. both_ways (nat_eq (get_or numbers n 0) u) e (ap (nat_eq (get_or numbers n 0)) q ∙ numbers_exact.itself (get_or numbers n 0)))
          ∙ so_far u below
          ∙ sym (filter_next (λ k. nat_eq (get_or numbers k 0) u) n ∙ ap (λ b. cond b (filter (λ k. nat_eq (get_or numbers k 0) u) (range_with_len 0 n) ++ n ∷ []) (filter (λ k. nat_eq (get_or numbers k 0) u) (range_with_len 0 n))) e)
    ]

or_false : (b : Bool) → (b || false) ≡ b
or_false true = refl
or_false false = refl

or_true : (b : Bool) → (b || true) ≡ true
or_true true = refl
or_true false = refl

-- whether a place is among the first ones, one further
next_unlike : (places : List ℕ) (at u : ℕ) → at < length places → nat_eq (get_or places at 0) u ≡ false → has nat_eq (take (at + 1) places) u ≡ has nat_eq (take at places) u
next_unlike places at u within e = has-take_next nat_eq numbers_exact places at 0 u within ∙ ap (λ b. has nat_eq (take at places) u || b) e ∙ or_false (has nat_eq (take at places) u)

next_alike : (places : List ℕ) (at u : ℕ) → at < length places → nat_eq (get_or places at 0) u ≡ true → has nat_eq (take (at + 1) places) u ≡ true
next_alike places at u within e = has-take_next nat_eq numbers_exact places at 0 u within ∙ ap (λ b. has nat_eq (take at places) u || b) e ∙ or_true (has nat_eq (take at places) u)

-- the place stands before: no row gains
pub gains_nothing : (places : List ℕ) (at n : ℕ) (rows : List (List ℕ)) → at < length places → has nat_eq (take at places) (get_or places at 0) ≡ true
    → (u : ℕ) (row : List ℕ) → get_or rows u [] ≡ gained row (has nat_eq (take at places) u) n → get_or rows u [] ≡ gained row (has nat_eq (take (at + 1) places) u) n
gains_nothing places at n rows within seen u row h =
    h ∙ ap (λ b. gained row b n) (elim (cases_Bool (nat_eq (get_or places at 0) u)) [
      | inl e ↦ ap (has nat_eq (take at places)) (sym (numbers_exact.exact (get_or places at 0) u e)) ∙ seen ∙ sym (next_alike places at u within e)
      | inr e ↦ sym (next_unlike places at u within e)
    ])

-- it doesn't: its row gains
pub gains_one : (places : List ℕ) (at n : ℕ) (rows new : List (List ℕ)) → at < length places → get_or places at 0 < length rows → has nat_eq (take at places) (get_or places at 0) ≡ false
    → new ≡ set rows (get_or places at 0) (get_or rows (get_or places at 0) [] ++ n ∷ [])
    → (u : ℕ) (row : List ℕ) → get_or rows u [] ≡ gained row (has nat_eq (take at places) u) n → get_or new u [] ≡ gained row (has nat_eq (take (at + 1) places) u) n
gains_one places at n rows new within there unseen is u row h =
    ap (λ xs. get_or xs u []) is ∙ elim (cases_Bool (nat_eq (get_or places at 0) u)) [
      | inl e ↦ let same : get_or places at 0 ≡ u = numbers_exact.exact (get_or places at 0) u e in
          ap (λ v. get_or (set rows (get_or places at 0) (get_or rows (get_or places at 0) [] ++ n ∷ [])) v []) (sym same)
          ∙ get_or-set_same rows (get_or places at 0) (get_or rows (get_or places at 0) [] ++ n ∷ []) [] there
          ∙ ap (λ xs. xs ++ n ∷ []) (ap (λ v. get_or rows v []) same ∙ h ∙ ap (λ b. gained row b n) (ap (has nat_eq (take at places)) (sym same) ∙ unseen))
          ∙ ap (λ b. gained row b n) (sym (next_alike places at u within e))
      | inr e ↦ get_or-set_other rows (get_or places at 0) u (get_or rows (get_or places at 0) [] ++ n ∷ []) [] (λ q. both_ways (nat_eq (get_or places at 0) u) e (ap (nat_eq (get_or places at 0)) q ∙ numbers_exact.itself (get_or places at 0)))
          ∙ h ∙ ap (λ b. gained row b n) (sym (next_unlike places at u within e))
    ]

-- a table of empty rows
pub all_empty : (rows : List (List ℕ)) → ((u : ℕ) → get_or rows u [] ≡ []) → (u : ℕ) → get_or (rows ++ [] ∷ []) u [] ≡ []
all_empty [] h zero = refl
all_empty [] h (suc u) = refl
all_empty (row ∷ rows) h zero = h zero
all_empty (row ∷ rows) h (suc u) = all_empty rows (λ v. h (suc v)) u

-- what stands before a place is among the first
pub stands_before : (places : List ℕ) (at earlier : ℕ) → at < length places → earlier < at → get_or places earlier 0 ≡ get_or places at 0 → true ≡ has nat_eq (take at places) (get_or places at 0)
stands_before places at earlier within before e =
    let short : earlier < length (take at places) = omega (arith, length-take at places) in
    sym (ap (has nat_eq (take at places)) (sym e ∙ sym (get_or-take at places earlier 0 before)) ∙ has-get_or nat_eq numbers_exact (take at places) earlier 0 short)

pub not_before : (places : List ℕ) (at earlier : ℕ) → earlier < length places → has nat_eq (take earlier places) (get_or places at 0) ≡ false → get_or places earlier 0 ≢ get_or places at 0 → has nat_eq (take (earlier + 1) places) (get_or places at 0) ≡ false
not_before places at earlier within h ne =
    next_unlike places earlier (get_or places at 0) within (false_from_ne_true (nat_eq (get_or places earlier 0) (get_or places at 0)) (λ q. ne (numbers_exact.exact (get_or places earlier 0) (get_or places at 0) q))) ∙ h
