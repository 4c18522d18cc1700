-- Entries in their order: where a key is put, and what is left without it.
use Rattle.std.proofs.Common.{◌≡◌, ℕ, ◌+◌, Bool, true, false, cond, List, [], ◌∷◌, ◌++◌, take, drop, refl, sym, ap, ◌∙◌, Ordering, Less, Equal, Greater, arith, ◌<◌, ◌≤◌, suc, length, subst}
use Rattle.std.specs.Prelude.{Option, Some, None, not, slice_get, slice_set, get_or}
use Rattle.std.proofs.Math.Seq.{drop-cons}
use Rattle.std.proofs.Math.Numerals.{add-one, one-add}
use Rattle.std.specs.List.{filter}
use Rattle.std.specs.Ordering.{is_eq, is_le, eq_by_cmp, match_ordering}
use Rattle.std.specs.BTreeMap.{insert_entry}
use Rattle.std.proofs.lemmas.Bool.{true≢false}
use Rattle.flow_term.specs.declared.elem.Elem.{Elem}
use Rattle.flow_term.specs.declared.value.Entry.{Entry}
use Rattle.flow_term.specs.declared.value.Value.{Value}
use Rattle.flow_term.specs.Elements.{elem_cmp}
use Rattle.lattice_sets.specs.SetLaws.{same_tied}
use Rattle.value_domains.specs.inner.Elements.{elem_total, elem_exact}
use Rattle.value_domains.specs.Values.{pairs_of}
use Rattle.expr_meaning.specs.Meaning.{without_key}
use Rattle.eval_values.specs.inner.Maps.{has_key, lesser_count}

module _ (entry : Entry) where
  abbrev at : Ordering → List Entry → ℕ
  at o xs = cond (not (is_le o)) (1 + lesser_count entry.key xs) 0

  abbrev put_at : Ordering → Entry → List Entry → List (Elem × Value)
  put_at o x xs = match_ordering o ((entry.key, entry.value) ∷ (x.key, x.value) ∷ pairs_of xs) ((x.key, entry.value) ∷ pairs_of xs) ((x.key, x.value) ∷ insert_entry elem_cmp (pairs_of xs) entry.key entry.value)

  -- where no entry has the key, a new one is put before the first greater one
  pub put_new : (xs : List Entry) → has_key entry.key (slice_get xs (lesser_count entry.key xs)) ≡ false
      → pairs_of (take (lesser_count entry.key xs) xs ++ entry ∷ drop (lesser_count entry.key xs) xs) ≡ insert_entry elem_cmp (pairs_of xs) entry.key entry.value
  put_new [] h = refl
  put_new (x ∷ xs) h = by (put_new xs) (elem_cmp entry.key x.key) refl h
    where
      by : (has_key entry.key (slice_get xs (lesser_count entry.key xs)) ≡ false → pairs_of (take (lesser_count entry.key xs) xs ++ entry ∷ drop (lesser_count entry.key xs) xs) ≡ insert_entry elem_cmp (pairs_of xs) entry.key entry.value)
          → (o : Ordering) → elem_cmp entry.key x.key ≡ o → has_key entry.key (slice_get (x ∷ xs) (at o xs)) ≡ false
          → pairs_of (take (at o xs) (x ∷ xs) ++ entry ∷ drop (at o xs) (x ∷ xs)) ≡ put_at o x xs
      by rest Less e h = refl
      by rest Equal e h = absurd (true≢false (sym (ap is_eq e) ∙ h))
      by rest Greater e h =
          ap (λ n. pairs_of (take n (x ∷ xs) ++ entry ∷ drop n (x ∷ xs))) (one-add (lesser_count entry.key xs))
          ∙ ap (λ (es : List (Elem × Value)). (x.key, x.value) ∷ es) (rest (subst (λ n. has_key entry.key (slice_get (x ∷ xs) n) ≡ false) (one-add (lesser_count entry.key xs)) h))

  -- where the entry there has the key, the new one takes its place
  pub put_over : (xs : List Entry) → has_key entry.key (slice_get xs (lesser_count entry.key xs)) ≡ true
      → pairs_of (slice_set xs (lesser_count entry.key xs) entry) ≡ insert_entry elem_cmp (pairs_of xs) entry.key entry.value
  put_over [] h = absurd (true≢false (sym h))
  put_over (x ∷ xs) h = by (put_over xs) (elem_cmp entry.key x.key) refl h
    where
      by : (has_key entry.key (slice_get xs (lesser_count entry.key xs)) ≡ true → pairs_of (slice_set xs (lesser_count entry.key xs) entry) ≡ insert_entry elem_cmp (pairs_of xs) entry.key entry.value)
          → (o : Ordering) → elem_cmp entry.key x.key ≡ o → has_key entry.key (slice_get (x ∷ xs) (at o xs)) ≡ true
          → pairs_of (slice_set (x ∷ xs) (at o xs) entry) ≡ put_at o x xs
      by rest Less e h = absurd (true≢false (sym h ∙ ap is_eq e))
      by rest Equal e h = ap (λ (k : Elem). (k, entry.value) ∷ pairs_of xs) (same_tied elem_cmp elem_total elem_exact entry.key x.key (ap is_eq e))
      by rest Greater e h =
          ap (λ n. pairs_of (slice_set (x ∷ xs) n entry)) (one-add (lesser_count entry.key xs))
          ∙ ap (λ (es : List (Elem × Value)). (x.key, x.value) ∷ es) (rest (subst (λ n. has_key entry.key (slice_get (x ∷ xs) n) ≡ true) (one-add (lesser_count entry.key xs)) h))

-- the entries whose keys aren't this one
pub kept_pairs : (es : List Entry) (k : Elem) → pairs_of (filter (λ e. not (eq_by_cmp elem_cmp e.key k)) es) ≡ without_key (pairs_of es) k
kept_pairs [] k = refl
kept_pairs (e ∷ es) k = by (kept_pairs es k) (not (eq_by_cmp elem_cmp e.key k))
  where
    by : pairs_of (filter (λ e. not (eq_by_cmp elem_cmp e.key k)) es) ≡ without_key (pairs_of es) k
        → (b : Bool) → pairs_of (cond b (e ∷ filter (λ e. not (eq_by_cmp elem_cmp e.key k)) es) (filter (λ e. not (eq_by_cmp elem_cmp e.key k)) es)) ≡ cond b ((e.key, e.value) ∷ without_key (pairs_of es) k) (without_key (pairs_of es) k)
    by rest true = ap (λ (xs : List (Elem × Value)). (e.key, e.value) ∷ xs) rest
    by rest false = rest

-- LESSER KEYS, entry by entry

opened : (es : List Entry) (i : ℕ) (e : Entry) → i < length es → e ≡ get_or es i e → drop i es ≡ e ∷ drop (i + 1) es
opened es i e within is = drop-cons es i e within ∙ (λ j. sym is j ∷ drop (sym (add-one i) j) es)

abbrev counted : Bool → ℕ → ℕ
counted b n = cond (not b) (1 + n) 0

pub lesser_found : (k : Elem) (es : List Entry) (i count : ℕ) (e : Entry) → i < length es → e ≡ get_or es i e → lesser_count k es ≡ count + lesser_count k (drop i es) → is_le (elem_cmp k e.key) ≡ true → count ≡ lesser_count k es
lesser_found k es i count e within is so_far here =
    let front : lesser_count k (drop i es) ≡ 0 = ap (lesser_count k) (opened es i e within is) ∙ ap (λ b. counted b (lesser_count k (drop (i + 1) es))) here in
    omega (arith, so_far, front)

pub lesser_passed : (k : Elem) (es : List Entry) (i count : ℕ) (e : Entry) → i < length es → e ≡ get_or es i e → lesser_count k es ≡ count + lesser_count k (drop i es) → is_le (elem_cmp k e.key) ≡ false
    → lesser_count k es ≡ count + 1 + lesser_count k (drop (i + 1) es)
lesser_passed k es i count e within is so_far here =
    let behind : lesser_count k (drop i es) ≡ 1 + lesser_count k (drop (i + 1) es) = ap (lesser_count k) (opened es i e within is) ∙ ap (λ b. counted b (lesser_count k (drop (i + 1) es))) here in
    omega (arith, so_far, behind)

pub lesser_within : (k : Elem) (es : List Entry) → lesser_count k es ≤ length es
lesser_within k [] = omega arith
lesser_within k (e ∷ es) = by (not (is_le (elem_cmp k e.key))) (lesser_within k es)
  where
    by : (b : Bool) → lesser_count k es ≤ length es → cond b (1 + lesser_count k es) 0 ≤ suc (length es)
    by true h = omega (arith, h)
    by false h = omega arith
