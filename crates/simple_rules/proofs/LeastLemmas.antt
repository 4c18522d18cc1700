-- The least of the places that the items of a list have.
use Rattle.std.proofs.Common.{◌≡◌, ℕ, ◌+◌, ◌<◌, ◌≤◌, min, List, length, get_or, Option, Some, None, sym, subst, ◌∙◌, inl, inr, arith}
use Rattle.std.specs.Prelude.{◌⊎◌, ◌↔◌, Contains}
use Rattle.std.proofs.Math.Nat.{eq-or-lt_of_le}
use Rattle.std.proofs.lemmas.Bool.{cases_lt}
use Rattle.std.proofs.lemmas.List.{get_or_default}
use Rattle.simple_rules.specs.inner.Least.{IsLeast, SomeHas, lesser_of}

-- One of the first items has the number.
pub record FirstHave {T : Type 0} (P : T → ℕ → Type 0) (count : ℕ) (items : List T) (n : ℕ) : Type 0 where
  pub item : T
  pub among : Contains items item
  pub before : among.0 < count
  pub has : P item n

-- the least of two sorts of numbers
pub least_of_both : (P Q : ℕ → Type 0) (a b : Option ℕ) → IsLeast P a → IsLeast Q b → IsLeast (λ n. P n ⊎ Q n) (lesser_of a b)
least_of_both P Q None None p q = λ n h. elim h [ inl x ↦ p n x | inr x ↦ q n x ]
least_of_both P Q None (Some k) p q = (inr q.0, λ n h. elim h [ inl x ↦ absurd (p n x) | inr x ↦ q.1 n x ])
least_of_both P Q (Some k) None p q = (inl p.0, λ n h. elim h [ inl x ↦ p.1 n x | inr x ↦ absurd (q n x) ])
least_of_both P Q (Some j) (Some k) p q =
    (by (lesser_first j k), λ n h. elim h [ inl x ↦ let f : j ≤ n = p.1 n x in omega arith | inr x ↦ let f : k ≤ n = q.1 n x in omega arith ])
  where
    lesser_first : (m n : ℕ) → (min m n ≡ m) ⊎ (min m n ≡ n)
    lesser_first m n = elim (cases_lt m n) [ inl f ↦ inl (omega arith) | inr f ↦ inr (omega arith) ]

    by : (min j k ≡ j) ⊎ (min j k ≡ k) → P (min j k) ⊎ Q (min j k)
    by (inl same) = inl (subst P (sym same) p.0)
    by (inr same) = inr (subst Q (sym same) q.0)

-- the same numbers, said in another way
pub least_of_same : (P Q : ℕ → Type 0) (a : Option ℕ) → ((n : ℕ) → P n ↔ Q n) → IsLeast P a → IsLeast Q a
least_of_same P Q None same p = λ n h. p n ((same n).1 h)
least_of_same P Q (Some k) same p = ((same k).0 p.0, λ n h. p.1 n ((same n).1 h))

-- none of no items
pub least_start : {T : Type 0} (P : T → ℕ → Type 0) (items : List T) → IsLeast (FirstHave P 0 items) None
least_start P items = λ n h. let before : h.among.0 < 0 = h.before in absurd (omega arith)

-- one item more
pub least_next : {T : Type 0} (P : T → ℕ → Type 0) (items : List T) (i : ℕ) (item : T) (found here : Option ℕ) → i < length items → item ≡ get_or items i item
    → IsLeast (FirstHave P i items) found → IsLeast (P item) here → IsLeast (FirstHave P (i + 1) items) (lesser_of found here)
least_next P items i item found here within is before at =
    least_of_same (λ n. FirstHave P i items n ⊎ P item n) (FirstHave P (i + 1) items) (lesser_of found here) (λ n. (forth n, back n)) (least_of_both (FirstHave P i items) (P item) found here before at)
  where
    forth : (n : ℕ) → FirstHave P i items n ⊎ P item n → FirstHave P (i + 1) items n
    forth n (inl h) = record { item = h.item; among = h.among; before = (let b : h.among.0 < i = h.before in omega arith); has = h.has }
    forth n (inr h) = record { item = item; among = (i, within, sym is); before = omega arith; has = h }

    at_same : (k : ℕ) (x : _) → get_or items k x ≡ x → k ≡ i → x ≡ item
    at_same k x e same = sym (subst (λ j. get_or items j x ≡ x) same e) ∙ get_or_default items i x item within ∙ sym is

    by : (n : ℕ) (h : FirstHave P (i + 1) items n) → (h.among.0 ≡ i) ⊎ (h.among.0 < i) → FirstHave P i items n ⊎ P item n
    by n h (inr less) = inl (record { item = h.item; among = h.among; before = less; has = h.has })
    by n h (inl same) = inr (subst (λ x. P x n) (at_same h.among.0 h.item h.among.2 same) h.has)

    back : (n : ℕ) → FirstHave P (i + 1) items n → FirstHave P i items n ⊎ P item n
    back n h = by n h (eq-or-lt_of_le (let b : h.among.0 < i + 1 = h.before in omega arith))

-- all items
pub least_all : {T : Type 0} (P : T → ℕ → Type 0) (items : List T) (i : ℕ) (found : Option ℕ) → length items ≤ i → IsLeast (FirstHave P i items) found → IsLeast (SomeHas P items) found
least_all P items i found all least = least_of_same (FirstHave P i items) (SomeHas P items) found (λ n. (
  λ h. record { item = h.item; among = h.among; has = h.has },
  λ h. record { item = h.item; among = h.among; before = (let w : h.among.0 < length items = h.among.1 in omega arith); has = h.has },
)) least
