-- Neighbours in a list, and what keeps them linked both ways.
use Rattle.std.proofs.Common.{◌≡◌, ◌≢◌, ◌⊎◌, ℕ, zero, suc, ◌≤◌, true, false, cond, not, List, [], ◌∷◌, ◌++◌, length, Option, Some, None, refl, sym, ap, ◌∙◌, inl, inr, arith}
use Rattle.std.specs.Prelude.{nat_eq, slice_index_or}
use Rattle.std.proofs.lemmas.Bool.{or_left, or_right, or_cases, or_parts, eq-eqb, eqb-true, both_ways, true≢false}
use Rattle.list_theory.specs.Lists.{has, without, distinct}
use Rattle.list_theory.proofs.ListLemmas.{distinct_parts, without_absent}
use Rattle.list_theory.proofs.NumberLemmas.{numbers_exact}
use Rattle.linked_lists.specs.declared.links.Link.{Link}
use Rattle.linked_lists.specs.Chains.{AreNeighbours, AreLinked, first_of, walk, unlinked}

-- a place that stands before another is the start or an item
pub left_of : (start : Option ℕ) (xs : List ℕ) (p q : Option ℕ) → AreNeighbours start xs p q → (p ≡ start) ⊎ ((x : ℕ) × (p ≡ Some x) × (has nat_eq xs x ≡ true))
left_of start [] p q n = inl n.0
left_of start (y ∷ ys) p q n =
    elim n [
      | inl h ↦ inl h.0
      | inr r ↦ elim (left_of (Some y) ys p q r) [
        | inl e ↦ inr (y, e, or_left (nat_eq y y) (has nat_eq ys y) (eq-eqb y y refl))
        | inr w ↦ inr (w.0, w.1, or_right (nat_eq y w.0) (has nat_eq ys w.0) w.2)
      ]
    ]

-- a place that stands behind another is the end or an item
pub right_of : (start : Option ℕ) (xs : List ℕ) (p q : Option ℕ) → AreNeighbours start xs p q → (q ≡ None) ⊎ ((x : ℕ) × (q ≡ Some x) × (has nat_eq xs x ≡ true))
right_of start [] p q n = inl n.1
right_of start (y ∷ ys) p q n =
    elim n [
      | inl h ↦ inr (y, h.1, or_left (nat_eq y y) (has nat_eq ys y) (eq-eqb y y refl))
      | inr r ↦ elim (right_of (Some y) ys p q r) [
        | inl e ↦ inl e
        | inr w ↦ inr (w.0, w.1, or_right (nat_eq y w.0) (has nat_eq ys w.0) w.2)
      ]
    ]

-- each item has a place before it
pub before_item : (start : Option ℕ) (xs : List ℕ) (x : ℕ) → has nat_eq xs x ≡ true → (p : Option ℕ) × AreNeighbours start xs p (Some x)
before_item start [] x h = absurd (true≢false (sym h))
before_item start (y ∷ ys) x h =
    elim (or_cases (nat_eq y x) (has nat_eq ys x) h) [
      | inl e ↦ (start, inl (refl, ap Some (sym (eqb-true y x e))))
      | inr r ↦ let w = before_item (Some y) ys x r in (w.0, inr w.1)
    ]

-- the start has a place behind it, and so has each item
pub behind_start : (start : Option ℕ) (xs : List ℕ) → (q : Option ℕ) × AreNeighbours start xs start q
behind_start start [] = (None, (refl, refl))
behind_start start (y ∷ ys) = (Some y, inl (refl, refl))

pub behind_item : (start : Option ℕ) (xs : List ℕ) (x : ℕ) → has nat_eq xs x ≡ true → (q : Option ℕ) × AreNeighbours start xs (Some x) q
behind_item start [] x h = absurd (true≢false (sym h))
behind_item start (y ∷ ys) x h =
    elim (or_cases (nat_eq y x) (has nat_eq ys x) h) [
      | inl e ↦ let w = behind_start (Some y) ys in (w.0, inr (rw (← eqb-true y x e) w.1))
      | inr r ↦ let w = behind_item (Some y) ys x r in (w.0, inr w.1)
    ]

-- the end has a place before it
pub before_end : (start : Option ℕ) (xs : List ℕ) → (p : Option ℕ) × AreNeighbours start xs p None
before_end start [] = (start, (refl, refl))
before_end start (y ∷ ys) = let w = before_end (Some y) ys in (w.0, inr w.1)

-- Neighbours of a list with an item more at its end: they were neighbours and neither is the end, or the new item is one of them.
pub neighbours-append : (start : Option ℕ) (xs : List ℕ) (x : ℕ) (p q : Option ℕ) → AreNeighbours start (xs ++ x ∷ []) p q
    → (AreNeighbours start xs p q × (q ≢ None)) ⊎ ((AreNeighbours start xs p None × (q ≡ Some x)) ⊎ ((p ≡ Some x) × (q ≡ None)))
neighbours-append start [] x p q n =
    elim n [
      | inl h ↦ inr (inl ((h.0, refl), h.1))
      | inr r ↦ inr (inr r)
    ]
neighbours-append start (y ∷ ys) x p q n =
    elim n [
      | inl h ↦ inl (inl h, λ e. absurd (cc (h.1, e)))
      | inr r ↦ elim (neighbours-append (Some y) ys x p q r) [
        | inl a ↦ inl (inr a.0, a.1)
        | inr b ↦ elim b [
          | inl c ↦ inr (inl (inr c.0, c.1))
          | inr d ↦ inr (inr d)
        ]
      ]
    ]

-- no item of a list is one that isn't in it
apart_from : (xs : List ℕ) (x : ℕ) (p : Option ℕ) → has nat_eq xs x ≡ false → (w : (y : ℕ) × (p ≡ Some y) × (has nat_eq xs y ≡ true)) → p ≢ Some x
apart_from xs x p h w e = let same : w.0 ≡ x = cc (w.1, e) in both_ways (has nat_eq xs x) h (rw (← same) w.2)

-- neighbours of what follows the first item, where that is taken out
skipped : (start : Option ℕ) (y : ℕ) (ys : List ℕ) (x : ℕ) (p q : Option ℕ) → y ≡ x → has nat_eq ys x ≡ false → AreNeighbours start ys p q
    → (AreNeighbours start (y ∷ ys) p q × (p ≢ Some x) × (q ≢ Some x)) ⊎ (AreNeighbours start (y ∷ ys) p (Some x) × AreNeighbours start (y ∷ ys) (Some x) q)
skipped start y [] x p q same absent n = inr (inl (n.0, ap Some (sym same)), inr (ap Some (sym same), n.1))
skipped start y (z ∷ zs) x p q same absent n =
    let parts : (nat_eq z x ≡ false) × (has nat_eq zs x ≡ false) = or_parts (nat_eq z x) (has nat_eq zs x) absent in
    elim n [
      | inl h ↦ inr (inl (h.0, ap Some (sym same)), inr (inl (ap Some (sym same), h.1)))
      | inr r ↦ inl (
        inr (inr r),
        (elim (left_of (Some z) zs p q r) [
          | inl e ↦ λ f. both_ways (nat_eq z x) parts.0 (eq-eqb z x (cc (e, f)))
          | inr w ↦ apart_from zs x p parts.1 w
        ]),
        (elim (right_of (Some z) zs p q r) [
          | inl e ↦ λ f. absurd (cc (e, f))
          | inr w ↦ apart_from zs x q parts.1 w
        ]),
      )
    ]

-- Neighbours of a list without an item: they were neighbours and neither is the item, or the item stood between them.
pub neighbours-without : (start : Option ℕ) (xs : List ℕ) (x : ℕ) (p q : Option ℕ) → distinct nat_eq xs ≡ true → start ≢ Some x → AreNeighbours start (without nat_eq xs x) p q
    → (AreNeighbours start xs p q × (p ≢ Some x) × (q ≢ Some x)) ⊎ (AreNeighbours start xs p (Some x) × AreNeighbours start xs (Some x) q)
neighbours-without start [] x p q d other n = inl (n, (λ e. other (sym n.0 ∙ e)), λ e. absurd (cc (n.1, e)))
neighbours-without start (y ∷ ys) x p q d other n =
    let parts : (has nat_eq ys y ≡ false) × (distinct nat_eq ys ≡ true) = distinct_parts nat_eq numbers_exact y ys d in
    elim (nat_eq y x) as (λ b. nat_eq y x ≡ b → AreNeighbours start (cond (not b) (y ∷ without nat_eq ys x) (without nat_eq ys x)) p q → (AreNeighbours start (y ∷ ys) p q × (p ≢ Some x) × (q ≢ Some x)) ⊎ (AreNeighbours start (y ∷ ys) p (Some x) × AreNeighbours start (y ∷ ys) (Some x) q)) [
      | true ↦ λ same n.
          let e : y ≡ x = eqb-true y x same in
          let gone : without nat_eq ys x ≡ ys = without_absent nat_eq numbers_exact ys x (rw (← e) parts.0) in
          skipped start y ys x p q e (rw (← e) parts.0) (rw gone at n)
      | false ↦ λ differs n. elim n [
        | inl h ↦ inl (inl h, (λ e. other (sym h.0 ∙ e)), λ e. both_ways (nat_eq y x) differs (eq-eqb y x (cc (h.1, e))))
        | inr r ↦ elim (neighbours-without (Some y) ys x p q parts.1 (λ e. both_ways (nat_eq y x) differs (eq-eqb y x (cc (e)))) r) [
          | inl a ↦ inl (inr a.0, a.1, a.2)
          | inr b ↦ inr (inr b.0, inr b.1)
        ]
      ]
    ] refl n

module _ (next previous : Option ℕ → Option ℕ) where
  -- a place that leads to another is where the other leads back to
  pub linked_back : (xs : List ℕ) (p q : Option ℕ) → AreLinked next previous xs → AreNeighbours None xs p q → p ≡ previous q
  linked_back xs p q l n = sym (l p q n).1

  pub linked_on : (xs : List ℕ) (p q : Option ℕ) → AreLinked next previous xs → AreNeighbours None xs p q → q ≡ next p
  linked_on xs p q l n = sym (l p q n).0

  -- a list keeps its links where those of its ends and items stay
  pub linked-kept : (next' previous' : Option ℕ → Option ℕ) (xs : List ℕ) → (next' None ≡ next None) → (previous' None ≡ previous None)
      → ((x : ℕ) → has nat_eq xs x ≡ true → (next' (Some x) ≡ next (Some x)) × (previous' (Some x) ≡ previous (Some x)))
      → AreLinked next previous xs → AreLinked next' previous' xs
  linked-kept next' previous' xs first last items l p q n = (
    (elim (left_of None xs p q n) [
      | inl e ↦ ap next' e ∙ first ∙ ap next (sym e) ∙ (l p q n).0
      | inr w ↦ ap next' w.1 ∙ (items w.0 w.2).0 ∙ ap next (sym w.1) ∙ (l p q n).0
    ]),
    (elim (right_of None xs p q n) [
      | inl e ↦ ap previous' e ∙ last ∙ ap previous (sym e) ∙ (l p q n).1
      | inr w ↦ ap previous' w.1 ∙ (items w.0 w.2).1 ∙ ap previous (sym w.1) ∙ (l p q n).1
    ]),
  )

  -- An item is put last.
  pub linked-append : (next' previous' : Option ℕ → Option ℕ) (xs : List ℕ) (x : ℕ) → has nat_eq xs x ≡ false
      → next' (previous None) ≡ Some x → next' (Some x) ≡ None → ((p : Option ℕ) → p ≢ previous None → p ≢ Some x → next' p ≡ next p)
      → previous' None ≡ Some x → previous' (Some x) ≡ previous None → ((q : Option ℕ) → q ≢ None → q ≢ Some x → previous' q ≡ previous q)
      → AreLinked next previous xs → AreLinked next' previous' (xs ++ x ∷ [])
  linked-append next' previous' xs x absent n1 n2 n3 p1 p2 p3 l p q n =
      elim (neighbours-append None xs x p q n) [
        | inl a ↦
            let there = l p q a.0 in
            let p_old : p ≢ Some x = elim (left_of None xs p q a.0) [ inl e ↦ λ f. absurd (cc (e, f)) | inr w ↦ apart_from xs x p absent w ] in
            let q_old : q ≢ Some x = elim (right_of None xs p q a.0) [ inl e ↦ λ f. absurd (cc (e, f)) | inr w ↦ apart_from xs x q absent w ] in (
              n3 p (λ e. a.1 (sym there.0 ∙ ap next e ∙ (l (previous None) None (ends_linked xs l)).0)) p_old ∙ there.0,
              p3 q a.1 q_old ∙ there.1,
            )
        | inr b ↦ elim b [
          | inl c ↦
              let at : p ≡ previous None = linked_back xs p None l c.0 in
              (ap next' at ∙ n1 ∙ sym c.1, ap previous' c.1 ∙ p2 ∙ sym at)
          | inr d ↦ (ap next' d.0 ∙ n2 ∙ sym d.1, ap previous' d.1 ∙ p1 ∙ sym d.0)
        ]
      ]
    where
      ends_linked : (xs : List ℕ) → AreLinked next previous xs → AreNeighbours None xs (previous None) None
      ends_linked xs l = let w = before_end None xs in rw (← linked_back xs w.0 None l w.1) w.1

  -- An item is taken out.
  pub linked-without : (next' previous' : Option ℕ → Option ℕ) (xs : List ℕ) (x : ℕ) → distinct nat_eq xs ≡ true
      → next' (previous (Some x)) ≡ next (Some x) → ((p : Option ℕ) → p ≢ previous (Some x) → p ≢ Some x → next' p ≡ next p)
      → previous' (next (Some x)) ≡ previous (Some x) → ((q : Option ℕ) → q ≢ next (Some x) → q ≢ Some x → previous' q ≡ previous q)
      → has nat_eq xs x ≡ true → AreLinked next previous xs → AreLinked next' previous' (without nat_eq xs x)
  linked-without next' previous' xs x once n1 n2 p1 p2 there l p q n =
      elim (neighbours-without None xs x p q once (λ e. absurd (cc (e))) n) [
        | inl a ↦
            let was = l p q a.0 in
            let b = before_item None xs x there in
            let f = behind_item None xs x there in (
              n2 p (λ e. a.2 (sym was.0 ∙ ap next (e ∙ sym (linked_back xs b.0 (Some x) l b.1)) ∙ (l b.0 (Some x) b.1).0)) a.1 ∙ was.0,
              p2 q (λ e. a.1 (sym was.1 ∙ ap previous (e ∙ sym (linked_on xs (Some x) f.0 l f.1)) ∙ (l (Some x) f.0 f.1).1)) a.2 ∙ was.1,
            )
        | inr b ↦
            let at : p ≡ previous (Some x) = linked_back xs p (Some x) l b.0 in
            let to : q ≡ next (Some x) = linked_on xs (Some x) q l b.1 in
            (ap next' at ∙ n1 ∙ sym to, ap previous' to ∙ p1 ∙ sym at)
      ]

pub first_behind : (start : Option ℕ) (xs : List ℕ) → AreNeighbours start xs start (first_of xs)
first_behind start [] = (refl, refl)
first_behind start (x ∷ xs) = inl (refl, refl)

-- a walk along the links gives the list
pub walk-linked : (links : List Link) (start : Option ℕ) (xs : List ℕ) (n : ℕ) → length xs ≤ n
    → ((x : ℕ) (q : Option ℕ) → AreNeighbours start xs (Some x) q → (slice_index_or links x unlinked).forth ≡ q)
    → walk links n (first_of xs) ≡ xs
walk-linked links start [] zero few l = refl
walk-linked links start [] (suc n) few l = refl
walk-linked links start (y ∷ ys) zero few l = absurd (omega arith)
walk-linked links start (y ∷ ys) (suc n) few l =
    let on : (slice_index_or links y unlinked).forth ≡ first_of ys = l y (first_of ys) (inr (first_behind (Some y) ys)) in
    ap (λ p. y ∷ walk links n p) on ∙ ap (λ zs. y ∷ zs) (walk-linked links (Some y) ys n (omega arith) (λ x q m. l x q (inr m)))
