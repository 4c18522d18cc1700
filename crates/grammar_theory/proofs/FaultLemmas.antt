-- There is at most one first fault, and none where there is a text.
use Rattle.std.proofs.Common.{◌≡◌, ℕ, List, [], ◌∷◌, ◌++◌, refl, sym, ap, subst, ◌∙◌, append_assoc, append-nil, inl, inr}
use Rattle.std.specs.Prelude.{◌⊎◌}
use Rattle.grammar_theory.specs.Faults.{AllFit, IsText, BeginsWithin, IsFaulty, IsFirstFault}
use Rattle.grammar_theory.specs.Texts.{tokens_of, Grammar, SymbolText}
use Rattle.grammar_theory.specs.declared.Cause.{Cause}
use Rattle.grammar_theory.specs.declared.Cause.TheVariants.{Unexpected, TooDeep}

module _ {N T : Type 0} {V : N → Type 0} (G : Grammar N T V) (limit : ℕ) (i : N) where
  split_marks : (a b : List T) (ms : List (T × ℕ)) → tokens_of ms ≡ a ++ b → (m1 : List (T × ℕ)) × (m2 : List (T × ℕ)) × (ms ≡ m1 ++ m2) × (tokens_of m1 ≡ a)
  split_marks [] b ms e = ([], ms, refl, refl)
  split_marks (x ∷ a) b [] e = absurd cc
  split_marks (x ∷ a) b (m ∷ ms) e =
      let t : tokens_of ms ≡ a ++ b = cc in
      let h : m.0 ≡ x = cc in
      let r = split_marks a b ms t in
      (m ∷ r.0, r.1, ap (λ zs. m ∷ zs) r.2, (let k = r.3 in cc))

  fit_left : (a b : List (T × ℕ)) → AllFit limit (a ++ b) → AllFit limit a
  fit_left [] b f = tt
  fit_left (m ∷ a) b f = (f.0, fit_left a b f.1)

  -- what begins a text begins one with less
  less : (a b : List T) → BeginsWithin G limit i (a ++ b) → BeginsWithin G limit i a
  less a b w =
      let x = w.begins in
      let r = split_marks a b x.before x.tokens in
      record {
        begins = record { before = r.0; after = r.1 ++ x.after; value = x.value; text = subst (λ ms. SymbolText G 0 i ms x.value) (ap (λ ms. ms ++ x.after) r.2 ∙ append_assoc r.0 r.1 x.after) x.text; tokens = r.3 };
        fits = fit_left r.0 r.1 (subst (AllFit limit) r.2 w.fits);
      }

  of_text : (ts : List T) (v : V i) → IsText G limit i ts v → BeginsWithin G limit i ts
  of_text ts v x = record { begins = record { before = x.marks; after = []; value = v; text = subst (λ ms. SymbolText G 0 i ms v) (sym (append-nil x.marks)) x.text; tokens = x.tokens }; fits = x.fits }

  -- no more than the front can be begun
  no_further : (cause : Cause) (front : List T) (t : T) (rest more : List T) → IsFaulty G limit i front cause (t ∷ rest) → BeginsWithin G limit i (front ++ t ∷ more) → ⊥
  no_further Unexpected front t rest more bad w =
      let x = less (front ++ t ∷ []) more (subst (BeginsWithin G limit i) (sym (append_assoc front (t ∷ []) more)) w) in bad x.begins
  no_further TooDeep front t rest more bad w =
      bad.1 (less (front ++ t ∷ []) more (subst (BeginsWithin G limit i) (sym (append_assoc front (t ∷ []) more)) w))

  -- where two fronts of one list end
  Meet : List T → List T → List T → List T → Type 0
  Meet a r b q = ((a ≡ b) × (r ≡ q)) ⊎ (((t : T) × (s : List T) × (u : List T) × (b ≡ a ++ t ∷ s) × (r ≡ t ∷ u)) ⊎ ((t : T) × (s : List T) × (u : List T) × (a ≡ b ++ t ∷ s) × (q ≡ t ∷ u)))

  meet : (a r b q : List T) → a ++ r ≡ b ++ q → Meet a r b q
  unfolding Meet
  meet [] r [] q e = inl (refl, e)
  meet [] r (y ∷ b) q e = inr (inl (y, b, b ++ q, refl, e))
  meet (x ∷ a) r [] q e = inr (inr (x, a, a ++ r, refl, sym e))
  meet (x ∷ a) r (y ∷ b) q e =
      let h : x ≡ y = cc in
      let t : a ++ r ≡ b ++ q = cc in
      elim (meet a r b q t) [
        | inl p ↦ inl ((let k = p.0 in cc), p.1)
        | inr p ↦ elim p [
          | inl z ↦ inr (inl (z.0, z.1, z.2, (let k = z.3 in cc), z.4))
          | inr z ↦ inr (inr (z.0, z.1, z.2, (let k = z.3 in cc), z.4))
        ]
      ]

  same_cause : (c d : Cause) (front rest : List T) → IsFaulty G limit i front c rest → IsFaulty G limit i front d rest → c ≡ d
  same_cause Unexpected Unexpected front rest x y = refl
  same_cause TooDeep TooDeep front rest x y = refl
  same_cause Unexpected TooDeep front [] x y = absurd y
  same_cause Unexpected TooDeep front (t ∷ rest) x y = absurd (x y.0)
  same_cause TooDeep Unexpected front [] x y = absurd x
  same_cause TooDeep Unexpected front (t ∷ rest) x y = absurd (y x.0)

  pub no_text : (ts : List T) (v : V i) (cause : Cause) (rest : List T) → IsText G limit i ts v → IsFirstFault G limit i ts cause rest → ⊥
  no_text ts v cause rest x f = ends cause rest f.front f.cut f.bad
    where
      ends : (cause : Cause) (rest front : List T) → ts ≡ front ++ rest → IsFaulty G limit i front cause rest → ⊥
      ends Unexpected [] front cut bad = bad v (record { marks = x.marks; text = x.text; tokens = x.tokens ∙ cut ∙ append-nil front; fits = x.fits })
      ends TooDeep [] front cut bad = bad
      ends c (t ∷ rest) front cut bad = no_further c front t rest rest bad (subst (BeginsWithin G limit i) cut (of_text ts v x))

  pub same_fault : (ts : List T) (c d : Cause) (r q : List T) → IsFirstFault G limit i ts c r → IsFirstFault G limit i ts d q → (c ≡ d) × (r ≡ q)
  unfolding Meet
  same_fault ts c d r q x y =
      elim (meet x.front r y.front q (sym x.cut ∙ y.cut)) [
        | inl p ↦ (same_cause c d x.front r x.bad (rw (p.0, p.1) y.bad), p.1)
        | inr p ↦ elim p [
          | inl z ↦ absurd (no_further c x.front z.0 z.2 z.1 (subst (IsFaulty G limit i x.front c) z.4 x.bad) (subst (BeginsWithin G limit i) z.3 y.good))
          | inr z ↦ absurd (no_further d y.front z.0 z.2 z.1 (subst (IsFaulty G limit i y.front d) z.4 y.bad) (subst (BeginsWithin G limit i) z.3 x.good))
        ]
      ]
