-- Patterns against terms, from an index on.
use Rattle.std.proofs.Common.{◌≡◌, ℕ, ◌+◌, ◌<◌, ◌≤◌, Bool, true, false, ◌&&◌, List, [], ◌∷◌, length, get_or, drop, drop-cons, add-one, refl, ap, suc, ◌∙◌, arith}
use Rattle.std.proofs.lemmas.List.{drop_all}
use Rattle.std.specs.Prelude.{◌≢◌}
use Rattle.flow_term.specs.declared.term.Term.{Term}
use Rattle.flow_syntax.specs.declared.pattern.Pattern.{Pattern}
use Rattle.flow_syntax.specs.Matching.{matches, fit_all}

pub fit_next : (ps : List Pattern) (ts : List Term) (i : ℕ) (p : Pattern) (t : Term) → i < length ps → i < length ts
    → fit_all (drop i ps) (drop i ts) ≡ (matches (get_or ps i p) (get_or ts i t) && fit_all (drop (i + 1) ps) (drop (i + 1) ts))
fit_next ps ts i p t h k = rw (add-one, drop-cons ps i p, drop-cons ts i t) refl

and_false : (b : Bool) → (b && false) ≡ false
and_false true = refl
and_false false = refl

pub fit_short : (ps : List Pattern) (ts : List Term) → length ps ≢ length ts → fit_all ps ts ≡ false
fit_short [] [] h = absurd (h refl)
fit_short [] (t ∷ ts) h = refl
fit_short (p ∷ ps) [] h = refl
fit_short (p ∷ ps) (t ∷ ts) h = ap (λ b. matches p t && b) (fit_short ps ts (λ e. h (ap suc e))) ∙ and_false (matches p t)

pub fit_end : (ps : List Pattern) (ts : List Term) (i : ℕ) → length ps ≤ i → length ps ≡ length ts → fit_all (drop i ps) (drop i ts) ≡ true
fit_end ps ts i h k = let few : length ts ≤ i = omega arith in rw (drop_all i ps h, drop_all i ts few) refl
