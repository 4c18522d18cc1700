-- How a line leads on, and why one doesn't.
use Rattle.std.proofs.Common.{◌≡◌, ℕ, suc, ◌+◌, ◌-◌, ◌<◌, Bool, true, false, List, [], ◌∷◌, ◌++◌, Result, Ok, Err, Option, Some, None, length, inl, inr, refl, sym, ap, subst, ◌∙◌, arith}
use Rattle.std.specs.Prelude.{◌↔◌, codes, slice_get, IsTrue}
use Rattle.std.specs.declared.cmp.Ordering.{Ordering}
use Rattle.std.specs.declared.cmp.Ordering.TheVariants.{Less}
use Rattle.std.proofs.lemmas.List.{append_cancel_right}
use Rattle.flow_term.specs.declared.graph.Edge.{Edge}
use Rattle.flow_term.specs.declared.value.Valued.{Valued}
use Rattle.flow_term.specs.Orders.{edge_cmp}
use Rattle.tree_constraints.specs.declared.constraint.Key.{Key}
use Rattle.cert_text.specs.declared.certificate.Certificate.{Certificate}
use Rattle.cert_text.specs.declared.place.CertFaultKind.{CertFaultKind}
use Rattle.cert_text.specs.declared.place.CertFaultKind.TheVariants as fault
use Rattle.cert_text.specs.declared.place.Place.{Place}
use Rattle.cert_text.specs.declared.place.Place.TheVariants.{Header, Edges, Steps, Values}
use Rattle.cert_text.specs.declared.place.Progress.{Progress}
use Rattle.cert_text.specs.declared.refusal.LineFault.{LineFault}
use Rattle.cert_text.specs.declared.refusal.LineFault.TheVariants as line
use Rattle.cert_text.specs.Lines.{CountFits, FitsAt, IsAbove, KindAt, at, with_edge, with_step, with_value}
use Rattle.cert_text.specs.Texts.{IsCount, IsEdgeEntry, IsStepEntry, IsValueEntry, value_cmp}
use Rattle.cert_text.specs.inner.Bodies.{count_body, edge_body, step_body, value_body}
use Rattle.cert_text.specs.inner.Moves.{Moves, MovesAt, lined}
use Rattle.cert_text.proofs.Entries.{one_edge, one_step, one_value}
use Rattle.cert_text.proofs.Parts.{HasNone}

-- at a known place
pub moves_at : {X : Type 0} (old new : Progress) (place : Place) (body : List ℕ) (r : Result X LineFault) → old.place ≡ place → MovesAt place old.certificate body r new → Moves old body r new
moves_at {X} old new place body r e h = subst (λ (p : Place). MovesAt p old.certificate body r new) (sym e) h

pub same_body : (a b : List ℕ) → lined a ≡ lined b → a ≡ b
same_body a b e = append_cancel_right a b (10 ∷ []) e

-- ** above the last

module _ {X : Type 0} (cmp : X → X → Ordering) where
  above_at : (xs : List X) (z x y : X) → slice_get (z ∷ xs) (length xs) ≡ Some y → IsAbove cmp (z ∷ xs) x ↔ cmp y x ≡ Less
  above_at [] z x y e = let same : z ≡ y = cc in subst (λ (w : X). IsAbove cmp (z ∷ []) x ↔ cmp w x ≡ Less) same (λ h. h, λ h. h)
  above_at (w ∷ xs) z x y e = above_at xs w x y e

  pub above_last : (xs : List X) (x y : X) → Some y ≡ slice_get xs (length xs - 1) → IsAbove cmp xs x ↔ cmp y x ≡ Less
  above_last [] x y e = absurd cc
  above_last (z ∷ xs) x y e = let n : suc (length xs) - 1 ≡ length xs = omega arith in above_at xs z x y (ap (slice_get (z ∷ xs)) (sym n) ∙ sym e)

  pub tested : (xs : List X) (x y : X) (t : Bool) → Some y ≡ slice_get xs (length xs - 1) → IsTrue t ↔ cmp y x ≡ Less → IsTrue t ↔ IsAbove cmp xs x
  tested xs x y t e h = let last = above_last xs x y e in (λ k. last.1 (h.0 k), λ k. h.1 (last.0 k))

-- ** counts

pub no_count : (word body : List ℕ) (entries : ℕ → Place) (c : Certificate) (q : Progress) → HasNone IsCount (count_body word) body → ¬ CountFits word entries c (lined body) q
no_count word body entries c q none = λ h. none h.0 h.1 (sym (same_body body (count_body word h.0) h.2))

-- ** the first line and the last one

pub no_header : (c : Certificate) (body : List ℕ) → (body ≡ codes "flowcert 1" → ⊥) → ((q : Progress) → ¬ FitsAt Header c (lined body) q) × ((more : List (List ℕ)) → KindAt Header (lined body ∷ more) fault.Header)
no_header c body none = (λ q h. none (same_body body (codes "flowcert 1") h.0), λ more. refl)

pub no_end : (c : Certificate) (body : List ℕ) → (body ≡ codes "end" → ⊥) → ((q : Progress) → ¬ FitsAt (Values 0) c (lined body) q) × ((more : List (List ℕ)) → KindAt (Values 0) (lined body ∷ more) fault.End)
no_end c body none = (λ q h. none (same_body body (codes "end") h.0), λ more. refl)

-- ** edges

pub edge_taken : (c : Certificate) (n : ℕ) (e : Edge) (new : Progress) → IsEdgeEntry e → IsAbove edge_cmp c.edges e → new ≡ at (Edges n) (with_edge c e) → FitsAt (Edges (suc n)) c (lined (edge_body e)) new
edge_taken c n e new entry above is = (e, entry, refl, above, is)

pub no_edge : (c : Certificate) (n : ℕ) (body : List ℕ) → HasNone IsEdgeEntry edge_body body → ((q : Progress) → ¬ FitsAt (Edges (suc n)) c (lined body) q) × ((more : List (List ℕ)) → KindAt (Edges (suc n)) (lined body ∷ more) fault.Form)
no_edge c n body none = (λ q h. none h.0 h.1 (sym (same_body body (edge_body h.0) h.2)), λ more. inr (λ e entry is. none e entry (sym (same_body body (edge_body e) is)), refl))

pub edge_not_above : (c : Certificate) (n : ℕ) (e : Edge) → IsEdgeEntry e → ¬ IsAbove edge_cmp c.edges e
    → ((q : Progress) → ¬ FitsAt (Edges (suc n)) c (lined (edge_body e)) q) × ((more : List (List ℕ)) → KindAt (Edges (suc n)) (lined (edge_body e) ∷ more) fault.Order)
edge_not_above c n e entry low = (
  λ q h. let same : e ≡ h.0 = one_edge e h.0 entry h.1 (same_body (edge_body e) (edge_body h.0) h.2) in low (subst (λ (f : Edge). IsAbove edge_cmp c.edges f) (sym same) h.3),
  λ more. inl ((e, entry, refl), refl),
)

-- ** steps

pub step_taken : (c : Certificate) (n : ℕ) (k : Key) (new : Progress) → IsStepEntry k → new ≡ at (Steps n) (with_step c k) → FitsAt (Steps (suc n)) c (lined (step_body k)) new
step_taken c n k new entry is = (k, entry, refl, is)

pub no_step : (c : Certificate) (n : ℕ) (body : List ℕ) → HasNone IsStepEntry step_body body → ((q : Progress) → ¬ FitsAt (Steps (suc n)) c (lined body) q) × ((more : List (List ℕ)) → KindAt (Steps (suc n)) (lined body ∷ more) fault.Form)
no_step c n body none = (λ q h. none h.0 h.1 (sym (same_body body (step_body h.0) h.2)), λ more. refl)

-- ** values

pub value_taken : (c : Certificate) (n : ℕ) (v : Valued) (new : Progress) → IsValueEntry v → IsAbove value_cmp c.values v → new ≡ at (Values n) (with_value c v) → FitsAt (Values (suc n)) c (lined (value_body v)) new
value_taken c n v new entry above is = (v, entry, refl, above, is)

pub no_value : (c : Certificate) (n : ℕ) (body : List ℕ) → HasNone IsValueEntry value_body body → ((q : Progress) → ¬ FitsAt (Values (suc n)) c (lined body) q) × ((more : List (List ℕ)) → KindAt (Values (suc n)) (lined body ∷ more) fault.Form)
no_value c n body none = (λ q h. none h.0 h.1 (sym (same_body body (value_body h.0) h.2)), λ more. inr (λ v entry is. none v entry (sym (same_body body (value_body v) is)), refl))

pub value_not_above : (c : Certificate) (n : ℕ) (v : Valued) → IsValueEntry v → ¬ IsAbove value_cmp c.values v
    → ((q : Progress) → ¬ FitsAt (Values (suc n)) c (lined (value_body v)) q) × ((more : List (List ℕ)) → KindAt (Values (suc n)) (lined (value_body v) ∷ more) fault.Order)
value_not_above c n v entry low = (
  λ q h. let same : v ≡ h.0 = one_value v h.0 entry h.1 (same_body (value_body v) (value_body h.0) h.2) in low (subst (λ (w : Valued). IsAbove value_cmp c.values w) (sym same) h.3),
  λ more. inl ((v, entry, refl), refl),
)
