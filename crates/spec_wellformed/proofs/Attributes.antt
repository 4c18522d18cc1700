-- Facts of what a grammar reads, by its productions alone: what holds of the parts gives what holds of the whole.
use Rattle.std.proofs.Common.{◌≡◌, ℕ, zero, suc, ◌<◌, ◌≤◌, true, List, [], ◌∷◌, ◌++◌, Option, Some, None, refl, ap, subst, ◌∙◌, inl, inr, arith}
use Rattle.std.specs.Prelude.{◌⊎◌}
use Rattle.grammar_theory.specs.Texts.{member, Part, One, Then, Or, Optional, Many, Chain, Nested, Symbol, PartValue, tokens_of, Repeated, PartText, Grammar, TextWithin, SymbolText}

tokens_append : {T : Type 0} (a b : List (T × ℕ)) → tokens_of (a ++ b) ≡ tokens_of a ++ tokens_of b
tokens_append [] b = refl
tokens_append (m ∷ a) b = ap (λ ts. m.0 ∷ ts) (tokens_append a b)

-- Tokens rise in a range of places, and each has the property.
abbrev pub Spans : {T : Type 0} → (T → ℕ) → (T → Type 0) → ℕ → ℕ → List T → Type 0
Spans place Q lo hi [] = lo ≤ hi
Spans place Q lo hi (t ∷ ts) = (lo ≤ place t) × Q t × Spans place Q (suc (place t)) hi ts

-- Each turn has the fact in its part of a range.
abbrev pub TurnFacts : {X : Type 0} → (ℕ → ℕ → X → Type 0) → ℕ → ℕ → List X → Type 0
TurnFacts F lo hi [] = lo ≤ hi
TurnFacts F lo hi (x ∷ xs) = (mid : ℕ) × (lo ≤ mid) × (mid ≤ hi) × F lo mid x × TurnFacts F mid hi xs

abbrev pub OneOrOtherFact : {X Y : Type 0} → (ℕ → ℕ → X → Type 0) → (ℕ → ℕ → Y → Type 0) → ℕ → ℕ → X ⊎ Y → Type 0
OneOrOtherFact F G lo hi (inl x) = F lo hi x
OneOrOtherFact F G lo hi (inr y) = G lo hi y

abbrev pub OneOrNoFact : {X : Type 0} → (ℕ → ℕ → X → Type 0) → ℕ → ℕ → Option X → Type 0
OneOrNoFact F lo hi None = lo ≤ hi
OneOrNoFact F lo hi (Some x) = F lo hi x

-- What holds of the value of a part that stands in a range, where P says it of the symbols and Q of the tokens.
abbrev pub PartFact : {N T : Type 0} {V : N → Type 0} → (T → ℕ) → (T → ℕ) → (T → Type 0) → ((i : N) → ℕ → ℕ → V i → Type 0) → (p : Part N) → ℕ → ℕ → PartValue T V p → Type 0
PartFact kind place Q P (One ks) lo hi t = (lo ≤ place t) × (place t < hi) × Q t × (member (kind t) ks ≡ true)
PartFact kind place Q P (Then p q) lo hi x = (mid : ℕ) × (lo ≤ mid) × (mid ≤ hi) × PartFact kind place Q P p lo mid x.0 × PartFact kind place Q P q mid hi x.1
PartFact kind place Q P (Or p q) lo hi x = OneOrOtherFact (PartFact kind place Q P p) (PartFact kind place Q P q) lo hi x
PartFact kind place Q P (Optional p) lo hi x = OneOrNoFact (PartFact kind place Q P p) lo hi x
PartFact kind place Q P (Many p) lo hi xs = TurnFacts (PartFact kind place Q P p) lo hi xs
PartFact kind place Q P (Chain p) lo hi xs = TurnFacts (PartFact kind place Q P p) lo hi xs
PartFact kind place Q P (Nested p) lo hi x = PartFact kind place Q P p lo hi x
PartFact kind place Q P (Symbol i) lo hi v = P i lo hi v

module _ {N T : Type 0} {V : N → Type 0} (G : Grammar N T V) (place : T → ℕ) (Q : T → Type 0) (P : (i : N) → ℕ → ℕ → V i → Type 0) where
  spans_up : (lo hi : ℕ) (ts : List T) → Spans place Q lo hi ts → lo ≤ hi
  spans_up lo hi [] s = s
  spans_up lo hi (t ∷ ts) s = omega (arith, s.0, spans_up (suc (place t)) hi ts s.2)

  split : (lo hi : ℕ) (a b : List T) → Spans place Q lo hi (a ++ b) → (mid : ℕ) × Spans place Q lo mid a × Spans place Q mid hi b
  split lo hi [] b s = (lo, omega arith, s)
  split lo hi (t ∷ a) b s = let r = split (suc (place t)) hi a b s.2 in (r.0, (s.0, s.1, r.1), r.2)

  -- a list of marks in two pieces
  cut : (lo hi : ℕ) (ms a b : List (T × ℕ)) → ms ≡ a ++ b → Spans place Q lo hi (tokens_of ms) → (mid : ℕ) × Spans place Q lo mid (tokens_of a) × Spans place Q mid hi (tokens_of b)
  cut lo hi ms a b e s = split lo hi (tokens_of a) (tokens_of b) (subst (Spans place Q lo hi) (ap tokens_of e ∙ tokens_append a b) s)

  module _ (R : ℕ → (i : N) → List (T × ℕ) → V i → Type 0)
      (known : (l : ℕ) (i : N) (ms : List (T × ℕ)) (v : V i) (lo hi : ℕ) → R l i ms v → Spans place Q lo hi (tokens_of ms) → P i lo hi v) where
    turns : {X : Type 0} (up : ℕ → ℕ) (F : ℕ → ℕ → X → Type 0) (S : ℕ → List (T × ℕ) → X → Type 0)
        → ((l : ℕ) (ms : List (T × ℕ)) (x : X) (lo hi : ℕ) → S l ms x → Spans place Q lo hi (tokens_of ms) → F lo hi x)
        → (l : ℕ) (ms : List (T × ℕ)) (xs : List X) (lo hi : ℕ) → Repeated up S l ms xs → Spans place Q lo hi (tokens_of ms) → TurnFacts F lo hi xs
    turns up F S f l ms [] lo hi r s = spans_up lo hi (tokens_of ms) s
    turns up F S f l ms (x ∷ xs) lo hi (a, b, e, here, later) s =
        let r = cut lo hi ms a b e s in
        (r.0, spans_up lo r.0 (tokens_of a) r.1, spans_up r.0 hi (tokens_of b) r.2, f l a x lo r.0 here r.1, turns up F S f (up l) b xs r.0 hi later r.2)

    part_fact : (p : Part N) (l : ℕ) (ms : List (T × ℕ)) (x : PartValue T V p) (lo hi : ℕ) → PartText G.kind R l p ms x → Spans place Q lo hi (tokens_of ms) → PartFact G.kind place Q P p lo hi x
    part_fact (One ks) l ms x lo hi (e, m) s = let t : Spans place Q lo hi (x ∷ []) = subst (Spans place Q lo hi) (ap tokens_of e) s in (t.0, omega (arith, t.2), t.1, m)
    part_fact (Then p q) l ms x lo hi (a, b, e, first, second) s =
        let r = cut lo hi ms a b e s in
        (r.0, spans_up lo r.0 (tokens_of a) r.1, spans_up r.0 hi (tokens_of b) r.2, part_fact p l a x.0 lo r.0 first r.1, part_fact q l b x.1 r.0 hi second r.2)
    part_fact (Or p q) l ms (inl x) lo hi t s = part_fact p l ms x lo hi t s
    part_fact (Or p q) l ms (inr x) lo hi t s = part_fact q l ms x lo hi t s
    part_fact (Optional p) l ms None lo hi t s = spans_up lo hi (tokens_of ms) s
    part_fact (Optional p) l ms (Some x) lo hi t s = part_fact p l ms x lo hi t s
    part_fact (Many p) l ms xs lo hi t s = turns (λ n. n) (PartFact G.kind place Q P p) (λ n. PartText G.kind R n p) (λ n. part_fact p n) l ms xs lo hi t s
    part_fact (Chain p) l ms xs lo hi t s = turns suc (PartFact G.kind place Q P p) (λ n. PartText G.kind R n p) (λ n. part_fact p n) l ms xs lo hi t s
    part_fact (Nested p) l ms x lo hi t s = part_fact p (suc l) ms x lo hi t s
    part_fact (Symbol i) l ms x lo hi t s = known l i ms x lo hi t s

  module _ (step : (i : N) (lo hi : ℕ) (tree : PartValue T V (G.rule i)) → PartFact G.kind place Q P (G.rule i) lo hi tree → P i lo hi (G.make i tree)) where
    within_fact : (h l : ℕ) (i : N) (ms : List (T × ℕ)) (v : V i) (lo hi : ℕ) → TextWithin G h l i ms v → Spans place Q lo hi (tokens_of ms) → P i lo hi v
    within_fact zero l i ms v lo hi t s = absurd t
    within_fact (suc h) l i ms v lo hi (tree, text, e) s = subst (P i lo hi) e (step i lo hi tree (part_fact (TextWithin G h) (within_fact h) (G.rule i) l ms tree lo hi text s))

    -- what holds of each production holds of each text
    pub symbol_fact : (l : ℕ) (i : N) (ms : List (T × ℕ)) (v : V i) (lo hi : ℕ) → SymbolText G l i ms v → Spans place Q lo hi (tokens_of ms) → P i lo hi v
    symbol_fact l i ms v lo hi (h, t) s = within_fact h l i ms v lo hi t s
