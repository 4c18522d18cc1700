-- Each symbol has a text, where a computed test finds one.
use Rattle.std.proofs.Common.{◌≡◌, ℕ, zero, suc, ◌<◌, ◌||◌, ◌&&◌, Bool, true, false, List, [], ◌∷◌, ◌++◌, None, refl, sym, subst, inl, inr, arith}
use Rattle.std.specs.Prelude.{◌==◌, nat_lt}
use Rattle.std.proofs.lemmas.Bool.Decides.{nat_tests}
use Rattle.grammar_theory.specs.Choice.{is_some_kind}
use Rattle.grammar_theory.specs.Texts.{member, Part, PartValue, PartText, Grammar, SymbolText, One, Then, Or, Optional, Many, Chain, Nested, Symbol}
use Rattle.grammar_theory.proofs.Composition.{both}
use Rattle.grammar_theory.proofs.SymbolLemmas.{text_in}

-- a part has a text, where these symbols have one
abbrev pub has_sample : {N : Type 0} → ℕ → (N → Bool) → Part N → Bool
has_sample K S (One ks) = is_some_kind K ks
has_sample K S (Then p q) = has_sample K S p && has_sample K S q
has_sample K S (Or p q) = has_sample K S p || has_sample K S q
has_sample K S (Optional p) = true
has_sample K S (Many p) = true
has_sample K S (Chain p) = true
has_sample K S (Nested p) = has_sample K S p
has_sample K S (Symbol i) = S i

same_number : (k : ℕ) → (k == k) ≡ true
same_number k = grind (arith, nat_tests)

first_true : (a b : Bool) → a ≡ true → (a || b) ≡ true
first_true a b e = rw e refl

module _ {N T : Type 0} {V : N → Type 0} (G : Grammar N T V) (F C : N → List ℕ) (K : ℕ) (sample : ℕ → T) (sampled : (k : ℕ) → k < K → G.kind (sample k) ≡ k) where
  abbrev pub HasText : ℕ → N → Type 0
  HasText l i = (ms : List (T × ℕ)) × (v : V i) × SymbolText G l i ms v

  abbrev HasPartText : ℕ → Part N → Type 0
  HasPartText l p = (ms : List (T × ℕ)) × (v : PartValue T V p) × PartText G.kind (SymbolText G) l p ms v

  one_of_two : (S : N → Bool) (p q : Part N) (l : ℕ) → (has_sample K S p ≡ true → HasPartText l p) → (has_sample K S q ≡ true → HasPartText l q)
      → (b : Bool) → has_sample K S p ≡ b → (b || has_sample K S q) ≡ true → HasPartText l (Or p q)
  one_of_two S p q l left right true e h = let x = left e in (x.0, inl x.1, x.2)
  one_of_two S p q l left right false e h = let x = right h in (x.0, inr x.1, x.2)

  some_part : (S : N → Bool) → ((l : ℕ) (i : N) → S i ≡ true → HasText l i) → (p : Part N) → has_sample K S p ≡ true → (l : ℕ) → HasPartText l p
  some_part S known (One []) h l = absurd cc
  some_part S known (One (k ∷ ks)) h l = ((sample k, l) ∷ [], sample k, (refl, subst (λ j. member j (k ∷ ks) ≡ true) (sym (sampled k (grind (arith, nat_tests)))) (first_true (k == k) (member k ks) (same_number k))))
  some_part S known (Then p q) h l =
      let d = both (has_sample K S p) (has_sample K S q) h in
      let x = some_part S known p d.0 l in
      let y = some_part S known q d.1 l in
      (x.0 ++ y.0, (x.1, y.1), (x.0, y.0, refl, x.2, y.2))
  some_part S known (Or p q) h l = one_of_two S p q l (λ e. some_part S known p e l) (λ e. some_part S known q e l) (has_sample K S p) refl h
  some_part S known (Optional p) h l = ([], None, refl)
  some_part S known (Many p) h l = ([], [], refl)
  some_part S known (Chain p) h l = ([], [], refl)
  some_part S known (Nested p) h l = some_part S known p h (suc l)
  some_part S known (Symbol i) h l = known l i h

  -- where a sample of each symbol needs those of lesser heights alone
  pub some_text : (height : N → ℕ) → ((i : N) → has_sample K (λ j. nat_lt (height j) (height i)) (G.rule i) ≡ true) → (n : ℕ) (i : N) → height i < n → (l : ℕ) → HasText l i
  some_text height has zero i h l = absurd (omega arith)
  some_text height has (suc n) i h l =
      let below : (j : N) → nat_lt (height j) (height i) ≡ true → height j < n = λ j ok. grind (arith, nat_tests) in
      let x = some_part (λ j. nat_lt (height j) (height i)) (λ k j ok. some_text height has n j (below j ok) k) (G.rule i) (has i) l in
      (x.0, G.make i x.1, text_in G F C l i x.0 x.1 x.2)
