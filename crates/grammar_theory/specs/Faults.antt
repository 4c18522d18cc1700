-- What is a text, what begins one, and which fault is the first.
use Rattle.std.specs.Prelude.{◌≡◌, ℕ, ◌≤◌, List, [], ◌∷◌, ◌++◌}
use Rattle.grammar_theory.specs.Texts.{tokens_of, Grammar, SymbolText}
use Rattle.grammar_theory.specs.declared.Cause.{Cause}
use Rattle.grammar_theory.specs.declared.Cause.TheVariants.{Unexpected, TooDeep}

-- no mark is nested deeper than the limit
abbrev pub AllFit : {T : Type 0} → ℕ → List (T × ℕ) → Type 0
AllFit limit [] = Unit {0}
AllFit limit (m ∷ ms) = (m.1 ≤ limit) × AllFit limit ms

-- The tokens are a text of the symbol with this value, in which no token is nested deeper than the limit.
pub record IsText {N T : Type 0} {V : N → Type 0} (G : Grammar N T V) (limit : ℕ) (i : N) (ts : List T) (v : V i) : Type 0 where
  pub marks : List (T × ℕ)
  pub text : SymbolText G 0 i marks v
  pub tokens : tokens_of marks ≡ ts
  pub fits : AllFit limit marks

-- Some text begins with these tokens.
pub record Begins {N T : Type 0} {V : N → Type 0} (G : Grammar N T V) (i : N) (ts : List T) : Type 0 where
  pub before : List (T × ℕ)
  pub after : List (T × ℕ)
  pub value : V i
  pub text : SymbolText G 0 i (before ++ after) value
  pub tokens : tokens_of before ≡ ts

-- Some text begins with these tokens, none of which is nested deeper than the limit in it.
pub record BeginsWithin {N T : Type 0} {V : N → Type 0} (G : Grammar N T V) (limit : ℕ) (i : N) (ts : List T) : Type 0 where
  pub begins : Begins G i ts
  pub fits : AllFit limit begins.before

-- The tokens before the rest go on, and the first token of the rest doesn't: no text goes on with it, or at the end there is
-- none that ends there.
abbrev pub IsFaulty : {N T : Type 0} {V : N → Type 0} → Grammar N T V → ℕ → (i : N) → List T → Cause → List T → Type 0
IsFaulty {N} {T} {V} G limit i front Unexpected [] = (v : V i) → ¬ IsText G limit i front v
IsFaulty G limit i front Unexpected (t ∷ rest) = ¬ Begins G i (front ++ t ∷ [])
IsFaulty G limit i front TooDeep [] = ⊥
IsFaulty G limit i front TooDeep (t ∷ rest) = Begins G i (front ++ t ∷ []) × ¬ BeginsWithin G limit i (front ++ t ∷ [])

pub record IsFirstFault {N T : Type 0} {V : N → Type 0} (G : Grammar N T V) (limit : ℕ) (i : N) (ts : List T) (cause : Cause) (rest : List T) : Type 0 where
  pub front : List T
  pub cut : ts ≡ front ++ rest
  pub good : BeginsWithin G limit i front
  pub bad : IsFaulty G limit i front cause rest
