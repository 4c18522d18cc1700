-- What begins a text, by cases of the productions.
use Rattle.std.specs.Prelude.{◌≡◌, ◌⊎◌, ℕ, zero, suc, true, List, [], ◌∷◌, ◌++◌}
use Rattle.grammar_theory.specs.Texts.{Part, One, Then, Or, Optional, Many, Chain, Nested, Symbol, PartValue, PartText, Grammar, SymbolText, member, tokens_of}

-- the tokens of a whole text of a part at a nesting
abbrev pub IsWholePart : {N T : Type 0} {V : N → Type 0} → (T → ℕ) → (ℕ → (i : N) → List (T × ℕ) → V i → Type 0) → ℕ → (p : Part N) → List T → Type 0
IsWholePart {N} {T} {V} kind R l p ts = (ms : List (T × ℕ)) × (v : PartValue T V p) × PartText kind R l p ms v × (tokens_of ms ≡ ts)

-- so many whole turns, and then nothing, or what begins one more
abbrev pub BeginsTurns : {T : Type 0} → (ℕ → ℕ) → (ℕ → List T → Type 0) → (ℕ → List T → Type 0) → ℕ → ℕ → List T → Type 0
BeginsTurns up W B l zero ts = (ts ≡ []) ⊎ B l ts
BeginsTurns {T} up W B l (suc n) ts = (a b : List T) × (ts ≡ a ++ b) × W l a × BeginsTurns up W B (up l) n b

-- What begins a part: nothing or the token itself; what begins its first part, or a whole first part and what begins the second;
-- what begins one of two; whole turns and what begins one more; where B says what begins the symbols.
abbrev pub BeginsPart : {N T : Type 0} {V : N → Type 0} → (T → ℕ) → (ℕ → (i : N) → List (T × ℕ) → V i → Type 0) → (ℕ → N → List T → Type 0) → ℕ → Part N → List T → Type 0
BeginsPart {N} {T} kind R B l (One ks) ts = (ts ≡ []) ⊎ ((t : T) × (ts ≡ t ∷ []) × (member (kind t) ks ≡ true))
BeginsPart {N} {T} kind R B l (Then p q) ts = BeginsPart kind R B l p ts ⊎ ((a b : List T) × (ts ≡ a ++ b) × IsWholePart kind R l p a × BeginsPart kind R B l q b)
BeginsPart kind R B l (Or p q) ts = BeginsPart kind R B l p ts ⊎ BeginsPart kind R B l q ts
BeginsPart kind R B l (Optional p) ts = (ts ≡ []) ⊎ BeginsPart kind R B l p ts
BeginsPart kind R B l (Many p) ts = (n : ℕ) × BeginsTurns (λ k. k) (λ k a. IsWholePart kind R k p a) (λ k b. BeginsPart kind R B k p b) l n ts
BeginsPart kind R B l (Chain p) ts = (n : ℕ) × BeginsTurns suc (λ k a. IsWholePart kind R k p a) (λ k b. BeginsPart kind R B k p b) l n ts
BeginsPart kind R B l (Nested p) ts = BeginsPart kind R B (suc l) p ts
BeginsPart kind R B l (Symbol i) ts = B l i ts

-- what begins a symbol, through at most so many productions
abbrev pub BeginsSymbol : {N T : Type 0} {V : N → Type 0} → Grammar N T V → ℕ → ℕ → N → List T → Type 0
BeginsSymbol G zero l i ts = ts ≡ []
BeginsSymbol G (suc h) l i ts = BeginsPart G.kind (SymbolText G) (BeginsSymbol G h) l (G.rule i) ts

-- the tokens begin the symbol
abbrev pub BeginsByCases : {N T : Type 0} {V : N → Type 0} → Grammar N T V → N → List T → Type 0
BeginsByCases G i ts = (h : ℕ) × BeginsSymbol G h 0 i ts
