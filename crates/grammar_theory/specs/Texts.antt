-- Grammars as data, and the texts that they have.
use Rattle.std.specs.Prelude.{◌≡◌, ℕ, zero, suc, ◌==◌, ◌||◌, Bool, true, false, List, [], ◌∷◌, ◌++◌, Option, Some, None, ◌⊎◌}
use Rattle.std.proofs.Common.{inl, inr}

abbrev pub member : ℕ → List ℕ → Bool
member k [] = false
member k (x ∷ xs) = (k == x) || member k xs

-- What stands in a production, where the named symbols are in N: a token of some kinds, one part after the other, one of
-- two, one or none, none or more, none or more each of which is nested deeper than the one before, a part that is nested
-- deeper, a symbol.
pub data Part (N : Type 0) : Type 0 where
  One : List ℕ → Part N
  Then : Part N → Part N → Part N
  Or : Part N → Part N → Part N
  Optional : Part N → Part N
  Many : Part N → Part N
  Chain : Part N → Part N
  Nested : Part N → Part N
  Symbol : N → Part N

-- The value that is read, where a token is read as itself and a symbol as its own value.
abbrev pub PartValue : {N : Type 0} → Type 0 → (N → Type 0) → Part N → Type 0
PartValue T V (One ks) = T
PartValue T V (Then p q) = PartValue T V p × PartValue T V q
PartValue T V (Or p q) = PartValue T V p ⊎ PartValue T V q
PartValue T V (Optional p) = Option (PartValue T V p)
PartValue T V (Many p) = List (PartValue T V p)
PartValue T V (Chain p) = List (PartValue T V p)
PartValue T V (Nested p) = PartValue T V p
PartValue T V (Symbol i) = V i

-- the tokens alone
abbrev pub tokens_of : {T : Type 0} → List (T × ℕ) → List T
tokens_of [] = []
tokens_of (m ∷ ms) = m.0 ∷ tokens_of ms

-- a token of one of these kinds, at a nesting
abbrev pub IsOneOf : {T : Type 0} → (T → ℕ) → ℕ → List ℕ → List (T × ℕ) → T → Type 0
IsOneOf kind l ks ms v = (ms ≡ (v, l) ∷ []) × (member (kind v) ks ≡ true)

-- one after the other
abbrev pub InTurn : {T X Y : Type 0} → (List (T × ℕ) → X → Type 0) → (List (T × ℕ) → Y → Type 0) → List (T × ℕ) → X × Y → Type 0
InTurn {T} R S ms v = (a b : List (T × ℕ)) × (ms ≡ a ++ b) × R a v.0 × S b v.1

-- one of two
abbrev pub OneOfTwo : {T X Y : Type 0} → (List (T × ℕ) → X → Type 0) → (List (T × ℕ) → Y → Type 0) → List (T × ℕ) → X ⊎ Y → Type 0
OneOfTwo R S ms (inl x) = R ms x
OneOfTwo R S ms (inr y) = S ms y

-- one or none
abbrev pub OneOrNone : {T X : Type 0} → (List (T × ℕ) → X → Type 0) → List (T × ℕ) → Option X → Type 0
OneOrNone R ms None = ms ≡ []
OneOrNone R ms (Some x) = R ms x

-- none or more, where each turn may be nested deeper than the one before
abbrev pub Repeated : {T X : Type 0} → (ℕ → ℕ) → (ℕ → List (T × ℕ) → X → Type 0) → ℕ → List (T × ℕ) → List X → Type 0
Repeated up R l ms [] = ms ≡ []
Repeated {T} up R l ms (x ∷ xs) = (a b : List (T × ℕ)) × (ms ≡ a ++ b) × R l a x × Repeated up R (up l) b xs

-- The marked tokens that a part stands for at a nesting, with their value, where R says it of the symbols.
abbrev pub PartText : {N T : Type 0} {V : N → Type 0} → (T → ℕ) → (ℕ → (i : N) → List (T × ℕ) → V i → Type 0) → ℕ → (p : Part N) → List (T × ℕ) → PartValue T V p → Type 0
PartText kind R l (One ks) ms v = IsOneOf kind l ks ms v
PartText kind R l (Then p q) ms v = InTurn (PartText kind R l p) (PartText kind R l q) ms v
PartText kind R l (Or p q) ms v = OneOfTwo (PartText kind R l p) (PartText kind R l q) ms v
PartText kind R l (Optional p) ms v = OneOrNone (PartText kind R l p) ms v
PartText kind R l (Many p) ms v = Repeated (λ n. n) (λ n. PartText kind R n p) l ms v
PartText kind R l (Chain p) ms v = Repeated suc (λ n. PartText kind R n p) l ms v
PartText kind R l (Nested p) ms v = PartText kind R (suc l) p ms v
PartText kind R l (Symbol i) ms v = R l i ms v

-- A grammar: the kind of a token, the production of each symbol, and the value that it makes.
pub record Grammar (N T : Type 0) (V : N → Type 0) : Type 0 where
  pub kind : T → ℕ
  pub rule : N → Part N
  pub make : (i : N) → PartValue T V (rule i) → V i

-- the texts of a symbol whose symbols are nested at most so deep
abbrev pub TextWithin : {N T : Type 0} {V : N → Type 0} → Grammar N T V → ℕ → ℕ → (i : N) → List (T × ℕ) → V i → Type 0
TextWithin G zero l i ms v = ⊥
TextWithin {N} {T} {V} G (suc h) l i ms v = (tree : PartValue T V (G.rule i)) × PartText G.kind (TextWithin G h) l (G.rule i) ms tree × (G.make i tree ≡ v)

-- The marked tokens are a text of the symbol, with this value.
abbrev pub SymbolText : {N T : Type 0} {V : N → Type 0} → Grammar N T V → ℕ → (i : N) → List (T × ℕ) → V i → Type 0
SymbolText G l i ms v = (h : ℕ) × TextWithin G h l i ms v
