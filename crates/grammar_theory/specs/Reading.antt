-- Reading a grammar with one token of choice: a value and the tokens after it, or a cause and the tokens from the fault on.
use Rattle.std.specs.Prelude.{ℕ, zero, suc, ◌*◌, Bool, false, List, [], ◌∷◌, length, Option, Some, None, Result, Ok, Err, nat_le, ◌⊎◌, if◌then◌else◌}
use Rattle.std.proofs.Common.{inl, inr}
use Rattle.grammar_theory.specs.Choice.{first_kinds}
use Rattle.grammar_theory.specs.Texts.{member, Part, PartValue, Grammar, One, Then, Or, Optional, Many, Chain, Nested, Symbol}
use Rattle.grammar_theory.specs.declared.Cause.{Cause}
use Rattle.grammar_theory.specs.declared.Cause.TheVariants.{Unexpected, TooDeep}

-- Reading: a value and the tokens after it, or a cause and the tokens from the fault on.
abbrev pub Outcome : Type 0 → Type 0 → Type 0
Outcome T V = Result (V × List T) (Cause × List T)

infixl 10 ◌>>=◌
abbrev pub ◌>>=◌ : {A B E : Type 0} → Result A E → (A → Result B E) → Result B E
(Ok x) >>= f = f x
(Err e) >>= f = Err e

-- whether the first token is of one of these kinds
abbrev pub starts_with : {T : Type 0} → (T → ℕ) → List ℕ → List T → Bool
starts_with kind ks [] = false
starts_with kind ks (t ∷ ts) = member (kind t) ks

abbrev pub read_token : {T : Type 0} → Bool → Bool → T → List T → Outcome T T
read_token b d t ts = if b then (if d then Ok (t, ts) else Err (TooDeep, t ∷ ts)) else Err (Unexpected, t ∷ ts)

abbrev pub read_one : {T : Type 0} → (T → ℕ) → ℕ → ℕ → List ℕ → List T → Outcome T T
read_one kind limit l ks [] = Err (Unexpected, [])
read_one kind limit l ks (t ∷ ts) = read_token (member (kind t) ks) (nat_le l limit) t ts

abbrev pub read_in_turn : {T X Y : Type 0} → (List T → Outcome T X) → (List T → Outcome T Y) → List T → Outcome T (X × Y)
read_in_turn r s ts = r ts >>= λ x. s x.1 >>= λ y. Ok ((x.0, y.0), y.1)

abbrev pub read_one_of_two : {T X Y : Type 0} → Bool → (List T → Outcome T X) → (List T → Outcome T Y) → List T → Outcome T (X ⊎ Y)
read_one_of_two b r s ts = if b then (r ts >>= λ x. Ok (inl x.0, x.1)) else (s ts >>= λ y. Ok (inr y.0, y.1))

abbrev pub read_optional : {T X : Type 0} → Bool → (List T → Outcome T X) → List T → Outcome T (Option X)
read_optional b r ts = if b then (r ts >>= λ x. Ok (Some x.0, x.1)) else Ok (None, ts)

-- as many turns as there are, at most so many
abbrev pub read_repeated : {T X : Type 0} → (T → ℕ) → List ℕ → (ℕ → ℕ) → (ℕ → List T → Outcome T X) → ℕ → ℕ → List T → Outcome T (List X)
read_repeated kind f up r zero l ts = Ok ([], ts)
read_repeated kind f up r (suc n) l ts = if starts_with kind f ts then (r l ts >>= λ x. read_repeated kind f up r n (up l) x.1 >>= λ y. Ok (x.0 ∷ y.0, y.1)) else Ok ([], ts)

-- Reading a part at a nesting, where r reads the symbols.
abbrev pub read_part : {N T : Type 0} {V : N → Type 0} → (T → ℕ) → (N → List ℕ) → ℕ → (ℕ → (i : N) → List T → Outcome T (V i)) → ℕ → (p : Part N) → List T → Outcome T (PartValue T V p)
read_part kind F limit r l (One ks) ts = read_one kind limit l ks ts
read_part kind F limit r l (Then p q) ts = read_in_turn (read_part kind F limit r l p) (read_part kind F limit r l q) ts
read_part kind F limit r l (Or p q) ts = read_one_of_two (starts_with kind (first_kinds F p) ts) (read_part kind F limit r l p) (read_part kind F limit r l q) ts
read_part kind F limit r l (Optional p) ts = read_optional (starts_with kind (first_kinds F p) ts) (read_part kind F limit r l p) ts
read_part kind F limit r l (Many p) ts = read_repeated kind (first_kinds F p) (λ n. n) (λ n. read_part kind F limit r n p) (length ts) l ts
read_part kind F limit r l (Chain p) ts = read_repeated kind (first_kinds F p) suc (λ n. read_part kind F limit r n p) (length ts) l ts
read_part kind F limit r l (Nested p) ts = read_part kind F limit r (suc l) p ts
read_part kind F limit r l (Symbol i) ts = r l i ts

abbrev pub too_deep : {T X : Type 0} → (T → ℕ) → List ℕ → List T → Outcome T X
too_deep kind f ts = Err (if starts_with kind f ts then TooDeep else Unexpected, ts)

-- Reading a symbol, with so many turns.
unfoldable pub read_symbol : {N T : Type 0} {V : N → Type 0} → Grammar N T V → (N → List ℕ) → ℕ → ℕ → ℕ → (i : N) → List T → Outcome T (V i)
read_symbol G F limit zero l i ts = too_deep G.kind (F i) ts
read_symbol G F limit (suc n) l i ts = if nat_le l limit then (read_part G.kind F limit (read_symbol G F limit n) l (G.rule i) ts >>= λ x. Ok (G.make i x.0, x.1)) else too_deep G.kind (F i) ts

-- how many turns are enough, where R is above the rank of each symbol
abbrev pub turn_count : ℕ → ℕ → ℕ
turn_count limit R = suc (R * suc (suc limit))

-- reading all of the tokens
abbrev pub ended : {T X : Type 0} → X × List T → Result X (Cause × List T)
ended (v, []) = Ok v
ended (v, t ∷ rest) = Err (Unexpected, t ∷ rest)

abbrev pub read_whole : {N T : Type 0} {V : N → Type 0} → Grammar N T V → (N → List ℕ) → ℕ → ℕ → (i : N) → List T → Result (V i) (Cause × List T)
read_whole G F R limit i ts = read_symbol G F limit (turn_count limit R) 0 i ts >>= ended
