-- When one token of choice is enough to read a grammar.
use Rattle.std.specs.Prelude.{◌≡◌, ℕ, ◌<◌, ◌||◌, ◌&&◌, not, Bool, true, false, List, [], ◌∷◌, ◌++◌, nat_lt, if◌then◌else◌}
use Rattle.grammar_theory.specs.Texts.{member, Part, Grammar, SymbolText, One, Then, Or, Optional, Many, Chain, Nested, Symbol}

-- whether a part may be empty
abbrev pub may_be_empty : {N : Type 0} → Part N → Bool
may_be_empty (One ks) = false
may_be_empty (Then p q) = may_be_empty p && may_be_empty q
may_be_empty (Or p q) = may_be_empty p || may_be_empty q
may_be_empty (Optional p) = true
may_be_empty (Many p) = true
may_be_empty (Chain p) = true
may_be_empty (Nested p) = may_be_empty p
may_be_empty (Symbol i) = false

-- the kinds of token with which a part begins, where F has those of the symbols
abbrev pub first_kinds : {N : Type 0} → (N → List ℕ) → Part N → List ℕ
first_kinds F (One ks) = ks
first_kinds F (Then p q) = first_kinds F p ++ (if may_be_empty p then first_kinds F q else [])
first_kinds F (Or p q) = first_kinds F p ++ first_kinds F q
first_kinds F (Optional p) = first_kinds F p
first_kinds F (Many p) = first_kinds F p
first_kinds F (Chain p) = first_kinds F p
first_kinds F (Nested p) = first_kinds F p
first_kinds F (Symbol i) = F i

-- the kinds of token with which reading a part goes on where it might have ended, where C has those of the symbols
abbrev pub next_kinds : {N : Type 0} → (N → List ℕ) → (N → List ℕ) → Part N → List ℕ
next_kinds F C (One ks) = []
next_kinds F C (Then p q) = next_kinds F C q ++ (if may_be_empty q then next_kinds F C p else [])
next_kinds F C (Or p q) = next_kinds F C p ++ next_kinds F C q
next_kinds F C (Optional p) = first_kinds F p ++ next_kinds F C p
next_kinds F C (Many p) = first_kinds F p ++ next_kinds F C p
next_kinds F C (Chain p) = first_kinds F p ++ next_kinds F C p
next_kinds F C (Nested p) = next_kinds F C p
next_kinds F C (Symbol i) = C i

abbrev pub are_apart : List ℕ → List ℕ → Bool
are_apart [] ys = true
are_apart (x ∷ xs) ys = not (member x ys) && are_apart xs ys

abbrev pub is_some_kind : ℕ → List ℕ → Bool
is_some_kind K [] = false
is_some_kind K (k ∷ ks) = nat_lt k K

-- One token of choice is enough, where the kinds of token are below K.
abbrev pub is_decided : {N : Type 0} → ℕ → (N → List ℕ) → (N → List ℕ) → Part N → Bool
is_decided K F C (One ks) = is_some_kind K ks
is_decided K F C (Then p q) = is_decided K F C p && is_decided K F C q && are_apart (first_kinds F q) (next_kinds F C p)
is_decided K F C (Or p q) = is_decided K F C p && is_decided K F C q && not (may_be_empty p) && not (may_be_empty q) && are_apart (first_kinds F q) (first_kinds F p)
is_decided K F C (Optional p) = is_decided K F C p && not (may_be_empty p)
is_decided K F C (Many p) = is_decided K F C p && not (may_be_empty p) && are_apart (first_kinds F p) (next_kinds F C p)
is_decided K F C (Chain p) = is_decided K F C p && not (may_be_empty p) && are_apart (first_kinds F p) (next_kinds F C p)
is_decided K F C (Nested p) = is_decided K F C p
is_decided K F C (Symbol i) = true

-- each symbol that isn't one of these stands in a part that is nested deeper
abbrev pub is_inside : {N : Type 0} → (N → Bool) → Bool → Part N → Bool
is_inside ok b (One ks) = true
is_inside ok b (Then p q) = is_inside ok b p && is_inside ok b q
is_inside ok b (Or p q) = is_inside ok b p && is_inside ok b q
is_inside ok b (Optional p) = is_inside ok b p
is_inside ok b (Many p) = is_inside ok b p
is_inside ok b (Chain p) = is_inside ok b p
is_inside ok b (Nested p) = is_inside ok true p
is_inside ok b (Symbol i) = b || ok i

-- a part begins with a token of its own, or with one of these symbols
abbrev pub is_headed : {N : Type 0} → (N → Bool) → Part N → Bool
is_headed ok (One ks) = true
is_headed ok (Then p q) = is_headed ok p && (not (may_be_empty p) || is_headed ok q)
is_headed ok (Or p q) = is_headed ok p && is_headed ok q
is_headed ok (Optional p) = is_headed ok p
is_headed ok (Many p) = is_headed ok p
is_headed ok (Chain p) = is_headed ok p
is_headed ok (Nested p) = is_headed ok p
is_headed ok (Symbol i) = ok i

abbrev pub is_subset : List ℕ → List ℕ → Bool
is_subset [] ys = true
is_subset (x ∷ xs) ys = member x ys && is_subset xs ys

-- What is checked of a grammar: F has the kinds of token with which the symbols begin, C those with which reading a symbol
-- goes on. One token of choice is enough, no symbol is empty, each has a text, and where a symbol isn't of lower
-- rank than the one whose production it stands in, it stands inside a deeper part and behind a token.
pub record Decided {N T : Type 0} {V : N → Type 0} (G : Grammar N T V) (F C : N → List ℕ) : Type 0 where
  pub kinds : ℕ
  pub decided : (i : N) → is_decided kinds F C (G.rule i) ≡ true
  pub rank : N → ℕ
  pub ranks : ℕ
  pub ranked : (i : N) → rank i < ranks
  pub inside : (i : N) → is_inside (λ j. nat_lt (rank j) (rank i)) false (G.rule i) ≡ true
  pub headed : (i : N) → is_headed (λ j. nat_lt (rank j) (rank i)) (G.rule i) ≡ true
  pub full : (i : N) → may_be_empty (G.rule i) ≡ false
  pub table : (i : N) → first_kinds F (G.rule i) ≡ F i
  pub covers : (i : N) → is_subset (next_kinds F C (G.rule i)) (C i) ≡ true
  pub sample : ℕ → T
  pub sampled : (k : ℕ) → k < kinds → G.kind (sample k) ≡ k
  pub some : (l : ℕ) (i : N) → (ms : List (T × ℕ)) × (v : V i) × SymbolText G l i ms v
