-- What holds of each grammar.
use Rattle.std.specs.Prelude.{◌≡◌, ◌↔◌, ℕ, List, Ok, Err}
use Rattle.grammar_theory.specs.Choice.{Decided}
use Rattle.grammar_theory.specs.Beginnings.{BeginsByCases}
use Rattle.grammar_theory.specs.Faults.{IsText, Begins, IsFirstFault}
use Rattle.grammar_theory.specs.Reading.{read_whole}
use Rattle.grammar_theory.specs.Texts.{Grammar}
use Rattle.grammar_theory.specs.declared.Cause.{Cause}

-- Tokens have at most one first fault, and none where they are a text.
pub record HasOneFault {N T : Type 0} {V : N → Type 0} (G : Grammar N T V) : Type 0 where
  pub one : (limit : ℕ) (i : N) (ts : List T) (c d : Cause) (r q : List T) → IsFirstFault G limit i ts c r → IsFirstFault G limit i ts d q → (c ≡ d) × (r ≡ q)
  pub none : (limit : ℕ) (i : N) (ts : List T) (v : V i) (c : Cause) (r : List T) → IsText G limit i ts v → ¬ IsFirstFault G limit i ts c r

-- Where one token of choice is enough, reading answers a value exactly where the tokens are a text of it, and a fault exactly
-- where it is the first. So a text has one value.
pub record IsReadExactly {N T : Type 0} {V : N → Type 0} (G : Grammar N T V) : Type 0 where
  pub value : (F C : N → List ℕ) (checks : Decided G F C) (limit : ℕ) (i : N) (ts : List T) (v : V i) → read_whole G F checks.ranks limit i ts ≡ Ok v ↔ IsText G limit i ts v
  pub fault : (F C : N → List ℕ) (checks : Decided G F C) (limit : ℕ) (i : N) (ts : List T) (c : Cause) (r : List T) → read_whole G F checks.ranks limit i ts ≡ Err (c, r) ↔ IsFirstFault G limit i ts c r

-- Where one token of choice is enough, tokens begin a text exactly where they begin the symbol by cases of its productions.
abbrev pub IsBegunByCases : {N T : Type 0} {V : N → Type 0} → Grammar N T V → Type 0
IsBegunByCases {N} {T} G = (F C : N → List ℕ) → Decided G F C → (i : N) (ts : List T) → Begins G i ts ↔ BeginsByCases G i ts
