-- What reading answers, and that each text has one value.
use Rattle.std.specs.Prelude.{◌≡◌, ℕ, List, Result, Ok, Err}
use Rattle.flow_term.specs.declared.value.Value.{Value}
use Rattle.value_text.specs.declared.refusal.ValueRefusal.{ValueRefusal}
use Rattle.value_text.specs.declared.refusal.ValueRefusal.TheVariants.{Form, NoMemory}
use Rattle.value_text.specs.Texts.{HasText, value_text}

-- The bytes are the text of the value.
pub record IsTextOf (bytes : List ℕ) (value : Value) : Type 0 where
  pub has_text : HasText value
  pub text : value_text value ≡ bytes

-- the answer is this value, unless memory ran out
abbrev pub IsReadAs : Result Value ValueRefusal → Value → Type 0
IsReadAs (Ok read) value = read ≡ value
IsReadAs (Err Form) value = ⊥
IsReadAs (Err NoMemory) value = Unit {0}

-- The bytes are the text of one value at most.
abbrev pub HasOneValue : List ℕ → Type 0
HasOneValue bytes = (v w : Value) → IsTextOf bytes v → IsTextOf bytes w → v ≡ w
