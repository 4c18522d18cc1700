-- What reading a whole file may answer.
use Rattle.std.specs.Prelude.{◌≡◌, ℕ, ◌<◌, ◌≤◌, List, Option, None, Some, Result, Err, length, IsSomeAnd}
use Rattle.flow_io.specs.declared.reading.ReadRefusal.{ReadRefusal}
use Rattle.flow_io.specs.declared.reading.ReadRefusal.TheVariants.{Missing, TooLarge, Failed, NoMemory}

-- these bytes are the content, and within the limit
abbrev pub IsWhole : Option (List ℕ) → ℕ → List ℕ → Type 0
IsWhole content limit bytes = (content ≡ Some bytes) × (length bytes ≤ limit)

-- what a refusal says of the content
abbrev pub IsCause : Option (List ℕ) → ℕ → ReadRefusal → Type 0
IsCause content limit Missing = content ≡ None
IsCause content limit TooLarge = IsSomeAnd content (λ bytes. limit < length bytes)
IsCause content limit Failed = Unit {0}
IsCause content limit NoMemory = Unit {0}

-- a fact where a call on the folder failed
abbrev pub OnFailed : {T : Type 0} → Result T ReadRefusal → Type 0 → Type 0
OnFailed (Err Failed) P = P
OnFailed result P = Unit {0}
