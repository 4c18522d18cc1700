-- What the search for faults answers.
use Rattle.std.specs.Prelude.{◌≡◌, ℕ, Option, Some, None}
use Rattle.table_laws.specs.declared.fault.LawFault.{LawFault}
use Rattle.table_laws.specs.JoinTables.{JoinTable, Fails, HasNoFault, IsFirstFault, law_of, elements_of}
use Rattle.table_laws.specs.Tuples.{IsFirst}

abbrev FailsBy : JoinTable → ℕ → LawFault → Type 0
FailsBy t law fault = (law_of fault ≡ law) × Fails t fault

-- the first fault of the law with this number, or that there is none
abbrev pub IsFirstOfLaw : JoinTable → ℕ → Option LawFault → Type 0
IsFirstOfLaw t law None = (fault : LawFault) → law_of fault ≡ law → Fails t fault → ⊥
IsFirstOfLaw t law (Some fault) = IsFirst elements_of (FailsBy t law) fault

-- the first fault of all laws, or that there is none
abbrev pub IsFirstOfTable : JoinTable → Option LawFault → Type 0
IsFirstOfTable t None = HasNoFault t
IsFirstOfTable t (Some fault) = IsFirstFault t fault
