-- The laws of systems by name, each as one sentence.
use Rattle.std.specs.Prelude.{◌≡◌, Bool, true, List, [], map}
use Rattle.list_theory.specs.Lists.{has}
use Rattle.constraint_theory.specs.Systems.{ConstraintSystem, Equality, IsEquality, IsMonotone, AreRanks, IsLawful, IsLeast, IsKey, bound, numbers}
use Rattle.constraint_theory.specs.Machine.{State, IsSound, Legal, after, begin, replay}
use Rattle.constraint_theory.specs.Edits.{Change, IsEdit, IsTainted, edited}
use Rattle.constraint_names.specs.Naming.{Naming, IsNamed, IsFaithful, HasNamedRanks, Agrees, named}
use Rattle.constraint_names.specs.Numbering.{Numbering, IsNumbering, names_of, numbered}
use Rattle.constraint_names.specs.NamedEdits.{IsNamedChange, set_by_name}

-- the sentence holds of each system and each that is it by name
abbrev pub ForNamed : (K U V L W X : Type 0) → (Equality K U → Equality L W → ConstraintSystem K U V → ConstraintSystem L W X → Naming K U V L W X → Type 0) → Type 0
ForNamed K U V L W X P = (same : Equality K U) (other : Equality L W) (s : ConstraintSystem K U V) (t : ConstraintSystem L W X) (n : Naming K U V L W X) → IsEquality same → IsEquality other → IsNamed same other s t n → P same other s t n

-- the sentence holds of each monotone system and each numbering of it
abbrev pub ForNumberings : (L W X : Type 0) → (Equality L W → ConstraintSystem L W X → Numbering L W → Type 0) → Type 0
ForNumberings L W X P = (other : Equality L W) (t : ConstraintSystem L W X) (n : Numbering L W) → IsEquality other → IsMonotone other t → IsNumbering t n → P other t n

-- The sentence holds of each change from a monotone system to another that is, by name, an edit.
abbrev pub ForNamedEdits : (K U V L W X : Type 0) → (Equality K U → Equality L W → ConstraintSystem K U V → ConstraintSystem K U V → ConstraintSystem L W X → ConstraintSystem L W X → Naming K U V L W X → Naming K U V L W X → Change K U V → Change L W X → Type 0) → Type 0
ForNamedEdits K U V L W X P = (same : Equality K U) (other : Equality L W) (s s' : ConstraintSystem K U V) (t t' : ConstraintSystem L W X) (n n' : Naming K U V L W X) (e : Change K U V) (f : Change L W X) → IsEquality same → IsEquality other
    → IsMonotone same s → IsMonotone same s' → IsNamed same other s t n → IsNamed same other s' t' n' → IsNamedChange same other s s' t t' n n' e f → IsEdit other t t' f → P same other s s' t t' n n' e f

module _ {K U V L W X : Type 0} (same : Equality K U) (other : Equality L W) (s : ConstraintSystem K U V) (t : ConstraintSystem L W X) (n : Naming K U V L W X) where
  -- the state at the start is, by name, the one at the start
  abbrev pub BeginIsNamed : Type 0
  BeginIsNamed = named n.key (begin same s) ≡ begin other t

  -- the bound is that of the names, where heights are
  abbrev pub BoundIsNamed : Type 0
  BoundIsNamed = HasNamedRanks same other s t n → bound other t ≡ bound same s

  -- values of known steps stand for the values of the steps by name
  abbrev pub ValuesAreNamed : Type 0
  ValuesAreNamed = IsMonotone same s → (ks : List K) → ((k : K) → has same.key ks k ≡ true → IsKey same s k) → Agrees same other s t n (replay same s ks) (replay other t (map n.key ks))

  -- a sound state is sound by name
  abbrev pub SoundIsNamed : Type 0
  SoundIsNamed = IsMonotone same s → (st : State K) → IsSound same s st → IsSound other t (named n.key st)

  -- a legal list of visits is legal by name, and leads to the state by name
  abbrev pub VisitsAreNamed : Type 0
  VisitsAreNamed = IsMonotone same s → (st : State K) (ks : List K) → IsSound same s st → Legal same s st ks → Legal other t (named n.key st) (map n.key ks) × (after other t (named n.key st) (map n.key ks) ≡ named n.key (after same s st ks))

  -- in a sound state in which nothing waits, the values stand for the least solution by name
  abbrev pub SettledIsLeastByName : Type 0
  SettledIsLeastByName = IsMonotone same s → IsMonotone other t → (st : State K) (b : W → X) → IsSound same s st → st.waiting ≡ [] → Agrees same other s t n (replay same s st.steps) b → IsLeast other t b

  -- where a system is monotone by name, and its values are told apart by name, it is monotone
  abbrev pub OrderComesBack : Type 0
  OrderComesBack = IsMonotone other t → IsFaithful same s n.value → IsMonotone same s

  -- the laws of ranks hold where they hold by name
  abbrev pub RanksComeBack : Type 0
  RanksComeBack = AreRanks other t → HasNamedRanks same other s t n → AreRanks same s

module _ {L W X : Type 0} (other : Equality L W) (t : ConstraintSystem L W X) (n : Numbering L W) where
  -- the system under numbers is the system by name, heights and ranks too
  abbrev pub NumberedIsNamed : Type 0
  NumberedIsNamed = IsNamed numbers other (numbered t n) t (names_of n) × HasNamedRanks numbers other (numbered t n) t (names_of n)

  -- and meets the laws that the system meets
  abbrev pub NumberedIsLawful : Type 0
  NumberedIsLawful = IsMonotone numbers (numbered t n) × (AreRanks other t → IsLawful numbers (numbered t n))

module _ {K U V L W X : Type 0} (same : Equality K U) (other : Equality L W) (s s' : ConstraintSystem K U V) (t t' : ConstraintSystem L W X) (n n' : Naming K U V L W X) (e : Change K U V) (f : Change L W X) where
  -- the change is an edit
  abbrev pub EditComesBack : Type 0
  EditComesBack = IsEdit same s s' e

  -- the names of what is tainted are what is tainted by name
  abbrev pub TaintIsNamed : Type 0
  TaintIsNamed = (st : State K) (taint : U → Bool) → IsSound same s st → IsTainted same s s' e st.steps taint → IsTainted other t t' f (map n.key st.steps) (set_by_name other s n taint)

  -- the state after the edit is, by the names after it, that of the edit by name
  abbrev pub EditedIsNamed : Type 0
  EditedIsNamed = (st : State K) (taint : U → Bool) → IsSound same s st → IsTainted same s s' e st.steps taint → edited other t t' f (set_by_name other s n taint) (named n.key st) ≡ named n'.key (edited same s s' e taint st)
