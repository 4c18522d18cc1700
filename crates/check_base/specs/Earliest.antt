-- The earliest of the faults that were met.
use Rattle.std.specs.Prelude.{◌≡◌, ℕ, ◌<◌, ◌≤◌, ◌⊎◌, Bool, ◌&&◌, ◌||◌, ◌==◌, nat_lt, if◌then◌else◌, List, Option, None, Some, slice_get, IsSomeAnd}
use Rattle.flow_syntax.specs.declared.fault.SpecFaultKind.{SpecFaultKind}
use Rattle.flow_syntax.specs.declared.fault.SpecFaultKind.TheVariants as kinds

-- the faults of something: at which places, and of which kinds
abbrev pub Faults : Type 1
Faults = ℕ → SpecFaultKind → Type 0

-- the place of a kind in the order of the kinds
abbrev pub kind_rank : SpecFaultKind → ℕ
kind_rank kinds.Unknown = 0
kind_rank kinds.Duplicate = 1
kind_rank kinds.Arity = 2
kind_rank kinds.Sort = 3
kind_rank kinds.Unbound = 4
kind_rank kinds.MixedDirection = 5
kind_rank kinds.WrongEnd = 6
kind_rank kinds.MixedItem = 7
kind_rank kinds.Nested = 8
kind_rank kinds.Depth = 9

-- A fault is no later than another one: it stands at a lesser place, or at the same place with a kind that isn't behind the other in the order of the kinds.
abbrev pub IsNoLater : ℕ × SpecFaultKind → ℕ × SpecFaultKind → Type 0
IsNoLater a b = (a.0 < b.0) ⊎ ((a.0 ≡ b.0) × (kind_rank a.1 ≤ kind_rank b.1))

-- What is found is the earliest of what was found before and of the faults P.
pub record Gathers (old new : Option (ℕ × SpecFaultKind)) (P : ℕ → SpecFaultKind → Type 0) : Type 0 where
  -- it was found before or is one of the faults
  pub known : (place : ℕ) (kind : SpecFaultKind) → new ≡ Some (place, kind) → (old ≡ Some (place, kind)) ⊎ P place kind
  -- it's no later than what was found before
  pub kept : (fault : ℕ × SpecFaultKind) → old ≡ Some fault → IsSomeAnd new (λ found. IsNoLater found fault)
  -- it's no later than each fault
  pub each : (place : ℕ) (kind : SpecFaultKind) → P place kind → IsSomeAnd new (λ found. IsNoLater found (place, kind))

-- A fault is exactly this one.
abbrev pub IsFault : ℕ → SpecFaultKind → ℕ → SpecFaultKind → Type 0
IsFault at of place kind = (place ≡ at) × (kind ≡ of)

-- A fault is exactly this one, and something holds.
abbrev pub IsFaultWhere : Type 0 → ℕ → SpecFaultKind → ℕ → SpecFaultKind → Type 0
IsFaultWhere Holds at of place kind = Holds × (place ≡ at) × (kind ≡ of)

-- One of the first n items of a list has the fault, where `P k x` are the faults of the item x with the number k.
pub record FirstHave {T : Type 0} (P : ℕ → T → ℕ → SpecFaultKind → Type 0) (n : ℕ) (xs : List T) (place : ℕ) (kind : SpecFaultKind) : Type 0 where
  pub at : ℕ
  pub item : T
  pub before : at < n
  pub is : slice_get xs at ≡ Some item
  pub has : P at item place kind

-- One of the items of a list has the fault, where `P k x` are the faults of the item x with the number k.
pub record SomeHas {T : Type 0} (P : ℕ → T → ℕ → SpecFaultKind → Type 0) (xs : List T) (place : ℕ) (kind : SpecFaultKind) : Type 0 where
  pub at : ℕ
  pub item : T
  pub is : slice_get xs at ≡ Some item
  pub has : P at item place kind

-- Nothing is a fault.
abbrev pub NoFault : ℕ → SpecFaultKind → Type 0
NoFault place kind = ⊥

-- A fault of the first or of the second.
abbrev pub Either : (ℕ → SpecFaultKind → Type 0) → (ℕ → SpecFaultKind → Type 0) → ℕ → SpecFaultKind → Type 0
Either P Q place kind = P place kind ⊎ Q place kind

-- whether a fault stands before another one
abbrev pub is_before : ℕ × SpecFaultKind → ℕ × SpecFaultKind → Bool
is_before a b = nat_lt a.0 b.0 || (a.0 == b.0 && nat_lt (kind_rank a.1) (kind_rank b.1))

-- the earlier one of what was found and a fault
abbrev pub earlier_of : Option (ℕ × SpecFaultKind) → ℕ × SpecFaultKind → Option (ℕ × SpecFaultKind)
earlier_of None fault = Some fault
earlier_of (Some found) fault = if is_before fault found then Some fault else Some found
