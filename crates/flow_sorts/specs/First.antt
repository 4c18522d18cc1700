-- Which fault is answered, and what an answer says.
use Rattle.std.specs.Prelude.{◌≡◌, ℕ, Result, Ok, Err}
use Rattle.check_base.specs.Earliest.{IsNoLater}
use Rattle.flow_sorts.specs.declared.refusal.SpecRefusal.{SpecRefusal}
use Rattle.flow_sorts.specs.declared.refusal.SpecRefusal.TheVariants.{Fault, NoMemory}
use Rattle.flow_syntax.specs.Faults.{HasFault}
use Rattle.flow_syntax.specs.declared.fault.SpecFaultKind.{SpecFaultKind}
use Rattle.flow_syntax.specs.declared.spec.Spec.{Spec}
use Rattle.flow_syntax.specs.declared.spec.TypedSpec.{TypedSpec}

-- A specification has this fault, and none is earlier: at a lesser place, or at this place with a kind that comes before it.
pub record IsFirstFault (spec : Spec) (place : ℕ) (kind : SpecFaultKind) : Type 0 where
  pub stands : HasFault spec place kind
  pub first : (other : ℕ) (other_kind : SpecFaultKind) → HasFault spec other other_kind → IsNoLater (place, kind) (other, other_kind)

-- A fault that is answered has this.
abbrev pub IfFault : Result TypedSpec SpecRefusal → (ℕ → SpecFaultKind → Type 0) → Type 0
IfFault (Ok typed) P = Unit {0}
IfFault (Err (Fault place kind)) P = P place kind
IfFault (Err NoMemory) P = Unit {0}

-- The specification is accepted, unless memory ran out.
abbrev pub IsTypedAs : Result TypedSpec SpecRefusal → Type 0
IsTypedAs (Ok typed) = Unit {0}
IsTypedAs (Err (Fault place kind)) = ⊥
IsTypedAs (Err NoMemory) = Unit {0}

-- The answer is this fault, unless memory ran out.
abbrev pub IsRefusedAs : Result TypedSpec SpecRefusal → ℕ → SpecFaultKind → Type 0
IsRefusedAs (Ok typed) place kind = ⊥
IsRefusedAs (Err (Fault at of)) place kind = (at ≡ place) × (of ≡ kind)
IsRefusedAs (Err NoMemory) place kind = Unit {0}
