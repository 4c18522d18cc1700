-- Ways over the stops of a position.
use Rattle.std.specs.Prelude.{◌≡◌, ◌↔◌, ℕ, Bool, true, List, Some, Contains, slice_get}
use Rattle.rule_plans.specs.declared.stop.Stop.{Stop}
use Rattle.rule_plans.specs.declared.stop.Stop.TheVariants.{Entry, Exit, ChildEntry, ChildExit}
use Rattle.rule_plans.specs.declared.stop.Step.{Step}
use Rattle.way_theory.specs.Ways.{Way}

-- entries and exits, of the position and of its children
abbrev pub IsInnerStop : Stop → Type 0
IsInnerStop Entry = Unit {0}
IsInnerStop Exit = Unit {0}
IsInnerStop (ChildEntry k) = Unit {0}
IsInnerStop (ChildExit k) = Unit {0}
IsInnerStop _ = ⊥

-- A step of the list leads from a stop to another.
pub record IsStepOf (steps : List Step) (from to : Stop) : Type 0 where
  pub step : Step
  pub among : Contains steps step
  pub leaves : step.from ≡ from
  pub arrives : step.to ≡ to

-- the child with this number is passed
abbrev pub IsPassed : List Bool → ℕ → Type 0
IsPassed passes k = slice_get passes k ≡ Some true

-- From the entry of a child to its exit, where the child is passed.
pub record IsPassing (passes : List Bool) (from to : Stop) : Type 0 where
  pub k : ℕ
  pub enters : from ≡ ChildEntry k
  pub exits : to ≡ ChildExit k
  pub passed : IsPassed passes k

-- a step of the list, or through a child that is passed
pub data IsHop (steps : List Step) (passes : List Bool) (from to : Stop) : Type 0 where
  by_step : IsStepOf steps from to → IsHop steps passes from to
  by_child : IsPassing passes from to → IsHop steps passes from to

-- one or more hops lead from a stop to another, over entries and exits alone
abbrev pub Leads : List Step → List Bool → Stop → Stop → Type 0
Leads steps passes = Way IsInnerStop (IsHop steps passes)

-- these are the stops to which hops lead from a stop, and no others
abbrev pub AreReached : List Step → List Bool → Stop → List Stop → Type 0
AreReached steps passes from found = (stop : Stop) → Contains found stop ↔ Leads steps passes from stop
