-- The types of a specification without faults: there is exactly one list of them.
use Rattle.std.specs.Prelude.{◌≡◌, List}
use Rattle.flow_syntax.specs.declared.spec.Spec.{Spec}
use Rattle.flow_syntax.specs.ExprTypes.{AreTypes}
use Rattle.flow_syntax.specs.Faults.{HasNoFault}
use Rattle.flow_syntax.specs.Types.{Typing}

-- All expressions of a specification without faults have types.
abbrev pub TypesExist : Type 0
TypesExist = (spec : Spec) → HasNoFault spec → (types : List Typing) × AreTypes spec types

-- A specification without faults has one list of types at most.
abbrev pub TypesAreUnique : Type 0
TypesAreUnique = (spec : Spec) (types others : List Typing) → HasNoFault spec → AreTypes spec types → AreTypes spec others → types ≡ others

-- Of a specification without faults, that types are its types follows from the mere truth that they are.
abbrev pub TypesAreKept : Type 0
TypesAreKept = (spec : Spec) (types : List Typing) → HasNoFault spec → ∥ AreTypes spec types ∥₁ → AreTypes spec types
