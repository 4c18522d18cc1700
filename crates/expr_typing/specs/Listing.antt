-- The types with which expressions are listed, whether they have faults or not.
use Rattle.std.specs.Prelude.{◌≡◌, List, [], ◌∷◌, ◌++◌, map}
use Rattle.std.specs.List.{AllZip}
use Rattle.flow_syntax.specs.declared.spec.Spec.{Spec}
use Rattle.flow_syntax.specs.Expressions.{expressions_of}
use Rattle.flow_syntax.specs.Occurrences.{Occurrence, parts_of}
use Rattle.flow_syntax.specs.ExprTypes.{HasType, AreTypes, wholes_of}
use Rattle.flow_syntax.specs.Faults.{HasNoFault}
use Rattle.flow_syntax.specs.Inferred.{Inferred, is, inferred}
use Rattle.flow_syntax.specs.Types.{Typing, truth}
use Rattle.flow_syntax.specs.Expected.{Expected, known}

-- the type with which an expression is listed, of which this is expected and inferred: truth stands for one that isn't known
abbrev pub listed_type : Expected → Inferred → Typing
listed_type (known t) inferred_type = t
listed_type expected (is t) = t
listed_type expected inferred_type = truth

-- Expressions at their places and all their parts are listed with these types, an outer one before its parts.
pub data AreListed (spec : Spec) : List Occurrence → List Typing → Type 0 where
  none : AreListed spec [] []
  next : (p : Occurrence) (ps : List Occurrence) (inner others : List Typing) → AreListed spec (parts_of spec p) inner → AreListed spec ps others
      → AreListed spec (p ∷ ps) (listed_type p.expected (inferred spec p.scope p.expr) ∷ inner ++ others)

-- The types of expressions are added to a list.
pub record Lists (spec : Spec) (ps : List Occurrence) (old new : List Typing) : Type 0 where
  pub types : List Typing
  pub added : new ≡ old ++ types
  pub listed : AreListed spec ps types

-- The expressions of a specification without faults have the types with which they are listed.
abbrev pub FaultlessExpressionsHaveTypes : Type 0
FaultlessExpressionsHaveTypes = (spec : Spec) (types : List Typing) → HasNoFault spec → AreListed spec (wholes_of spec) types → AreTypes spec types

-- Expressions and all their parts stand at these places, an outer one before its parts.
pub data AreOccurrences (spec : Spec) : List Occurrence → List Occurrence → Type 0 where
  nowhere : AreOccurrences spec [] []
  there : (p : Occurrence) (ps inner others : List Occurrence) → AreOccurrences spec (parts_of spec p) inner → AreOccurrences spec ps others → AreOccurrences spec (p ∷ ps) (p ∷ inner ++ others)

-- These types stand in the order of a specification's expressions, one for each.
pub record AreInOrder (spec : Spec) (types : List Typing) : Type 0 where
  -- at the places of its whole expressions and of all their parts
  pub occurrences : List Occurrence
  pub all : AreOccurrences spec (wholes_of spec) occurrences
  -- its expressions stand, in their order,
  pub stand : map (λ p. p.expr) occurrences ≡ expressions_of spec
  -- and each has there the type with its number
  pub have : AllZip (HasType spec) occurrences types

-- Types are those of all expressions of a specification exactly where they stand in the order of its expressions, one for each.
abbrev pub TypesAreInOrder : Type 0
TypesAreInOrder = (spec : Spec) (types : List Typing) → (AreTypes spec types → AreInOrder spec types) × (AreInOrder spec types → AreTypes spec types)
