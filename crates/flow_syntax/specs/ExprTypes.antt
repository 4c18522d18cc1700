-- The types of the expressions of a specification.
use Rattle.std.specs.Prelude.{◌≡◌, List, [], ◌∷◌, ◌++◌, map}
use Rattle.std.specs.List.{flat_map}
use Rattle.flow_syntax.specs.declared.spec.Spec.{Spec}
use Rattle.flow_syntax.specs.Types.{Typing}
use Rattle.flow_syntax.specs.Inferred.{is, inferred}
use Rattle.flow_syntax.specs.Expected.{known}
use Rattle.flow_syntax.specs.Occurrences.{Occurrence, expected_truth, optional, parts_of}
use Rattle.flow_syntax.specs.ExprFaults.{body_of, message_scope}

-- An expression at a place has this type: the one that is expected of it, or the one that is inferred of it.
pub data HasType (spec : Spec) (p : Occurrence) (t : Typing) : Type 0 where
  expected_type : p.expected ≡ known t → HasType spec p t
  infers : inferred spec p.scope p.expr ≡ is t → HasType spec p t

-- Expressions at their places and all their parts have these types, an outer one before its parts.
pub data HaveTypes (spec : Spec) : List Occurrence → List Typing → Type 0 where
  none : HaveTypes spec [] []
  next : (p : Occurrence) (ps : List Occurrence) (t : Typing) (inner others : List Typing) → HasType spec p t → HaveTypes spec (parts_of spec p) inner → HaveTypes spec ps others
      → HaveTypes spec (p ∷ ps) (t ∷ inner ++ others)

-- the whole expressions of a specification at their places: the bodies of its rules, and then the conditions of its messages
abbrev pub wholes_of : Spec → List Occurrence
wholes_of spec = map (body_of spec) spec.rules ++ flat_map (λ m. optional (message_scope m) expected_truth m.condition) spec.messages

-- These are the types of all expressions of a specification, in the order of `expressions_of`.
abbrev pub AreTypes : Spec → List Typing → Type 0
AreTypes spec types = HaveTypes spec (wholes_of spec) types
