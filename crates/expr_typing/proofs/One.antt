-- A specification without faults has at most one list of types.
use Rattle.std.proofs.Common.{◌≡◌, List, ◌∷◌, ◌++◌, refl}
use Rattle.std.specs.Prelude.{Contains}
use Rattle.flow_syntax.specs.declared.spec.Spec.{Spec}
use Rattle.flow_syntax.specs.Occurrences.{Occurrence, parts_of}
use Rattle.flow_syntax.specs.ExprTypes.{HaveTypes, none, next, wholes_of}
use Rattle.flow_syntax.specs.Types.{Typing}
use Rattle.flow_syntax.proofs.Listed.{Contains_here, Contains_behind}
use Rattle.expr_typing.specs.Kept.{TypesAreUnique}
use Rattle.expr_typing.proofs.Clean.{at_each, IsClean, part_clean}
use Rattle.expr_typing.proofs.Laws.{IsGood, good_wholes}
use Rattle.expr_typing.proofs.Single.{one_type}

module _ (spec : Spec) where
  -- expressions without faults have at most one list of types
  types_one : (ps : List Occurrence) (ts us : List Typing) → HaveTypes spec ps ts → HaveTypes spec ps us → ((q : Occurrence) → Contains ps q → IsClean spec q) → ts ≡ us
  types_one _ _ _ none none clean = refl
  types_one _ _ _ (next p ps t a b h d e) (next _ _ u c f k m n) clean =
      let here = clean p (Contains_here p ps) in
      λ i. one_type spec p here t u h k i ∷ types_one (parts_of spec p) a c d m (λ q. part_clean spec p q here) i ++ types_one ps b f e n (λ q among. clean q (Contains_behind p ps q among)) i

pub types_unique : TypesAreUnique
types_unique spec types others faultless are also = types_one spec (wholes_of spec) types others are also (λ q among. (at_each (IsGood spec) (wholes_of spec) q (good_wholes spec faultless) among).0)
