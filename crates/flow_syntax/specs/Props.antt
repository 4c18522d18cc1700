-- The facts that a specification keeps have one proof at most. That its types are those of its expressions may have several, since an expression can have its
-- type as the expected one and as the inferred one; so it is kept as a mere truth, from which `types_are_kept` of `expr_typing` has the fact itself.
use Rattle.std.proofs.Common.{List, [], ◌∷◌}
use native.Mathlib.Nat.{ℕ_set}
use mathlib.Core.HLevel.{¬_prop, ×_prop, Unit-prop}
use Rattle.flow_term.specs.Orders.{EachOnce}
use Rattle.flow_syntax.specs.declared.expr.ExprKind.TheOpen.{ExprKind-F}
use Rattle.flow_syntax.specs.declared.spec.Spec.{Spec}
use Rattle.flow_syntax.specs.Accepted.{IsEvenMap, HasEvenMaps}
use Rattle.flow_syntax.specs.Expressions.{ExprLayer, expr_layer}

pub EachOnce-prop : {X : Type 0} (xs : List X) → IsProp (EachOnce xs)
EachOnce-prop [] = Unit-prop
EachOnce-prop (x ∷ xs) = ×_prop ¬_prop (EachOnce-prop xs)

pub IsEvenMap-prop : (layer : ExprLayer) → IsProp (IsEvenMap layer)
IsEvenMap-prop (ExprKind-F.MapOf keys values) = ℕ_set _ _
IsEvenMap-prop _ = Unit-prop

pub HasEvenMaps-prop : (spec : Spec) → IsProp (HasEvenMaps spec)
HasEvenMaps-prop spec f g i e of_spec = IsEvenMap-prop (expr_layer e) (f e of_spec) (g e of_spec) i
