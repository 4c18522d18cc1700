-- Typed expressions one by one, and what holds of each item of a list.
use Rattle.std.proofs.Common.{List, [], ◌∷◌, ◌++◌}
use Rattle.std.specs.Prelude.{Contains}
use Rattle.std.specs.List.{AllByRecursion}
use Rattle.flow_syntax.specs.declared.expr.Expr.{Expr}
use Rattle.flow_syntax.specs.declared.spec.Spec.{Spec}
use Rattle.flow_syntax.specs.Expressions.{expr_layer}
use Rattle.flow_syntax.proofs.Listed.{Contains_here, Contains_behind}
use Rattle.expr_meaning.specs.Meaning.{Usable}
use Rattle.expr_meaning.specs.Ranges.{Range}
use Rattle.expr_meaning.specs.Typing.{Held, HasForm, held_parts, AreTyped, none, next}

module _ {spec : Spec} {usable : Usable} {range : Expr → Range} where
  pub first_typed : (p : Held) (ps : List Held) → AreTyped spec usable range (p ∷ ps) → AreTyped spec usable range (p ∷ [])
  first_typed p ps (next _ _ form inner others) = next p [] form inner none

  pub rest_typed : (p : Held) (ps : List Held) → AreTyped spec usable range (p ∷ ps) → AreTyped spec usable range ps
  rest_typed p ps (next _ _ form inner others) = others

  pub inner_typed : (p : Held) → AreTyped spec usable range (p ∷ []) → HasForm spec usable range p.variables (range p.expr) (expr_layer p.expr) × AreTyped spec usable range (held_parts range p.variables (expr_layer p.expr))
  inner_typed p (next _ _ form inner others) = (form, inner)

  pub split_typed : (ps qs : List Held) → AreTyped spec usable range (ps ++ qs) → AreTyped spec usable range ps × AreTyped spec usable range qs
  split_typed [] qs typed = (none, typed)
  split_typed (p ∷ ps) qs (next _ _ form inner others) = let rest = split_typed ps qs others in (next p ps form inner rest.0, rest.1)

pub split_all : {X : Type 0} (P : X → Type 0) (xs ys : List X) → AllByRecursion P (xs ++ ys) → AllByRecursion P xs × AllByRecursion P ys
split_all P [] ys h = (tt, h)
split_all P (x ∷ xs) ys h = let rest = split_all P xs ys h.1 in ((h.0, rest.0), rest.1)

pub all_from : {X : Type 0} (P : X → Type 0) (xs : List X) → ((x : X) → Contains xs x → P x) → AllByRecursion P xs
all_from P [] each = tt
all_from P (x ∷ xs) each = (each x (Contains_here x xs), all_from P xs (λ y among. each y (Contains_behind x xs y among)))
