-- The forms of joins, unions and differences, by the forms of their operands.
use Rattle.std.proofs.Common.{◌≡◌, Bool, true, false, ◌||◌, IsTrue, refl, sym, ap, subst, ◌∙◌}
use Rattle.std.proofs.lemmas.Bool.{false≢true, true≢false}
use Rattle.std.proofs.Math.Bool.{or-false}
use Rattle.std.specs.List.{list_any}
use Rattle.flow_syntax.specs.declared.expr.Expr.{Expr}
use Rattle.flow_syntax.specs.declared.expr.ExprKind.TheOpen.{ExprKind-F}
use Rattle.flow_syntax.specs.declared.expr.SetOp.{SetOp}
use Rattle.flow_syntax.specs.declared.expr.SetOp.TheVariants as operations
use Rattle.flow_syntax.specs.Expressions.{ExprLayer, expr_layer, parts_in}
use Rattle.simple_rules.specs.declared.form.Form.{Form}
use Rattle.simple_rules.specs.declared.form.Form.TheVariants as forms
use Rattle.simple_rules.specs.inner.Forms.{HasForm, joined_form, without_form}
use Rattle.simple_rules.specs.Simple.{IsFixed, IsSimple, fixed, read, joined, united, without, holds_read, is_read}
use Rattle.simple_rules.proofs.HeldReads.{held_in}

abbrev operation_of : ExprLayer → SetOp
operation_of (ExprKind-F.Set2 operation a b) = operation
operation_of _ = operations.Join

abbrev left_of : Expr → ExprLayer → Expr
left_of other (ExprKind-F.Set2 operation a b) = a
left_of other _ = other

abbrev right_of : Expr → ExprLayer → Expr
right_of other (ExprKind-F.Set2 operation a b) = b
right_of other _ = other

-- whether an operation is a join or a union
abbrev pub is_joining : SetOp → Bool
is_joining operations.Join = true
is_joining operations.Union = true
is_joining operations.Inter = false
is_joining operations.Minus = false

neither_left : (x y : Bool) → (x || y) ≡ false → x ≡ false
neither_left true y h = h
neither_left false y h = refl

neither_right : (x y : Bool) → (x || y) ≡ false → y ≡ false
neither_right true y h = absurd (true≢false h)
neither_right false y h = h

either_true : (x : Bool) → (x || true) ≡ true
either_true true = refl
either_true false = refl

module _ (e a b : Expr) (operation : SetOp) (is : expr_layer e ≡ ExprKind-F.Set2 operation a b) where
  held : holds_read e ≡ (holds_read a || holds_read b)
  held = held_in e (ExprKind-F.Set2 operation a b) is ∙ ap (λ x. holds_read a || x) (or-false (holds_read b))

  no_read : IsTrue (is_read (expr_layer e)) → ⊥
  no_read h = false≢true (sym (ap is_read is) ∙ h)

  both_fixed : IsFixed a → IsFixed b → IsFixed e
  both_fixed p q = held ∙ ap (λ x. x || holds_read b) p ∙ q

  left_fixed : IsFixed e → IsFixed a
  left_fixed h = neither_left (holds_read a) (holds_read b) (sym held ∙ h)

  right_fixed : IsFixed e → IsFixed b
  right_fixed h = neither_right (holds_read a) (holds_read b) (sym held ∙ h)

  held_left : holds_read a ≡ true → holds_read e ≡ true
  held_left p = held ∙ ap (λ x. x || holds_read b) p

  held_right : holds_read b ≡ true → holds_read e ≡ true
  held_right q = held ∙ ap (λ x. holds_read a || x) q ∙ either_true (holds_read a)

-- a join or union is simple only where both operands are
operands_simple : (e a b : Expr) (operation : SetOp) → expr_layer e ≡ ExprKind-F.Set2 operation a b → is_joining operation ≡ true → IsSimple e → IsSimple a × IsSimple b
operands_simple _ a b operation is joins (fixed e h) = (fixed a (left_fixed e a b operation is h), fixed b (right_fixed e a b operation is h))
operands_simple _ a b operation is joins (read e h) = absurd (no_read e a b operation is h)
operands_simple _ a b operation is joins (joined e x y layer p q) =
    let same : ExprKind-F.Set2 operations.Join x y ≡ ExprKind-F.Set2 operation a b = sym layer ∙ is in
    (subst IsSimple (ap (left_of a) same) p, subst IsSimple (ap (right_of b) same) q)
operands_simple _ a b operation is joins (united e x y layer p q) =
    let same : ExprKind-F.Set2 operations.Union x y ≡ ExprKind-F.Set2 operation a b = sym layer ∙ is in
    (subst IsSimple (ap (left_of a) same) p, subst IsSimple (ap (right_of b) same) q)
operands_simple _ a b operation is joins (without e x y layer p q) =
    let same : ExprKind-F.Set2 operations.Minus x y ≡ ExprKind-F.Set2 operation a b = sym layer ∙ is in
    absurd (false≢true (ap (λ l. is_joining (operation_of l)) same ∙ joins))

-- a difference is simple only where its left operand is and its right one is fixed
difference_simple : (e a b : Expr) → expr_layer e ≡ ExprKind-F.Set2 operations.Minus a b → IsSimple e → IsSimple a × IsFixed b
difference_simple _ a b is (fixed e h) = (fixed a (left_fixed e a b operations.Minus is h), right_fixed e a b operations.Minus is h)
difference_simple _ a b is (read e h) = absurd (no_read e a b operations.Minus is h)
difference_simple _ a b is (joined e x y layer p q) = absurd (true≢false (ap (λ l. is_joining (operation_of l)) (sym layer ∙ is)))
difference_simple _ a b is (united e x y layer p q) = absurd (true≢false (ap (λ l. is_joining (operation_of l)) (sym layer ∙ is)))
difference_simple _ a b is (without e x y layer p q) =
    let same : ExprKind-F.Set2 operations.Minus x y ≡ ExprKind-F.Set2 operations.Minus a b = sym layer ∙ is in
    (subst IsSimple (ap (left_of a) same) p, subst IsFixed (ap (right_of b) same) q)

joining_simple : (e a b : Expr) (operation : SetOp) → expr_layer e ≡ ExprKind-F.Set2 operation a b → is_joining operation ≡ true → IsSimple a → IsSimple b → IsSimple e
joining_simple e a b operations.Join is joins p q = joined e a b is p q
joining_simple e a b operations.Union is joins p q = united e a b is p q
joining_simple e a b operations.Inter is joins p q = absurd (false≢true joins)
joining_simple e a b operations.Minus is joins p q = absurd (false≢true joins)

-- the form of a join or union
pub form_of_joined : (e a b : Expr) (operation : SetOp) → expr_layer e ≡ ExprKind-F.Set2 operation a b → is_joining operation ≡ true
    → (f g : Form) → HasForm a f → HasForm b g → HasForm e (joined_form f g)
form_of_joined e a b o is joins forms.Fixed forms.Fixed p q = both_fixed e a b o is p q
form_of_joined e a b o is joins forms.Fixed forms.Rising p q = (joining_simple e a b o is joins (fixed a p) q.0, held_right e a b o is q.1)
form_of_joined e a b o is joins forms.Fixed forms.Other p q = λ s. q (operands_simple e a b o is joins s).1
form_of_joined e a b o is joins forms.Rising forms.Fixed p q = (joining_simple e a b o is joins p.0 (fixed b q), held_left e a b o is p.1)
form_of_joined e a b o is joins forms.Rising forms.Rising p q = (joining_simple e a b o is joins p.0 q.0, held_left e a b o is p.1)
form_of_joined e a b o is joins forms.Rising forms.Other p q = λ s. q (operands_simple e a b o is joins s).1
form_of_joined e a b o is joins forms.Other g p q = λ s. p (operands_simple e a b o is joins s).0

-- the form of a difference
pub form_of_difference : (e a b : Expr) → expr_layer e ≡ ExprKind-F.Set2 operations.Minus a b → (f g : Form) → HasForm a f → HasForm b g → HasForm e (without_form f g)
form_of_difference e a b is forms.Fixed forms.Fixed p q = both_fixed e a b operations.Minus is p q
form_of_difference e a b is forms.Rising forms.Fixed p q = (without e a b is p.0 q, held_left e a b operations.Minus is p.1)
form_of_difference e a b is forms.Other forms.Fixed p q = λ s. p (difference_simple e a b is s).0
form_of_difference e a b is f forms.Rising p q = λ s. true≢false (sym q.1 ∙ (difference_simple e a b is s).1)
form_of_difference e a b is f forms.Other p q = λ s. q (fixed b (difference_simple e a b is s).1)

-- the form of a read
pub form_of_read : (e : Expr) (layer : ExprLayer) → expr_layer e ≡ layer → is_read layer ≡ true → IsSimple e × (holds_read e ≡ true)
form_of_read e layer is h = (read e (ap is_read is ∙ h), held_in e layer is ∙ ap (λ b. b || list_any holds_read (parts_in layer)) h)
