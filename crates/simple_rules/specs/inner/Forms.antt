-- The forms of expressions, by which one walk tells whether an expression is simple and whether it holds a read.
use Rattle.std.specs.Prelude.{◌≡◌, true}
use Rattle.flow_syntax.specs.declared.expr.Expr.{Expr}
use Rattle.flow_syntax.specs.declared.expr.ExprKind.TheOpen.{ExprKind-F}
use Rattle.flow_syntax.specs.declared.expr.SetOp.TheVariants as operations
use Rattle.flow_syntax.specs.Expressions.{ExprLayer}
use Rattle.simple_rules.specs.declared.form.Form.{Form}
use Rattle.simple_rules.specs.declared.form.Form.TheVariants as forms
use Rattle.simple_rules.specs.Simple.{IsFixed, IsSimple, holds_read}

-- An expression has a form: it is fixed, or simple with a read, or not simple.
abbrev pub HasForm : Expr → Form → Type 0
HasForm e forms.Fixed = IsFixed e
HasForm e forms.Rising = IsSimple e × (holds_read e ≡ true)
HasForm e forms.Other = ¬ IsSimple e

-- the form of the join or union of expressions of two forms
abbrev pub joined_form : Form → Form → Form
joined_form forms.Fixed b = b
joined_form forms.Rising forms.Other = forms.Other
joined_form forms.Rising b = forms.Rising
joined_form forms.Other b = forms.Other

-- the form of an expression of the first form without one of the second
abbrev pub without_form : Form → Form → Form
without_form a forms.Fixed = a
without_form a b = forms.Other

-- A layer is a join, a union or a difference.
abbrev pub IsMerge : ExprLayer → Type 0
IsMerge (ExprKind-F.Set2 operations.Join a b) = Unit {0}
IsMerge (ExprKind-F.Set2 operations.Union a b) = Unit {0}
IsMerge (ExprKind-F.Set2 operations.Inter a b) = ⊥
IsMerge (ExprKind-F.Set2 operations.Minus a b) = Unit {0}
IsMerge _ = ⊥
