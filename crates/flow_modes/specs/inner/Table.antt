-- The table of modes by the number of parts of a form.
use Rattle.std.specs.Prelude.{Bool, cond}
use Rattle.flow_syntax.specs.declared.expr.ExprKind.TheOpen.{ExprKind-F}
use Rattle.flow_syntax.specs.declared.expr.SetOp.{SetOp}
use Rattle.flow_syntax.specs.declared.expr.SetOp.TheVariants as op
use Rattle.flow_syntax.specs.declared.property.Mode.{Mode}
use Rattle.flow_syntax.specs.declared.property.Mode.TheVariants as mode
use Rattle.flow_syntax.specs.Expressions.{ExprLayer, expr_layer}
use Rattle.expr_meaning.specs.Modes.{combined, turned, needs, is_bottom_word}

abbrev pub one_mode : ExprLayer → Mode → Mode
one_mode (ExprKind-F.MakeFlat a) m = needs m mode.Fixed
one_mode (ExprKind-F.Minus a) m = needs m mode.Fixed
one_mode (ExprKind-F.Not a) m = turned m
one_mode layer m = m

abbrev pub set_mode : SetOp → Bool → Mode → Mode → Mode
set_mode op.Minus is_must m n = cond is_must (needs n m) (combined m (turned n))
set_mode o is_must m n = combined m n

abbrev pub two_mode : ExprLayer → Bool → Mode → Mode → Mode
two_mode (ExprKind-F.Look a b) is_must m n = needs n m
two_mode (ExprKind-F.Set2 o a b) is_must m n = set_mode o is_must m n
two_mode (ExprKind-F.Arith o a b) is_must m n = needs m (needs n mode.Fixed)
two_mode (ExprKind-F.Compare o a b) is_must m n = needs m (needs n mode.Fixed)
two_mode layer is_must m n = combined m n

abbrev pub member_mode : Bool → Mode → Mode → Mode
member_mode is_must m n = needs m (cond is_must (turned n) n)

abbrev pub three_mode : ExprLayer → Mode → Mode → Mode → Mode
three_mode (ExprKind-F.If a b c) m n o = cond (is_bottom_word (expr_layer c)) (combined m n) (needs m (combined n o))
three_mode layer m n o = needs n (combined m o)

abbrev pub choose_mode : Bool → Mode → Mode → Mode → Mode
choose_mode is_must m n o = needs m (combined n (cond is_must (turned o) o))
