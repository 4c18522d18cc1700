-- Whether two expressions are the same, places included.
use Rattle.std.specs.Prelude.{Bool, true, false, ◌&&◌, ◌==◌, not, List, [], ◌∷◌, Option, Some, None, bytes_eq}
use Rattle.std.specs.Ordering.{int_eq}
use Rattle.flow_syntax.specs.declared.expr.ArithOp.{ArithOp}
use Rattle.flow_syntax.specs.declared.expr.ArithOp.TheVariants as arith_op
use Rattle.flow_syntax.specs.declared.expr.CompareOp.{CompareOp}
use Rattle.flow_syntax.specs.declared.expr.CompareOp.TheVariants as compare
use Rattle.flow_syntax.specs.declared.expr.Expr.{Expr, out-Expr}
use Rattle.flow_syntax.specs.declared.expr.ExprKind.TheOpen.{ExprKind-F}
use Rattle.flow_syntax.specs.declared.expr.SetOp.{SetOp}
use Rattle.flow_syntax.specs.declared.expr.SetOp.TheVariants as op
use Rattle.flow_syntax.specs.declared.expr.Side.{Side}
use Rattle.flow_syntax.specs.declared.expr.Side.TheVariants as side
use Rattle.flow_syntax.specs.Expressions.{ExprLayer, expr_layer}
use Rattle.flow_syntax.specs.Parts.{Part, PartLayer, by_parts}

-- a test of expressions
abbrev pub Test : Type 0
Test = Expr → Bool

abbrev pub same_truth : Bool → Bool → Bool
same_truth true b = b
same_truth false b = not b

abbrev pub same_side : Side → Side → Bool
same_side side.This side.This = true
same_side side.Prev side.Prev = true
same_side side.Next side.Next = true
same_side _ _ = false

abbrev pub same_set_op : SetOp → SetOp → Bool
same_set_op op.Join op.Join = true
same_set_op op.Union op.Union = true
same_set_op op.Inter op.Inter = true
same_set_op op.Minus op.Minus = true
same_set_op _ _ = false

abbrev pub same_arith : ArithOp → ArithOp → Bool
same_arith arith_op.Add arith_op.Add = true
same_arith arith_op.Sub arith_op.Sub = true
same_arith arith_op.Mul arith_op.Mul = true
same_arith _ _ = false

abbrev pub same_compare : CompareOp → CompareOp → Bool
same_compare compare.Eq compare.Eq = true
same_compare compare.Ne compare.Ne = true
same_compare compare.Lt compare.Lt = true
same_compare compare.Le compare.Le = true
same_compare _ _ = false

abbrev pub each_same : List (Part Test) → List Expr → Bool
each_same [] [] = true
each_same (p ∷ ps) (e ∷ es) = p.given e && each_same ps es
each_same _ _ = false

abbrev pub option_same : Option (Part Test) → Option Expr → Bool
option_same None None = true
option_same (Some p) (Some e) = p.given e
option_same _ _ = false

abbrev pub same_layer : PartLayer Test → ExprLayer → Bool
same_layer (ExprKind-F.Int n) (ExprKind-F.Int m) = int_eq n m
same_layer (ExprKind-F.Str s) (ExprKind-F.Str t) = bytes_eq s t
same_layer (ExprKind-F.Truth a) (ExprKind-F.Truth b) = same_truth a b
same_layer ExprKind-F.Bottom ExprKind-F.Bottom = true
same_layer ExprKind-F.Top ExprKind-F.Top = true
same_layer ExprKind-F.Unreached ExprKind-F.Unreached = true
same_layer (ExprKind-F.Ident x) (ExprKind-F.Ident y) = bytes_eq x y
same_layer (ExprKind-F.Read p s) (ExprKind-F.Read q t) = bytes_eq p q && same_side s t
same_layer (ExprKind-F.Call f es) (ExprKind-F.Call g fs) = bytes_eq f g && each_same es fs
same_layer (ExprKind-F.MakeFlat a) (ExprKind-F.MakeFlat x) = a.given x
same_layer (ExprKind-F.Fst a) (ExprKind-F.Fst x) = a.given x
same_layer (ExprKind-F.Snd a) (ExprKind-F.Snd x) = a.given x
same_layer (ExprKind-F.Both a b) (ExprKind-F.Both x y) = a.given x && b.given y
same_layer (ExprKind-F.SetOf es) (ExprKind-F.SetOf fs) = each_same es fs
same_layer (ExprKind-F.Choose e x s c) (ExprKind-F.Choose f y t d) = e.given f && (bytes_eq x y && (s.given t && option_same c d))
same_layer (ExprKind-F.MapOf ks vs) (ExprKind-F.MapOf ls ws) = each_same ks ls && each_same vs ws
same_layer (ExprKind-F.Look a b) (ExprKind-F.Look x y) = a.given x && b.given y
same_layer (ExprKind-F.Update a b c) (ExprKind-F.Update x y z) = a.given x && (b.given y && c.given z)
same_layer (ExprKind-F.Set2 o a b) (ExprKind-F.Set2 q x y) = same_set_op o q && (a.given x && b.given y)
same_layer (ExprKind-F.Arith o a b) (ExprKind-F.Arith q x y) = same_arith o q && (a.given x && b.given y)
same_layer (ExprKind-F.Minus a) (ExprKind-F.Minus x) = a.given x
same_layer (ExprKind-F.Compare o a b) (ExprKind-F.Compare q x y) = same_compare o q && (a.given x && b.given y)
same_layer (ExprKind-F.Member a b) (ExprKind-F.Member x y) = a.given x && b.given y
same_layer (ExprKind-F.And a b) (ExprKind-F.And x y) = a.given x && b.given y
same_layer (ExprKind-F.Or a b) (ExprKind-F.Or x y) = a.given x && b.given y
same_layer (ExprKind-F.Not a) (ExprKind-F.Not x) = a.given x
same_layer (ExprKind-F.Bind x a b) (ExprKind-F.Bind y c d) = bytes_eq x y && (a.given c && b.given d)
same_layer (ExprKind-F.If a b c) (ExprKind-F.If x y z) = a.given x && (b.given y && c.given z)
same_layer _ _ = false

-- whether two expressions are the same
abbrev pub is_same : Expr → Expr → Bool
is_same = by_parts (λ e layer f. ((out-Expr e).place == (out-Expr f).place) && same_layer layer (expr_layer f))
