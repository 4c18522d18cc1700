-- The layer of each form of expression.
use Rattle.std.proofs.Common.{◌≡◌, ℕ, Bool, List, Option}
use Rattle.std.specs.Prelude.{ℤ}
use Rattle.flow_syntax.specs.declared.expr.ArithOp.{ArithOp}
use Rattle.flow_syntax.specs.declared.expr.CompareOp.{CompareOp}
use Rattle.flow_syntax.specs.declared.expr.Expr.{Expr}
use Rattle.flow_syntax.specs.declared.expr.ExprKind.{out-ExprKind, roll-ExprKind, out-roll-ExprKind}
use Rattle.flow_syntax.specs.declared.expr.ExprKind.TheVariants as exprs
use Rattle.flow_syntax.specs.declared.expr.ExprKind.TheOpen.{ExprKind-F}
use Rattle.flow_syntax.specs.declared.expr.SetOp.{SetOp}
use Rattle.flow_syntax.specs.declared.expr.Side.{Side}

pub layer_of_int : (n : ℤ) → out-ExprKind (exprs.Int n) ≡ ExprKind-F.Int n
unfolding roll-ExprKind out-ExprKind denote.Hole.Carrier.roll
layer_of_int n = out-roll-ExprKind (ExprKind-F.Int n)

pub layer_of_str : (s : List ℕ) → out-ExprKind (exprs.Str s) ≡ ExprKind-F.Str s
unfolding roll-ExprKind out-ExprKind denote.Hole.Carrier.roll
layer_of_str s = out-roll-ExprKind (ExprKind-F.Str s)

pub layer_of_truth : (b : Bool) → out-ExprKind (exprs.Truth b) ≡ ExprKind-F.Truth b
unfolding roll-ExprKind out-ExprKind denote.Hole.Carrier.roll
layer_of_truth b = out-roll-ExprKind (ExprKind-F.Truth b)

pub layer_of_bottom : out-ExprKind exprs.Bottom ≡ ExprKind-F.Bottom
unfolding roll-ExprKind out-ExprKind denote.Hole.Carrier.roll
layer_of_bottom = out-roll-ExprKind (ExprKind-F.Bottom)

pub layer_of_top : out-ExprKind exprs.Top ≡ ExprKind-F.Top
unfolding roll-ExprKind out-ExprKind denote.Hole.Carrier.roll
layer_of_top = out-roll-ExprKind (ExprKind-F.Top)

pub layer_of_unreached : out-ExprKind exprs.Unreached ≡ ExprKind-F.Unreached
unfolding roll-ExprKind out-ExprKind denote.Hole.Carrier.roll
layer_of_unreached = out-roll-ExprKind (ExprKind-F.Unreached)

pub layer_of_ident : (x : List ℕ) → out-ExprKind (exprs.Ident x) ≡ ExprKind-F.Ident x
unfolding roll-ExprKind out-ExprKind denote.Hole.Carrier.roll
layer_of_ident x = out-roll-ExprKind (ExprKind-F.Ident x)

pub layer_of_read : (p : List ℕ) (side : Side) → out-ExprKind (exprs.Read p side) ≡ ExprKind-F.Read p side
unfolding roll-ExprKind out-ExprKind denote.Hole.Carrier.roll
layer_of_read p side = out-roll-ExprKind (ExprKind-F.Read p side)

pub layer_of_call : (f : List ℕ) (es : List Expr) → out-ExprKind (exprs.Call f es) ≡ ExprKind-F.Call f es
unfolding roll-ExprKind out-ExprKind denote.Hole.Carrier.roll
layer_of_call f es = out-roll-ExprKind (ExprKind-F.Call f es)

pub layer_of_make_flat : (a : Expr) → out-ExprKind (exprs.MakeFlat a) ≡ ExprKind-F.MakeFlat a
unfolding roll-ExprKind out-ExprKind denote.Hole.Carrier.roll
layer_of_make_flat a = out-roll-ExprKind (ExprKind-F.MakeFlat a)

pub layer_of_fst : (a : Expr) → out-ExprKind (exprs.Fst a) ≡ ExprKind-F.Fst a
unfolding roll-ExprKind out-ExprKind denote.Hole.Carrier.roll
layer_of_fst a = out-roll-ExprKind (ExprKind-F.Fst a)

pub layer_of_snd : (a : Expr) → out-ExprKind (exprs.Snd a) ≡ ExprKind-F.Snd a
unfolding roll-ExprKind out-ExprKind denote.Hole.Carrier.roll
layer_of_snd a = out-roll-ExprKind (ExprKind-F.Snd a)

pub layer_of_both : (a b : Expr) → out-ExprKind (exprs.Both a b) ≡ ExprKind-F.Both a b
unfolding roll-ExprKind out-ExprKind denote.Hole.Carrier.roll
layer_of_both a b = out-roll-ExprKind (ExprKind-F.Both a b)

pub layer_of_set_of : (es : List Expr) → out-ExprKind (exprs.SetOf es) ≡ ExprKind-F.SetOf es
unfolding roll-ExprKind out-ExprKind denote.Hole.Carrier.roll
layer_of_set_of es = out-roll-ExprKind (ExprKind-F.SetOf es)

pub layer_of_choose : (e : Expr) (x : List ℕ) (s : Expr) (c : Option Expr) → out-ExprKind (exprs.Choose e x s c) ≡ ExprKind-F.Choose e x s c
unfolding roll-ExprKind out-ExprKind denote.Hole.Carrier.roll
layer_of_choose e x s c = out-roll-ExprKind (ExprKind-F.Choose e x s c)

pub layer_of_map_of : (ks vs : List Expr) → out-ExprKind (exprs.MapOf ks vs) ≡ ExprKind-F.MapOf ks vs
unfolding roll-ExprKind out-ExprKind denote.Hole.Carrier.roll
layer_of_map_of ks vs = out-roll-ExprKind (ExprKind-F.MapOf ks vs)

pub layer_of_look : (a b : Expr) → out-ExprKind (exprs.Look a b) ≡ ExprKind-F.Look a b
unfolding roll-ExprKind out-ExprKind denote.Hole.Carrier.roll
layer_of_look a b = out-roll-ExprKind (ExprKind-F.Look a b)

pub layer_of_update : (a b c : Expr) → out-ExprKind (exprs.Update a b c) ≡ ExprKind-F.Update a b c
unfolding roll-ExprKind out-ExprKind denote.Hole.Carrier.roll
layer_of_update a b c = out-roll-ExprKind (ExprKind-F.Update a b c)

pub layer_of_set2 : (o : SetOp) (a b : Expr) → out-ExprKind (exprs.Set2 o a b) ≡ ExprKind-F.Set2 o a b
unfolding roll-ExprKind out-ExprKind denote.Hole.Carrier.roll
layer_of_set2 o a b = out-roll-ExprKind (ExprKind-F.Set2 o a b)

pub layer_of_arith : (o : ArithOp) (a b : Expr) → out-ExprKind (exprs.Arith o a b) ≡ ExprKind-F.Arith o a b
unfolding roll-ExprKind out-ExprKind denote.Hole.Carrier.roll
layer_of_arith o a b = out-roll-ExprKind (ExprKind-F.Arith o a b)

pub layer_of_minus : (a : Expr) → out-ExprKind (exprs.Minus a) ≡ ExprKind-F.Minus a
unfolding roll-ExprKind out-ExprKind denote.Hole.Carrier.roll
layer_of_minus a = out-roll-ExprKind (ExprKind-F.Minus a)

pub layer_of_compare : (o : CompareOp) (a b : Expr) → out-ExprKind (exprs.Compare o a b) ≡ ExprKind-F.Compare o a b
unfolding roll-ExprKind out-ExprKind denote.Hole.Carrier.roll
layer_of_compare o a b = out-roll-ExprKind (ExprKind-F.Compare o a b)

pub layer_of_member : (a b : Expr) → out-ExprKind (exprs.Member a b) ≡ ExprKind-F.Member a b
unfolding roll-ExprKind out-ExprKind denote.Hole.Carrier.roll
layer_of_member a b = out-roll-ExprKind (ExprKind-F.Member a b)

pub layer_of_and : (a b : Expr) → out-ExprKind (exprs.And a b) ≡ ExprKind-F.And a b
unfolding roll-ExprKind out-ExprKind denote.Hole.Carrier.roll
layer_of_and a b = out-roll-ExprKind (ExprKind-F.And a b)

pub layer_of_or : (a b : Expr) → out-ExprKind (exprs.Or a b) ≡ ExprKind-F.Or a b
unfolding roll-ExprKind out-ExprKind denote.Hole.Carrier.roll
layer_of_or a b = out-roll-ExprKind (ExprKind-F.Or a b)

pub layer_of_not : (a : Expr) → out-ExprKind (exprs.Not a) ≡ ExprKind-F.Not a
unfolding roll-ExprKind out-ExprKind denote.Hole.Carrier.roll
layer_of_not a = out-roll-ExprKind (ExprKind-F.Not a)

pub layer_of_bind : (x : List ℕ) (a b : Expr) → out-ExprKind (exprs.Bind x a b) ≡ ExprKind-F.Bind x a b
unfolding roll-ExprKind out-ExprKind denote.Hole.Carrier.roll
layer_of_bind x a b = out-roll-ExprKind (ExprKind-F.Bind x a b)

pub layer_of_if : (a b c : Expr) → out-ExprKind (exprs.If a b c) ≡ ExprKind-F.If a b c
unfolding roll-ExprKind out-ExprKind denote.Hole.Carrier.roll
layer_of_if a b c = out-roll-ExprKind (ExprKind-F.If a b c)
