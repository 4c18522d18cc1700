-- The test whether two expressions are the same decides it.
use Rattle.std.proofs.Common.{◌≡◌, ℕ, Bool, true, false, ◌&&◌, List, [], ◌∷◌, ◌++◌, map, Some, None, refl, sym, ap, ◌∙◌}
use Rattle.std.specs.Prelude.{◌==◌, bytes_eq}
use Rattle.std.specs.List.{AllByRecursion}
use Rattle.std.proofs.lemmas.Bool.{true≢false, and_parts, and_from}
use Rattle.std.proofs.lemmas.Bool.Decides.{Decides-eqb, Decides-int_eq}
use Rattle.std.proofs.lemmas.Slice.Eq.{bytes_eq-Decides}
use Rattle.flow_syntax.specs.declared.expr.ArithOp.{ArithOp}
use Rattle.flow_syntax.specs.declared.expr.ArithOp.TheVariants as arith_op
use Rattle.flow_syntax.specs.declared.expr.CompareOp.{CompareOp}
use Rattle.flow_syntax.specs.declared.expr.CompareOp.TheVariants as compare
use Rattle.flow_syntax.specs.declared.expr.Expr.{Expr, out-Expr, roll-Expr, roll-out-Expr}
use Rattle.flow_syntax.specs.declared.expr.ExprKind.{roll-ExprKind, roll-out-ExprKind}
use Rattle.flow_syntax.specs.declared.expr.ExprKind.TheOpen.{ExprKind-F}
use Rattle.flow_syntax.specs.declared.expr.SetOp.{SetOp}
use Rattle.flow_syntax.specs.declared.expr.SetOp.TheVariants as op
use Rattle.flow_syntax.specs.declared.expr.Side.{Side}
use Rattle.flow_syntax.specs.declared.expr.Side.TheVariants as side
use Rattle.flow_syntax.specs.Expressions.{ExprLayer, expr_layer, parts_in}
use Rattle.flow_syntax.specs.Parts.{part}
use Rattle.expr_meaning.specs.Same.{Test, is_same, same_layer, each_same, same_truth, same_side, same_set_op, same_arith, same_compare}
use Rattle.flow_syntax.proofs.Parts.{given_layer, by_parts_out, by_induction}

same_by_layer : (a b : Expr) → is_same a b ≡ (((out-Expr a).place == (out-Expr b).place) && same_layer (given_layer is_same (expr_layer a)) (expr_layer b))
same_by_layer a b = ap (λ (t : Test). t b) (by_parts_out (λ e layer f. ((out-Expr e).place == (out-Expr f).place) && same_layer layer (expr_layer f)) a)

-- expressions with the same place and layer are the same
from_layers : (a b : Expr) → (out-Expr a).place ≡ (out-Expr b).place → expr_layer a ≡ expr_layer b → a ≡ b
from_layers a b p l =
    sym (roll-out-Expr a) ∙ (λ i. roll-Expr (record { place = p i; kind = (sym (roll-out-ExprKind (out-Expr a).kind) ∙ ap roll-ExprKind l ∙ roll-out-ExprKind (out-Expr b).kind) i })) ∙ roll-out-Expr b

side_right : (s t : Side) → same_side s t ≡ true → s ≡ t
side_right side.This side.This h = refl
side_right side.Prev side.Prev h = refl
side_right side.Next side.Next h = refl
side_right _ _ h = absurd (true≢false (sym h))

set_op_right : (s t : SetOp) → same_set_op s t ≡ true → s ≡ t
set_op_right op.Join op.Join h = refl
set_op_right op.Union op.Union h = refl
set_op_right op.Inter op.Inter h = refl
set_op_right op.Minus op.Minus h = refl
set_op_right _ _ h = absurd (true≢false (sym h))

arith_right : (s t : ArithOp) → same_arith s t ≡ true → s ≡ t
arith_right arith_op.Add arith_op.Add h = refl
arith_right arith_op.Sub arith_op.Sub h = refl
arith_right arith_op.Mul arith_op.Mul h = refl
arith_right _ _ h = absurd (true≢false (sym h))

compare_right : (s t : CompareOp) → same_compare s t ≡ true → s ≡ t
compare_right compare.Eq compare.Eq h = refl
compare_right compare.Ne compare.Ne h = refl
compare_right compare.Lt compare.Lt h = refl
compare_right compare.Le compare.Le h = refl
compare_right _ _ h = absurd (true≢false (sym h))

truth_right : (a b : Bool) → same_truth a b ≡ true → a ≡ b
truth_right true b h = sym h
truth_right false true h = absurd (true≢false (sym h))
truth_right false false h = refl

text_right : (s t : List ℕ) → bytes_eq s t ≡ true → s ≡ t
text_right s t h = (bytes_eq-Decides s t).0 h

abbrev IsRight : Expr → Type 0
IsRight a = (b : Expr) → is_same a b ≡ true → a ≡ b

each_right : (es fs : List Expr) → AllByRecursion IsRight es → each_same (map (λ e. part e (is_same e)) es) fs ≡ true → es ≡ fs
each_right [] [] r h = refl
each_right (e ∷ es) (f ∷ fs) r h = let p = and_parts (is_same e f) (each_same (map (λ e. part e (is_same e)) es) fs) h in λ i. r.0 f p.0 i ∷ each_right es fs r.1 p.1 i
each_right [] (f ∷ fs) r h = absurd (true≢false (sym h))
each_right (e ∷ es) [] r h = absurd (true≢false (sym h))

split : (P : Expr → Type 0) (xs ys : List Expr) → AllByRecursion P (xs ++ ys) → AllByRecursion P xs × AllByRecursion P ys
split P [] ys h = (tt, h)
split P (x ∷ xs) ys h = let rest = split P xs ys h.1 in ((h.0, rest.0), rest.1)

abbrev SameLayer : ExprLayer → ExprLayer → Type 0
SameLayer x y = same_layer (given_layer is_same x) y ≡ true → x ≡ y

layer_right : (x y : ExprLayer) → AllByRecursion IsRight (parts_in x) → SameLayer x y
layer_right (ExprKind-F.Int n) (ExprKind-F.Int m) r h = ap ExprKind-F.Int ((Decides-int_eq n m).0 h)
layer_right (ExprKind-F.Str s) (ExprKind-F.Str t) r h = ap ExprKind-F.Str (text_right s t h)
layer_right (ExprKind-F.Truth a) (ExprKind-F.Truth b) r h = ap ExprKind-F.Truth (truth_right a b h)
layer_right ExprKind-F.Bottom ExprKind-F.Bottom r h = refl
layer_right ExprKind-F.Top ExprKind-F.Top r h = refl
layer_right ExprKind-F.Unreached ExprKind-F.Unreached r h = refl
layer_right (ExprKind-F.Ident x) (ExprKind-F.Ident y) r h = ap ExprKind-F.Ident (text_right x y h)
layer_right (ExprKind-F.Read p s) (ExprKind-F.Read q t) r h = let b = and_parts (bytes_eq p q) (same_side s t) h in λ i. ExprKind-F.Read (text_right p q b.0 i) (side_right s t b.1 i)
layer_right (ExprKind-F.Call f es) (ExprKind-F.Call g fs) r h = let b = and_parts (bytes_eq f g) _ h in λ i. ExprKind-F.Call (text_right f g b.0 i) (each_right es fs r b.1 i)
layer_right (ExprKind-F.MakeFlat a) (ExprKind-F.MakeFlat x) r h = ap ExprKind-F.MakeFlat (r.0 x h)
layer_right (ExprKind-F.Fst a) (ExprKind-F.Fst x) r h = ap ExprKind-F.Fst (r.0 x h)
layer_right (ExprKind-F.Snd a) (ExprKind-F.Snd x) r h = ap ExprKind-F.Snd (r.0 x h)
layer_right (ExprKind-F.Both a c) (ExprKind-F.Both x y) r h = let b = and_parts (is_same a x) (is_same c y) h in λ i. ExprKind-F.Both (r.0 x b.0 i) (r.1.0 y b.1 i)
layer_right (ExprKind-F.SetOf es) (ExprKind-F.SetOf fs) r h = ap ExprKind-F.SetOf (each_right es fs r h)
layer_right (ExprKind-F.Choose e x s None) (ExprKind-F.Choose f y t None) r h =
    let b = and_parts (is_same e f) _ h in let c = and_parts (bytes_eq x y) _ b.1 in let d = and_parts (is_same s t) _ c.1 in λ i. ExprKind-F.Choose (r.0 f b.0 i) (text_right x y c.0 i) (r.1.0 t d.0 i) None
layer_right (ExprKind-F.Choose e x s (Some g)) (ExprKind-F.Choose f y t (Some k)) r h =
    let b = and_parts (is_same e f) _ h in let c = and_parts (bytes_eq x y) _ b.1 in let d = and_parts (is_same s t) _ c.1 in λ i. ExprKind-F.Choose (r.0 f b.0 i) (text_right x y c.0 i) (r.1.0 t d.0 i) (Some (r.1.1.0 k d.1 i))
layer_right (ExprKind-F.Choose e x s None) (ExprKind-F.Choose f y t (Some k)) r h =
    let b = and_parts (is_same e f) _ h in let c = and_parts (bytes_eq x y) _ b.1 in let d = and_parts (is_same s t) _ c.1 in absurd (true≢false (sym d.1))
layer_right (ExprKind-F.Choose e x s (Some g)) (ExprKind-F.Choose f y t None) r h =
    let b = and_parts (is_same e f) _ h in let c = and_parts (bytes_eq x y) _ b.1 in let d = and_parts (is_same s t) _ c.1 in absurd (true≢false (sym d.1))
layer_right (ExprKind-F.Look a c) (ExprKind-F.Look x y) r h = let b = and_parts (is_same a x) (is_same c y) h in λ i. ExprKind-F.Look (r.0 x b.0 i) (r.1.0 y b.1 i)
layer_right (ExprKind-F.Update a c e) (ExprKind-F.Update x y z) r h = let b = and_parts (is_same a x) _ h in let d = and_parts (is_same c y) (is_same e z) b.1 in λ i. ExprKind-F.Update (r.0 x b.0 i) (r.1.0 y d.0 i) (r.1.1.0 z d.1 i)
layer_right (ExprKind-F.Set2 o a c) (ExprKind-F.Set2 q x y) r h = let b = and_parts (same_set_op o q) _ h in let d = and_parts (is_same a x) (is_same c y) b.1 in λ i. ExprKind-F.Set2 (set_op_right o q b.0 i) (r.0 x d.0 i) (r.1.0 y d.1 i)
layer_right (ExprKind-F.Arith o a c) (ExprKind-F.Arith q x y) r h = let b = and_parts (same_arith o q) _ h in let d = and_parts (is_same a x) (is_same c y) b.1 in λ i. ExprKind-F.Arith (arith_right o q b.0 i) (r.0 x d.0 i) (r.1.0 y d.1 i)
layer_right (ExprKind-F.Minus a) (ExprKind-F.Minus x) r h = ap ExprKind-F.Minus (r.0 x h)
layer_right (ExprKind-F.Compare o a c) (ExprKind-F.Compare q x y) r h = let b = and_parts (same_compare o q) _ h in let d = and_parts (is_same a x) (is_same c y) b.1 in λ i. ExprKind-F.Compare (compare_right o q b.0 i) (r.0 x d.0 i) (r.1.0 y d.1 i)
layer_right (ExprKind-F.Member a c) (ExprKind-F.Member x y) r h = let b = and_parts (is_same a x) (is_same c y) h in λ i. ExprKind-F.Member (r.0 x b.0 i) (r.1.0 y b.1 i)
layer_right (ExprKind-F.And a c) (ExprKind-F.And x y) r h = let b = and_parts (is_same a x) (is_same c y) h in λ i. ExprKind-F.And (r.0 x b.0 i) (r.1.0 y b.1 i)
layer_right (ExprKind-F.Or a c) (ExprKind-F.Or x y) r h = let b = and_parts (is_same a x) (is_same c y) h in λ i. ExprKind-F.Or (r.0 x b.0 i) (r.1.0 y b.1 i)
layer_right (ExprKind-F.Not a) (ExprKind-F.Not x) r h = ap ExprKind-F.Not (r.0 x h)
layer_right (ExprKind-F.Bind x a c) (ExprKind-F.Bind y u v) r h = let b = and_parts (bytes_eq x y) _ h in let d = and_parts (is_same a u) (is_same c v) b.1 in λ i. ExprKind-F.Bind (text_right x y b.0 i) (r.0 u d.0 i) (r.1.0 v d.1 i)
layer_right (ExprKind-F.If a c e) (ExprKind-F.If x y z) r h = let b = and_parts (is_same a x) _ h in let d = and_parts (is_same c y) (is_same e z) b.1 in λ i. ExprKind-F.If (r.0 x b.0 i) (r.1.0 y d.0 i) (r.1.1.0 z d.1 i)
layer_right (ExprKind-F.MapOf ks vs) (ExprKind-F.MapOf ls ws) r h =
    let b = and_parts (each_same (map (λ e. part e (is_same e)) ks) ls) _ h in let s = split IsRight ks vs r in λ i. ExprKind-F.MapOf (each_right ks ls s.0 b.0 i) (each_right vs ws s.1 b.1 i)
layer_right _ _ r h = absurd (true≢false (sym h))

-- what the test takes for the same is the same
pub same_right : (a : Expr) → IsRight a
same_right = by_induction IsRight (λ a parts b h.
    let p = and_parts ((out-Expr a).place == (out-Expr b).place) (same_layer (given_layer is_same (expr_layer a)) (expr_layer b)) (sym (same_by_layer a b) ∙ h) in
    from_layers a b ((Decides-eqb (out-Expr a).place (out-Expr b).place).0 p.0) (layer_right (expr_layer a) (expr_layer b) parts p.1))

-- AN EXPRESSION IS THE SAME AS ITSELF

abbrev IsItself : Expr → Type 0
IsItself a = is_same a a ≡ true

each_itself : (es : List Expr) → AllByRecursion IsItself es → each_same (map (λ e. part e (is_same e)) es) es ≡ true
each_itself [] r = refl
each_itself (e ∷ es) r = and_from (is_same e e) _ r.0 (each_itself es r.1)

text_itself : (s : List ℕ) → bytes_eq s s ≡ true
text_itself s = (bytes_eq-Decides s s).1 refl

side_itself : (s : Side) → same_side s s ≡ true
side_itself side.This = refl
side_itself side.Prev = refl
side_itself side.Next = refl

set_op_itself : (s : SetOp) → same_set_op s s ≡ true
set_op_itself op.Join = refl
set_op_itself op.Union = refl
set_op_itself op.Inter = refl
set_op_itself op.Minus = refl

arith_itself : (s : ArithOp) → same_arith s s ≡ true
arith_itself arith_op.Add = refl
arith_itself arith_op.Sub = refl
arith_itself arith_op.Mul = refl

compare_itself : (s : CompareOp) → same_compare s s ≡ true
compare_itself compare.Eq = refl
compare_itself compare.Ne = refl
compare_itself compare.Lt = refl
compare_itself compare.Le = refl

truth_itself : (b : Bool) → same_truth b b ≡ true
truth_itself true = refl
truth_itself false = refl

layer_itself : (x : ExprLayer) → AllByRecursion IsItself (parts_in x) → same_layer (given_layer is_same x) x ≡ true
layer_itself (ExprKind-F.Int n) r = (Decides-int_eq n n).1 refl
layer_itself (ExprKind-F.Str s) r = text_itself s
layer_itself (ExprKind-F.Truth b) r = truth_itself b
layer_itself ExprKind-F.Bottom r = refl
layer_itself ExprKind-F.Top r = refl
layer_itself ExprKind-F.Unreached r = refl
layer_itself (ExprKind-F.Ident x) r = text_itself x
layer_itself (ExprKind-F.Read p s) r = and_from _ _ (text_itself p) (side_itself s)
layer_itself (ExprKind-F.Call f es) r = and_from _ _ (text_itself f) (each_itself es r)
layer_itself (ExprKind-F.MakeFlat a) r = r.0
layer_itself (ExprKind-F.Fst a) r = r.0
layer_itself (ExprKind-F.Snd a) r = r.0
layer_itself (ExprKind-F.Both a b) r = and_from _ _ r.0 r.1.0
layer_itself (ExprKind-F.SetOf es) r = each_itself es r
layer_itself (ExprKind-F.Choose e x s None) r = and_from _ _ r.0 (and_from _ _ (text_itself x) (and_from _ _ r.1.0 refl))
layer_itself (ExprKind-F.Choose e x s (Some c)) r = and_from _ _ r.0 (and_from _ _ (text_itself x) (and_from _ _ r.1.0 r.1.1.0))
layer_itself (ExprKind-F.MapOf ks vs) r = let s = split IsItself ks vs r in and_from _ _ (each_itself ks s.0) (each_itself vs s.1)
layer_itself (ExprKind-F.Look a b) r = and_from _ _ r.0 r.1.0
layer_itself (ExprKind-F.Update a b c) r = and_from _ _ r.0 (and_from _ _ r.1.0 r.1.1.0)
layer_itself (ExprKind-F.Set2 o a b) r = and_from _ _ (set_op_itself o) (and_from _ _ r.0 r.1.0)
layer_itself (ExprKind-F.Arith o a b) r = and_from _ _ (arith_itself o) (and_from _ _ r.0 r.1.0)
layer_itself (ExprKind-F.Minus a) r = r.0
layer_itself (ExprKind-F.Compare o a b) r = and_from _ _ (compare_itself o) (and_from _ _ r.0 r.1.0)
layer_itself (ExprKind-F.Member a b) r = and_from _ _ r.0 r.1.0
layer_itself (ExprKind-F.And a b) r = and_from _ _ r.0 r.1.0
layer_itself (ExprKind-F.Or a b) r = and_from _ _ r.0 r.1.0
layer_itself (ExprKind-F.Not a) r = r.0
layer_itself (ExprKind-F.Bind x a b) r = and_from _ _ (text_itself x) (and_from _ _ r.0 r.1.0)
layer_itself (ExprKind-F.If a b c) r = and_from _ _ r.0 (and_from _ _ r.1.0 r.1.1.0)

pub same_itself : (a : Expr) → IsItself a
same_itself = by_induction IsItself (λ a parts. same_by_layer a a ∙ and_from _ _ ((Decides-eqb (out-Expr a).place (out-Expr a).place).1 refl) (layer_itself (expr_layer a) parts))
