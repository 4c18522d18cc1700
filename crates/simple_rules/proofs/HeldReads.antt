-- Which expressions hold a read, by their layers.
use Rattle.std.proofs.Common.{◌≡◌, ℕ, Bool, true, false, ◌||◌, List, [], ◌∷◌, ◌++◌, refl, sym, ap, ◌∙◌, inl, inr}
use Rattle.std.proofs.Math.Bool.{or-false}
use Rattle.std.specs.Prelude.{◌⊎◌}
use Rattle.std.specs.List.{list_any, flat_map}
use Rattle.flow_syntax.specs.declared.expr.ArithOp.{ArithOp}
use Rattle.flow_syntax.specs.declared.expr.CompareOp.{CompareOp}
use Rattle.flow_syntax.specs.declared.expr.SetOp.{SetOp}
use Rattle.flow_syntax.specs.declared.expr.Expr.{Expr, out-Expr}
use Rattle.flow_syntax.specs.declared.expr.ExprKind.{ExprKind, out-ExprKind}
use Rattle.flow_syntax.specs.declared.expr.ExprKind.TheOpen.{ExprKind-F}
use Rattle.flow_syntax.specs.declared.expr.ExprKind.TheVariants as exprs
use Rattle.flow_syntax.specs.Expressions.{ExprLayer, expr_layer, parts_in, parts_of, preorder}
use Rattle.flow_syntax.proofs.ExprLayers.{layer_of_call, layer_of_set_of, layer_of_make_flat, layer_of_fst, layer_of_snd, layer_of_minus, layer_of_not, layer_of_both, layer_of_look, layer_of_set2, layer_of_arith, layer_of_compare, layer_of_member, layer_of_and, layer_of_or, layer_of_bind, layer_of_update, layer_of_if}
use Rattle.flow_syntax.proofs.Preorders.{preorder_out}
use Rattle.simple_rules.specs.Simple.{is_read, holds_read}

either_again : (a b c : Bool) → (a || (b || c)) ≡ ((a || b) || c)
either_again true b c = refl
either_again false b c = refl

any_append : (xs ys : List Expr) → list_any (λ part. is_read (expr_layer part)) (xs ++ ys) ≡ (list_any (λ part. is_read (expr_layer part)) xs || list_any (λ part. is_read (expr_layer part)) ys)
any_append [] ys = refl
any_append (x ∷ xs) ys = ap (λ b. is_read (expr_layer x) || b) (any_append xs ys) ∙ either_again (is_read (expr_layer x)) _ _

any_parts : (es : List Expr) → list_any (λ part. is_read (expr_layer part)) (flat_map preorder es) ≡ list_any holds_read es
any_parts [] = refl
any_parts (e ∷ es) = any_append (preorder e) (flat_map preorder es) ∙ ap (λ b. holds_read e || b) (any_parts es)

-- an expression holds a read where it is a read, or where a part does
pub holds_read_out : (e : Expr) → holds_read e ≡ (is_read (expr_layer e) || list_any holds_read (parts_of e))
holds_read_out e = ap (λ es. list_any (λ part. is_read (expr_layer part)) es) (preorder_out e) ∙ ap (λ b. is_read (expr_layer e) || b) (any_parts (parts_of e))

-- the same of an expression with this layer
pub held_in : (e : Expr) (layer : ExprLayer) → expr_layer e ≡ layer → holds_read e ≡ (is_read layer || list_any holds_read (parts_in layer))
held_in e layer is = holds_read_out e ∙ ap (λ x. is_read x || list_any holds_read (parts_in x)) is

-- an expression of this kind, which is no read, holds a read where a part does
pub held_by_parts : (e : Expr) (k : ExprKind) (layer : ExprLayer) → (out-Expr e).kind ≡ k → out-ExprKind k ≡ layer → is_read layer ≡ false
    → list_any holds_read (parts_in layer) ≡ holds_read e
held_by_parts e k layer is made unread = sym (held_in e layer (ap out-ExprKind is ∙ made) ∙ ap (λ b. b || list_any holds_read (parts_in layer)) unread)

-- two lists hold a read where one of either does
pub held_by_lists : (x y : Bool) (xs ys : List Expr) → x ≡ list_any holds_read xs → y ≡ list_any holds_read ys → (x || y) ≡ list_any holds_read (xs ++ ys)
held_by_lists x y [] ys p q = ap (λ b. b || y) p ∙ q
held_by_lists x y (e ∷ xs) ys p q = ap (λ b. b || y) p ∙ sym (either_again (holds_read e) _ y) ∙ ap (λ b. holds_read e || b) (held_by_lists (list_any holds_read xs) y xs ys refl q)

-- two expressions hold a read where one of them does
pub held_by_two : (x y : Bool) (a b : Expr) → x ≡ holds_read a → y ≡ holds_read b → (x || y) ≡ list_any holds_read (a ∷ b ∷ [])
held_by_two x y a b p q = ap (λ z. z || y) p ∙ ap (λ z. holds_read a || z) (q ∙ sym (or-false (holds_read b)))

-- and two expressions before others
pub held_by_more : (x y z : Bool) (a b : Expr) (es : List Expr) → x ≡ holds_read a → y ≡ holds_read b → z ≡ list_any holds_read es
    → ((x || y) || z) ≡ list_any holds_read (a ∷ b ∷ es)
held_by_more x y z a b es p q r = sym (either_again x y z) ∙ ap (λ v. v || (y || z)) p ∙ ap (λ v. holds_read a || (v || z)) q ∙ ap (λ v. holds_read a || (holds_read b || v)) r

-- three
pub held_by_three : (x y z : Bool) (a b c : Expr) → x ≡ holds_read a → y ≡ holds_read b → z ≡ holds_read c → ((x || y) || z) ≡ list_any holds_read (a ∷ b ∷ c ∷ [])
held_by_three x y z a b c p q r = held_by_more x y z a b (c ∷ []) p q (r ∙ sym (or-false (holds_read c)))

-- WHAT THE FORMS HOLD

-- a form with a list of parts
pub held_list : (e : Expr) (parts : List Expr) → ((f : List ℕ) × ((out-Expr e).kind ≡ exprs.Call f parts)) ⊎ ((out-Expr e).kind ≡ exprs.SetOf parts) → list_any holds_read parts ≡ holds_read e
held_list e parts (inl h) = held_by_parts e _ (ExprKind-F.Call h.0 parts) h.1 (layer_of_call h.0 parts) refl
held_list e parts (inr h) = held_by_parts e _ (ExprKind-F.SetOf parts) h (layer_of_set_of parts) refl

-- with one part
pub held_one : (e a : Expr) → ((out-Expr e).kind ≡ exprs.MakeFlat a) ⊎ (((out-Expr e).kind ≡ exprs.Fst a) ⊎ (((out-Expr e).kind ≡ exprs.Snd a) ⊎ (((out-Expr e).kind ≡ exprs.Minus a) ⊎ ((out-Expr e).kind ≡ exprs.Not a)))) → holds_read a ≡ holds_read e
held_one e a (inl h) = sym (or-false (holds_read a)) ∙ held_by_parts e _ (ExprKind-F.MakeFlat a) h (layer_of_make_flat a) refl
held_one e a (inr (inl h)) = sym (or-false (holds_read a)) ∙ held_by_parts e _ (ExprKind-F.Fst a) h (layer_of_fst a) refl
held_one e a (inr (inr (inl h))) = sym (or-false (holds_read a)) ∙ held_by_parts e _ (ExprKind-F.Snd a) h (layer_of_snd a) refl
held_one e a (inr (inr (inr (inl h)))) = sym (or-false (holds_read a)) ∙ held_by_parts e _ (ExprKind-F.Minus a) h (layer_of_minus a) refl
held_one e a (inr (inr (inr (inr h)))) = sym (or-false (holds_read a)) ∙ held_by_parts e _ (ExprKind-F.Not a) h (layer_of_not a) refl

-- with two parts
pub held_two : (e a b : Expr)
    → ((out-Expr e).kind ≡ exprs.Both a b) ⊎ (((out-Expr e).kind ≡ exprs.Look a b) ⊎ (((o : SetOp) × ((out-Expr e).kind ≡ exprs.Set2 o a b)) ⊎ (((o : ArithOp) × ((out-Expr e).kind ≡ exprs.Arith o a b)) ⊎ (((o : CompareOp) × ((out-Expr e).kind ≡ exprs.Compare o a b)) ⊎ (((out-Expr e).kind ≡ exprs.Member a b) ⊎ (((out-Expr e).kind ≡ exprs.And a b) ⊎ (((out-Expr e).kind ≡ exprs.Or a b) ⊎ ((x : List ℕ) × ((out-Expr e).kind ≡ exprs.Bind x a b)))))))))
    → list_any holds_read (a ∷ b ∷ []) ≡ holds_read e
held_two e a b (inl h) = held_by_parts e _ (ExprKind-F.Both a b) h (layer_of_both a b) refl
held_two e a b (inr (inl h)) = held_by_parts e _ (ExprKind-F.Look a b) h (layer_of_look a b) refl
held_two e a b (inr (inr (inl h))) = held_by_parts e _ (ExprKind-F.Set2 h.0 a b) h.1 (layer_of_set2 h.0 a b) refl
held_two e a b (inr (inr (inr (inl h)))) = held_by_parts e _ (ExprKind-F.Arith h.0 a b) h.1 (layer_of_arith h.0 a b) refl
held_two e a b (inr (inr (inr (inr (inl h))))) = held_by_parts e _ (ExprKind-F.Compare h.0 a b) h.1 (layer_of_compare h.0 a b) refl
held_two e a b (inr (inr (inr (inr (inr (inl h)))))) = held_by_parts e _ (ExprKind-F.Member a b) h (layer_of_member a b) refl
held_two e a b (inr (inr (inr (inr (inr (inr (inl h))))))) = held_by_parts e _ (ExprKind-F.And a b) h (layer_of_and a b) refl
held_two e a b (inr (inr (inr (inr (inr (inr (inr (inl h)))))))) = held_by_parts e _ (ExprKind-F.Or a b) h (layer_of_or a b) refl
held_two e a b (inr (inr (inr (inr (inr (inr (inr (inr h)))))))) = held_by_parts e _ (ExprKind-F.Bind h.0 a b) h.1 (layer_of_bind h.0 a b) refl

-- with three parts
pub held_three : (e a b c : Expr) → ((out-Expr e).kind ≡ exprs.Update a b c) ⊎ ((out-Expr e).kind ≡ exprs.If a b c) → list_any holds_read (a ∷ b ∷ c ∷ []) ≡ holds_read e
held_three e a b c (inl h) = held_by_parts e _ (ExprKind-F.Update a b c) h (layer_of_update a b c) refl
held_three e a b c (inr h) = held_by_parts e _ (ExprKind-F.If a b c) h (layer_of_if a b c) refl
