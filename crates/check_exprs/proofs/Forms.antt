-- Each form of expression: its parts in the order in which they are checked, and what it gives.
use Rattle.std.proofs.Common.{◌≡◌, ℕ, List, [], ◌∷◌, length, map, Option, Some, None, refl, sym, ap, subst, ◌∙◌, inl, inr}
use Rattle.std.specs.Prelude.{◌⊎◌, ℤ, Bool}
use Rattle.flow_syntax.specs.declared.expr.ArithOp.{ArithOp}
use Rattle.flow_syntax.specs.declared.expr.CompareOp.{CompareOp}
use Rattle.flow_syntax.specs.declared.expr.Expr.{Expr, out-Expr}
use Rattle.flow_syntax.specs.declared.expr.ExprKind.{ExprKind, out-ExprKind, roll-ExprKind, roll-out-ExprKind}
use Rattle.flow_syntax.specs.declared.expr.ExprKind.TheOpen.{ExprKind-F}
use Rattle.flow_syntax.specs.declared.expr.ExprKind.TheVariants as exprs
use Rattle.flow_syntax.specs.declared.expr.SetOp.{SetOp}
use Rattle.flow_syntax.specs.declared.expr.Side.{Side}
use Rattle.flow_syntax.specs.declared.spec.Spec.{Spec}
use Rattle.flow_syntax.specs.Expressions.{ExprLayer, expr_layer}
use Rattle.flow_syntax.specs.Types.{Sort, truth, any_flat, any_set}
use Rattle.flow_syntax.specs.Scopes.{Scope, with_variable}
use Rattle.flow_syntax.specs.Inferred.{Inferred, is as inferred_as, not_inferable, function_named, inferred, inferred_parts, form_inferred, set_sort, flat_sort}
use Rattle.flow_syntax.specs.Expected.{Expected, inferred_in, known_sort, expected_source, expected_element, expected_key, expected_value, expected_same}
use Rattle.flow_syntax.specs.Occurrences.{Occurrence, arguments, declared_arguments, occurrence, parts_in, expected_truth, chosen_sort, optional}
use Rattle.flow_syntax.proofs.ExprLayers.{layer_of_int, layer_of_str, layer_of_truth, layer_of_bottom, layer_of_top, layer_of_unreached, layer_of_ident, layer_of_read, layer_of_call, layer_of_both, layer_of_choose, layer_of_map_of, layer_of_look, layer_of_update, layer_of_set2, layer_of_arith, layer_of_compare, layer_of_member, layer_of_and, layer_of_or, layer_of_bind, layer_of_if}
use Rattle.check_exprs.specs.declared.notes.Notes.{Notes}
use Rattle.check_exprs.specs.inner.Noted.{IsNoted, AreNoted, IsNotedBefore, noted_types}
use Rattle.check_exprs.specs.inner.Plans.{expected_first_part, expected_second_part, expected_third_part, leaf_inferred, infer_made, infer_two}
use Rattle.check_exprs.specs.inner.Checked.{HasCheckedArguments, HasCheckedParts, IsBind, IsChecked, IsChoose, IsMapOf, IsMember, IsSetOf}
use Rattle.check_exprs.proofs.Parts.{none_noted, part_ahead, part_noted, part_noted_then, parts_noted}

-- A layer has no parts.
pub record IsLeaf (layer : ExprLayer) : Type 0 where
  pub parts : (spec : Spec) (s : Scope) (w : Expected) → parts_in spec s w layer ≡ []
  pub infers : (spec : Spec) (s : Scope) → form_inferred spec s (inferred_parts spec s layer) ≡ leaf_inferred spec s layer

-- A layer has these two parts.
pub record IsTwo (a b : Expr) (layer : ExprLayer) : Type 0 where
  pub parts : (spec : Spec) (s : Scope) (w : Expected) → parts_in spec s w layer ≡ occurrence s (expected_first_part w layer) a ∷ occurrence s (expected_second_part w (inferred spec s a) layer) b ∷ []
  pub infers : (spec : Spec) (s : Scope) → form_inferred spec s (inferred_parts spec s layer) ≡ infer_two (inferred spec s a) (inferred spec s b) layer

-- A layer has these three parts.
pub record IsThree (a b c : Expr) (layer : ExprLayer) : Type 0 where
  pub parts : (spec : Spec) (s : Scope) (w : Expected) → parts_in spec s w layer
      ≡ occurrence s (expected_first_part w layer) a ∷ occurrence s (expected_second_part w (inferred spec s a) layer) b ∷ occurrence s (expected_third_part w (inferred spec s a) layer) c ∷ []
  pub infers : (spec : Spec) (s : Scope) → form_inferred spec s (inferred_parts spec s layer) ≡ infer_two (inferred spec s a) (inferred spec s b) layer

by_layer : (P : ExprLayer → Type 0) (k : ExprKind) (layer : ExprLayer) (made : ExprKind) → k ≡ made → out-ExprKind made ≡ layer → P layer → P (out-ExprKind k)
by_layer P k layer made is out h = subst P (sym (ap out-ExprKind is ∙ out)) h

leaf : (k made : ExprKind) (layer : ExprLayer) → k ≡ made → out-ExprKind made ≡ layer → IsLeaf layer → IsLeaf (out-ExprKind k)
leaf k made layer is out h = by_layer IsLeaf k layer made is out h

-- the forms without parts: the values
pub leaf_value : (k : ExprKind) → ((n : ℤ) × (k ≡ exprs.Int n)) ⊎ (((x : List ℕ) × (k ≡ exprs.Str x)) ⊎ (((b : Bool) × (k ≡ exprs.Truth b)) ⊎ (k ≡ exprs.Bottom))) → IsLeaf (out-ExprKind k)
leaf_value k (inl h) = leaf k _ _ h.1 (layer_of_int h.0) (record { parts = λ spec s w. refl; infers = λ spec s. refl })
leaf_value k (inr (inl h)) = leaf k _ _ h.1 (layer_of_str h.0) (record { parts = λ spec s w. refl; infers = λ spec s. refl })
leaf_value k (inr (inr (inl h))) = leaf k _ _ h.1 (layer_of_truth h.0) (record { parts = λ spec s w. refl; infers = λ spec s. refl })
leaf_value k (inr (inr (inr h))) = leaf k _ _ h layer_of_bottom (record { parts = λ spec s w. refl; infers = λ spec s. refl })

-- the others
pub leaf_name : (k : ExprKind) → (k ≡ exprs.Top) ⊎ ((k ≡ exprs.Unreached) ⊎ (((x : List ℕ) × (k ≡ exprs.Ident x)) ⊎ ((p : List ℕ) × (side : Side) × (k ≡ exprs.Read p side)))) → IsLeaf (out-ExprKind k)
leaf_name k (inl h) = leaf k _ _ h layer_of_top (record { parts = λ spec s w. refl; infers = λ spec s. refl })
leaf_name k (inr (inl h)) = leaf k _ _ h layer_of_unreached (record { parts = λ spec s w. refl; infers = λ spec s. refl })
leaf_name k (inr (inr (inl h))) = leaf k _ _ h.1 (layer_of_ident h.0) (record { parts = λ spec s w. refl; infers = λ spec s. refl })
leaf_name k (inr (inr (inr h))) = leaf k _ _ h.2 (layer_of_read h.0 h.1) (record { parts = λ spec s w. refl; infers = λ spec s. refl })

two_both : (k : ExprKind) (a b : Expr) → k ≡ exprs.Both a b → IsTwo a b (out-ExprKind k)
two_both k a b is = by_layer (IsTwo a b) k _ _ is (layer_of_both a b) (record { parts = λ spec s w. refl; infers = λ spec s. refl })

two_look : (k : ExprKind) (a b : Expr) → k ≡ exprs.Look a b → IsTwo a b (out-ExprKind k)
two_look k a b is = by_layer (IsTwo a b) k _ _ is (layer_of_look a b) (record { parts = λ spec s w. refl; infers = λ spec s. refl })

two_set2 : (k : ExprKind) (o : SetOp) (a b : Expr) → k ≡ exprs.Set2 o a b → IsTwo a b (out-ExprKind k)
two_set2 k o a b is = by_layer (IsTwo a b) k _ _ is (layer_of_set2 o a b) (record { parts = λ spec s w. refl; infers = λ spec s. refl })

two_arith : (k : ExprKind) (o : ArithOp) (a b : Expr) → k ≡ exprs.Arith o a b → IsTwo a b (out-ExprKind k)
two_arith k o a b is = by_layer (IsTwo a b) k _ _ is (layer_of_arith o a b) (record { parts = λ spec s w. refl; infers = λ spec s. refl })

two_compare : (k : ExprKind) (o : CompareOp) (a b : Expr) → k ≡ exprs.Compare o a b → IsTwo a b (out-ExprKind k)
two_compare k o a b is = by_layer (IsTwo a b) k _ _ is (layer_of_compare o a b) (record { parts = λ spec s w. refl; infers = λ spec s. refl })

two_and : (k : ExprKind) (a b : Expr) → k ≡ exprs.And a b → IsTwo a b (out-ExprKind k)
two_and k a b is = by_layer (IsTwo a b) k _ _ is (layer_of_and a b) (record { parts = λ spec s w. refl; infers = λ spec s. refl })

two_or : (k : ExprKind) (a b : Expr) → k ≡ exprs.Or a b → IsTwo a b (out-ExprKind k)
two_or k a b is = by_layer (IsTwo a b) k _ _ is (layer_of_or a b) (record { parts = λ spec s w. refl; infers = λ spec s. refl })

three_update : (k : ExprKind) (a b c : Expr) → k ≡ exprs.Update a b c → IsThree a b c (out-ExprKind k)
three_update k a b c is = by_layer (IsThree a b c) k _ _ is (layer_of_update a b c) (record { parts = λ spec s w. refl; infers = λ spec s. refl })

three_if : (k : ExprKind) (a b c : Expr) → k ≡ exprs.If a b c → IsThree a b c (out-ExprKind k)
three_if k a b c is = by_layer (IsThree a b c) k _ _ is (layer_of_if a b c) (record { parts = λ spec s w. refl; infers = λ spec s. refl })

-- the forms with two parts
pub two_of : (k : ExprKind) (a b x y : Expr) → x ≡ a → y ≡ b
    → (k ≡ exprs.Both a b) ⊎ ((k ≡ exprs.Look a b) ⊎ (((o : SetOp) × (k ≡ exprs.Set2 o a b)) ⊎ (((o : ArithOp) × (k ≡ exprs.Arith o a b)) ⊎ (((o : CompareOp) × (k ≡ exprs.Compare o a b)) ⊎ ((k ≡ exprs.And a b) ⊎ (k ≡ exprs.Or a b))))))
    → IsTwo x y (out-ExprKind k)
two_of k a b x y p q is = subst (λ (z : Expr). IsTwo z y (out-ExprKind k)) (sym p) (subst (λ (z : Expr). IsTwo a z (out-ExprKind k)) (sym q) (by is))
  where
    by : (k ≡ exprs.Both a b) ⊎ ((k ≡ exprs.Look a b) ⊎ (((o : SetOp) × (k ≡ exprs.Set2 o a b)) ⊎ (((o : ArithOp) × (k ≡ exprs.Arith o a b)) ⊎ (((o : CompareOp) × (k ≡ exprs.Compare o a b)) ⊎ ((k ≡ exprs.And a b) ⊎ (k ≡ exprs.Or a b))))))
        → IsTwo a b (out-ExprKind k)
    by (inl h) = two_both k a b h
    by (inr (inl h)) = two_look k a b h
    by (inr (inr (inl h))) = two_set2 k h.0 a b h.1
    by (inr (inr (inr (inl h)))) = two_arith k h.0 a b h.1
    by (inr (inr (inr (inr (inl h))))) = two_compare k h.0 a b h.1
    by (inr (inr (inr (inr (inr (inl h)))))) = two_and k a b h
    by (inr (inr (inr (inr (inr (inr h)))))) = two_or k a b h

-- the forms with three parts
pub three_of : (k : ExprKind) (a b c x y z : Expr) → x ≡ a → y ≡ b → z ≡ c → (k ≡ exprs.Update a b c) ⊎ (k ≡ exprs.If a b c) → IsThree x y z (out-ExprKind k)
three_of k a b c x y z p q r is =
    subst (λ (v : Expr). IsThree v y z (out-ExprKind k)) (sym p) (subst (λ (v : Expr). IsThree a v z (out-ExprKind k)) (sym q) (subst (λ (v : Expr). IsThree a b v (out-ExprKind k)) (sym r) (by is)))
  where
    by : (k ≡ exprs.Update a b c) ⊎ (k ≡ exprs.If a b c) → IsThree a b c (out-ExprKind k)
    by (inl h) = three_update k a b c h
    by (inr h) = three_if k a b c h

module _ (e : Expr) where
  -- the forms of listed elements
  pub listed_form : ((es : List Expr) × ((out-Expr e).kind ≡ exprs.SetOf es)) ⊎ ((ks : List Expr) × (vs : List Expr) × ((out-Expr e).kind ≡ exprs.MapOf ks vs)) → IsSetOf e ⊎ IsMapOf e
  listed_form (inl h) = inl (record { elements = h.0; is = h.1 })
  listed_form (inr h) = inr (record { keys = h.0; values = h.1; is = h.2 })

  -- the forms over elements
  pub over_elements : ((a : Expr) × (s : Expr) × ((out-Expr e).kind ≡ exprs.Member a s))
      ⊎ (((a : Expr) × (x : List ℕ) × (s : Expr) × (c : Option Expr) × ((out-Expr e).kind ≡ exprs.Choose a x s c)) ⊎ ((x : List ℕ) × (a : Expr) × (b : Expr) × ((out-Expr e).kind ≡ exprs.Bind x a b)))
      → IsMember e ⊎ (IsChoose e ⊎ IsBind e)
  over_elements (inl h) = inl (record { element = h.0; set = h.1; is = h.2 })
  over_elements (inr (inl h)) = inr (inl (record { element = h.0; name = h.1; set = h.2; condition = h.3; is = h.4 }))
  over_elements (inr (inr h)) = inr (inr (record { name = h.0; flat = h.1; body = h.2; is = h.3 }))

  -- and the last of them, where it is none of the others
  pub bind_left : IsMember e ⊎ (IsChoose e ⊎ IsBind e) → ((a s : Expr) → (out-Expr e).kind ≡ exprs.Member a s → ⊥)
      → ((a : Expr) (x : List ℕ) (s : Expr) (c : Option Expr) → (out-Expr e).kind ≡ exprs.Choose a x s c → ⊥) → IsBind e
  bind_left (inl h) not_member not_choose = absurd (not_member h.element h.set h.is)
  bind_left (inr (inl h)) not_member not_choose = absurd (not_choose h.element h.name h.set h.condition h.is)
  bind_left (inr (inr h)) not_member not_choose = h

layer_of : (k : ExprKind) (layer : ExprLayer) → out-ExprKind k ≡ layer → k ≡ roll-ExprKind layer
layer_of k layer e = sym (roll-out-ExprKind k) ∙ ap roll-ExprKind e

-- a form that doesn't have the type of its first part
pub made_alone : (t u : Inferred) (k : ExprKind) → ((a b c : Expr) → k ≡ exprs.Update a b c → ⊥) → ((o : SetOp) (a b : Expr) → k ≡ exprs.Set2 o a b → ⊥) → infer_made t u (out-ExprKind k) ≡ infer_two t u (out-ExprKind k)
made_alone t u k not_update not_set = by (out-ExprKind k) refl
  where
    by : (layer : ExprLayer) → out-ExprKind k ≡ layer → infer_made t u layer ≡ infer_two t u layer
    by (ExprKind-F.Update a b c) e = absurd (not_update a b c (layer_of k (ExprKind-F.Update a b c) e ∙ exprs.rolls-Update a b c))
    by (ExprKind-F.Set2 o a b) e = absurd (not_set o a b (layer_of k (ExprKind-F.Set2 o a b) e ∙ exprs.rolls-Set2 o a b))
    by _ e = refl

pub none_left : {X : Type 0} (o : Option X) → ((x : X) → o ≡ Some x → ⊥) → o ≡ None
none_left None h = refl
none_left (Some x) h = absurd (h x refl)

-- what is noted of a part, of which something else of the same meaning is expected
noted_at : {spec : Spec} {o n : Notes} (s : Scope) (w v : Expected) (e : Expr) → w ≡ v → IsNoted spec (occurrence s w e) o n → IsNoted spec (occurrence s v e) o n
noted_at {spec} {o} {n} s w v e same h = subst (λ (x : Expected). IsNoted spec (occurrence s x e) o n) same h

at_expected : {spec : Spec} {o n : Notes} {t : Inferred} (s : Scope) (w v : Expected) (e : Expr) → w ≡ v → IsChecked spec (occurrence s w e) o n t → IsNoted spec (occurrence s v e) o n
at_expected s w v e same h = noted_at s w v e same h.noted

module _ (spec : Spec) (s : Scope) (w : Expected) (c : Option Expr) where
  pub none_there : {o : Notes} → c ≡ None → AreNoted spec (optional s w c) o o
  none_there {o} is = subst (λ (x : Option Expr). AreNoted spec (optional s w x) o o) (sym is) (none_noted spec o)

  pub one_there : {o n : Notes} (a b : Expr) → c ≡ Some a → b ≡ a → IsNoted spec (occurrence s w b) o n → AreNoted spec (optional s w c) o n
  one_there {o} {n} a b is same g =
      subst (λ (x : Option Expr). AreNoted spec (optional s w x) o n) (ap Some same ∙ sym is) (part_noted spec (occurrence s w b) g)

module _ (spec : Spec) (s : Scope) (w : Expected) (e : Expr) where
  -- by the parts and the inferred type
  pub checked_as : {o n : Notes} (ps : List Occurrence) (answer : Inferred) → parts_in spec s w (expr_layer e) ≡ ps → AreNoted spec ps o n → answer ≡ form_inferred spec s (inferred_parts spec s (expr_layer e))
      → HasCheckedParts spec (occurrence s w e) o n answer
  checked_as {o} {n} ps answer are g infers = record { noted = subst (λ (x : List Occurrence). AreNoted spec x o n) (sym are) g; infers = infers }

  pub checked_leaf : {o : Notes} (answer : Inferred) → IsLeaf (expr_layer e) → answer ≡ leaf_inferred spec s (expr_layer e) → HasCheckedParts spec (occurrence s w e) o o answer
  checked_leaf {o} answer none is = checked_as [] answer (none.parts spec s w) (none_noted spec o) (is ∙ sym (none.infers spec s))

  pub checked_two : {o m n : Notes} {t u : Inferred} (a b : Expr) (answer : Inferred) → IsTwo a b (expr_layer e) → IsChecked spec (occurrence s (expected_first_part w (expr_layer e)) a) o m t
      → IsChecked spec (occurrence s (expected_second_part w t (expr_layer e)) b) m n u → answer ≡ infer_two t u (expr_layer e) → HasCheckedParts spec (occurrence s w e) o n answer
  checked_two {o} {m} {n} {t} {u} a b answer two h k is = checked_as _ answer (two.parts spec s w) (part_noted_then spec _ (occurrence s (expected_second_part w (inferred spec s a) (expr_layer e)) b ∷ []) h.noted (part_noted spec _ second)) infers
    where
      second : IsNoted spec (occurrence s (expected_second_part w (inferred spec s a) (expr_layer e)) b) m n
      second = at_expected s _ _ b (ap (λ y. expected_second_part w y (expr_layer e)) h.infers) k

      infers : answer ≡ form_inferred spec s (inferred_parts spec s (expr_layer e))
      infers = is ∙ ap (λ y. infer_two y u (expr_layer e)) h.infers ∙ ap (λ y. infer_two (inferred spec s a) y (expr_layer e)) k.infers ∙ sym (two.infers spec s)

  pub checked_three : {o l m n : Notes} {t u : Inferred} (a b c : Expr) (answer : Inferred) → IsThree a b c (expr_layer e) → IsChecked spec (occurrence s (expected_first_part w (expr_layer e)) a) o l t
      → IsChecked spec (occurrence s (expected_second_part w t (expr_layer e)) b) l m u → IsNoted spec (occurrence s (expected_third_part w t (expr_layer e)) c) m n → answer ≡ infer_two t u (expr_layer e) → HasCheckedParts spec (occurrence s w e) o n answer
  checked_three {o} {l} {m} {n} {t} {u} a b c answer three h k j is = checked_as _ answer (three.parts spec s w) all infers
    where
      second : IsNoted spec (occurrence s (expected_second_part w (inferred spec s a) (expr_layer e)) b) l m
      second = at_expected s _ _ b (ap (λ z. expected_second_part w z (expr_layer e)) h.infers) k

      third : IsNoted spec (occurrence s (expected_third_part w (inferred spec s a) (expr_layer e)) c) m n
      third = subst (λ (z : Inferred). IsNoted spec (occurrence s (expected_third_part w z (expr_layer e)) c) m n) h.infers j

      all : AreNoted spec (occurrence s (expected_first_part w (expr_layer e)) a ∷ occurrence s (expected_second_part w (inferred spec s a) (expr_layer e)) b ∷ occurrence s (expected_third_part w (inferred spec s a) (expr_layer e)) c ∷ []) o n
      all = part_noted_then spec _ (occurrence s (expected_second_part w (inferred spec s a) (expr_layer e)) b ∷ occurrence s (expected_third_part w (inferred spec s a) (expr_layer e)) c ∷ []) h.noted
          (part_noted_then spec _ (occurrence s (expected_third_part w (inferred spec s a) (expr_layer e)) c ∷ []) second (part_noted spec _ third))

      infers : answer ≡ form_inferred spec s (inferred_parts spec s (expr_layer e))
      infers = is ∙ ap (λ z. infer_two z u (expr_layer e)) h.infers ∙ ap (λ z. infer_two (inferred spec s a) z (expr_layer e)) k.infers ∙ sym (three.infers spec s)

  -- by the layer
  checked_at : {o n : Notes} (layer : ExprLayer) (answer : Inferred) → expr_layer e ≡ layer → AreNoted spec (parts_in spec s w layer) o n → answer ≡ form_inferred spec s (inferred_parts spec s layer)
      → HasCheckedParts spec (occurrence s w e) o n answer
  checked_at {o} {n} layer answer at g is = record {
    noted = subst (λ (x : ExprLayer). AreNoted spec (parts_in spec s w x) o n) (sym at) g;
    infers = subst (λ (x : ExprLayer). answer ≡ form_inferred spec s (inferred_parts spec s x)) (sym at) is;
  }

  each_as : {o n : Notes} (v x : Expected) (es : List Expr) → v ≡ x → AreNoted spec (map (occurrence s v) es) o n → AreNoted spec (map (occurrence s x) es) o n
  each_as {o} {n} v x es same g = subst (λ (y : Expected). AreNoted spec (map (occurrence s y) es) o n) same g

  pub checked_call : {o n : Notes} (f : List ℕ) (es given : List Expr) (answer : Inferred) → (out-Expr e).kind ≡ exprs.Call f es → given ≡ es → HasCheckedArguments spec s f given o n answer → HasCheckedParts spec (occurrence s w e) o n answer
  checked_call {o} {n} f es given answer is are h =
      checked_at (ExprKind-F.Call f es) answer (ap out-ExprKind is ∙ layer_of_call f es)
      (subst (λ (xs : List Expr). AreNoted spec (arguments s (declared_arguments (function_named spec f)) xs) o n) are h.noted) h.infers

  pub checked_map_of : {o m n : Notes} (ks vs : List Expr) (v x : Expected) → (out-Expr e).kind ≡ exprs.MapOf ks vs → v ≡ expected_key w → AreNoted spec (map (occurrence s v) ks) o m → x ≡ expected_value w
      → AreNoted spec (map (occurrence s x) vs) m n → HasCheckedParts spec (occurrence s w e) o n not_inferable
  checked_map_of ks vs v x is expected_type g expected_next h =
      checked_at (ExprKind-F.MapOf ks vs) not_inferable (ap out-ExprKind is ∙ layer_of_map_of ks vs) (parts_noted spec _ _ (each_as v _ ks expected_type g) (each_as x _ vs expected_next h)) refl

  -- a part in the scope with a variable
  inside : {o n : Notes} (si : Scope) (x : List ℕ) (sort sort' : Option Sort) (v v' : Expected) (a : Expr) → si ≡ with_variable s x sort → sort ≡ sort' → v ≡ v' → IsNoted spec (occurrence si v a) o n
      → IsNoted spec (occurrence (with_variable s x sort') v' a) o n
  inside {o} {n} si x sort sort' v v' a scoped same expected_type g =
      subst (λ (y : Expected). IsNoted spec (occurrence (with_variable s x sort') y a) o n) expected_type
      (subst (λ (y : Scope). IsNoted spec (occurrence y v a) o n) (scoped ∙ ap (with_variable s x) same) g)

  -- the part that is checked first, by the layer
  first_checked : {o n : Notes} {t : Inferred} (layer : ExprLayer) (a : Expr) → expr_layer e ≡ layer → IsChecked spec (occurrence s (expected_first_part w (expr_layer e)) a) o n t → IsChecked spec (occurrence s (expected_first_part w layer) a) o n t
  first_checked {o} {n} {t} layer a at g = subst (λ (y : ExprLayer). IsChecked spec (occurrence s (expected_first_part w y) a) o n t) at g

  pub checked_bind : {o m n : Notes} {t : Inferred} (x : List ℕ) (a b : Expr) (si : Scope) → (out-Expr e).kind ≡ exprs.Bind x a b → IsChecked spec (occurrence s (expected_first_part w (expr_layer e)) a) o m t → si ≡ with_variable s x (flat_sort t)
      → IsNoted spec (occurrence si (expected_second_part w t (expr_layer e)) b) m n → HasCheckedParts spec (occurrence s w e) o n not_inferable
  checked_bind {t = t} x a b si is h scoped k =
      let at : expr_layer e ≡ ExprKind-F.Bind x a b = ap out-ExprKind is ∙ layer_of_bind x a b in
      checked_at (ExprKind-F.Bind x a b) not_inferable at
      (part_noted_then spec _ (occurrence (with_variable s x (flat_sort (inferred spec s a))) (expected_same any_flat w) b ∷ []) (first_checked (ExprKind-F.Bind x a b) a at h).noted
      (part_noted spec _ (inside si x (flat_sort t) (flat_sort (inferred spec s a)) _ (expected_same any_flat w) b scoped (ap flat_sort h.infers) (ap (expected_second_part w t) at) k))) refl

  -- a part that is noted before others, by the layer and what is inferred of the first
  before_at : {o n : Notes} (si s' : Scope) (v v' : Expected) (a : Expr) (start : ℕ) → si ≡ s' → v ≡ v' → IsNotedBefore spec (occurrence si v a) start o n → IsNotedBefore spec (occurrence s' v' a) start o n
  before_at {o} {n} si s' v v' a start scoped expected_type g =
      subst (λ (y : Expected). IsNotedBefore spec (occurrence s' y a) start o n) expected_type (subst (λ (y : Scope). IsNotedBefore spec (occurrence y v a) start o n) scoped g)

  pub checked_member : {o m n : Notes} {t : Inferred} (a from : Expr) (start : ℕ) → (out-Expr e).kind ≡ exprs.Member a from → start ≡ length (noted_types o) → IsChecked spec (occurrence s (expected_first_part w (expr_layer e)) from) o m t
      → IsNotedBefore spec (occurrence s (expected_second_part w t (expr_layer e)) a) start m n → HasCheckedParts spec (occurrence s w e) o n (inferred_as truth)
  checked_member {t = t} a from start at_kind here h k =
      let at : expr_layer e ≡ ExprKind-F.Member a from = ap out-ExprKind at_kind ∙ layer_of_member a from in
      checked_at (ExprKind-F.Member a from) (inferred_as truth) at
      (part_ahead spec (occurrence s (inferred_in any_set) from) (occurrence s (known_sort (set_sort (inferred spec s from))) a) start here (first_checked (ExprKind-F.Member a from) from at h)
      (before_at s s _ _ a start refl (ap (expected_second_part w t) at ∙ ap (λ y. known_sort (set_sort y)) h.infers) k)) refl

  -- the first two parts of a set that is chosen from another one
  choose_ahead : {o m n : Notes} {t : Inferred} (a : Expr) (x : List ℕ) (from : Expr) (c : Option Expr) (si : Scope) (start : ℕ) → (out-Expr e).kind ≡ exprs.Choose a x from c → start ≡ length (noted_types o)
      → IsChecked spec (occurrence s (expected_first_part w (expr_layer e)) from) o m t → si ≡ with_variable s x (chosen_sort w t) → IsNotedBefore spec (occurrence si (expected_second_part w t (expr_layer e)) a) start m n
      → AreNoted spec (occurrence (with_variable s x (chosen_sort w (inferred spec s from))) (expected_element w) a ∷ occurrence s (expected_source w) from ∷ []) o n
  choose_ahead {t = t} a x from c si start at_kind here h scoped k =
      let at : expr_layer e ≡ ExprKind-F.Choose a x from c = ap out-ExprKind at_kind ∙ layer_of_choose a x from c in
      part_ahead spec (occurrence s (expected_source w) from) (occurrence (with_variable s x (chosen_sort w (inferred spec s from))) (expected_element w) a) start here (first_checked (ExprKind-F.Choose a x from c) from at h)
      (before_at si (with_variable s x (chosen_sort w (inferred spec s from))) _ (expected_element w) a start (scoped ∙ ap (λ y. with_variable s x (chosen_sort w y)) h.infers) (ap (expected_second_part w t) at) k)

  -- the condition of a set that is chosen from another one
  condition_in : {n k : Notes} (t : Inferred) (a : Expr) (x : List ℕ) (from : Expr) (c : Option Expr) (si : Scope) → (out-Expr e).kind ≡ exprs.Choose a x from c → t ≡ inferred spec s from → si ≡ with_variable s x (chosen_sort w t)
      → AreNoted spec (optional si (expected_third_part w t (expr_layer e)) c) n k → AreNoted spec (optional (with_variable s x (chosen_sort w (inferred spec s from))) expected_truth c) n k
  condition_in {n} {k} t a x from c si is infers scoped g =
      subst (λ (y : Expected). AreNoted spec (optional (with_variable s x (chosen_sort w (inferred spec s from))) y c) n k) (ap (expected_third_part w t) (ap out-ExprKind is ∙ layer_of_choose a x from c))
      (subst (λ (y : Scope). AreNoted spec (optional y (expected_third_part w t (expr_layer e)) c) n k) (scoped ∙ ap (λ y. with_variable s x (chosen_sort w y)) infers) g)

  pub checked_choose : {o m k n : Notes} {t : Inferred} (a : Expr) (x : List ℕ) (from : Expr) (c : Option Expr) (si : Scope) (start : ℕ) → (out-Expr e).kind ≡ exprs.Choose a x from c → start ≡ length (noted_types o)
      → IsChecked spec (occurrence s (expected_first_part w (expr_layer e)) from) o m t → si ≡ with_variable s x (chosen_sort w t)
      → IsNotedBefore spec (occurrence si (expected_second_part w t (expr_layer e)) a) start m k → AreNoted spec (optional si (expected_third_part w t (expr_layer e)) c) k n → HasCheckedParts spec (occurrence s w e) o n not_inferable
  checked_choose {t = t} a x from c si start at_kind here h scoped g k =
      checked_at (ExprKind-F.Choose a x from c) not_inferable (ap out-ExprKind at_kind ∙ layer_of_choose a x from c)
      (parts_noted spec (occurrence (with_variable s x (chosen_sort w (inferred spec s from))) (expected_element w) a ∷ occurrence s (expected_source w) from ∷ []) (optional (with_variable s x (chosen_sort w (inferred spec s from))) expected_truth c)
      (choose_ahead a x from c si start at_kind here h scoped g) (condition_in t a x from c si at_kind h.infers scoped k)) refl
