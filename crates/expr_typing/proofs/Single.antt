-- Where one type is expected of an expression without faults and one is inferred of it, they are the same.
use Rattle.std.proofs.Common.{◌≡◌, false, [], ◌∷◌, refl, sym, subst, ◌∙◌, inl, inr}
use Rattle.std.specs.Prelude.{Contains}
use Rattle.std.specs.List.{AllByRecursion}
use Rattle.flow_syntax.specs.declared.expr.Expr.{Expr}
use Rattle.flow_syntax.specs.declared.expr.ExprKind.TheOpen.{ExprKind-F}
use Rattle.flow_syntax.specs.declared.spec.Spec.{Spec}
use Rattle.flow_syntax.specs.Expressions.{ExprLayer, expr_layer, parts_in as exprs_in, parts_of as exprs_of}
use Rattle.flow_syntax.specs.Occurrences.{Occurrence, occurrence, parts_in, form_shape}
use Rattle.flow_syntax.specs.ExprTypes.{HasType, expected_type, infers}
use Rattle.flow_syntax.specs.Scopes.{Scope}
use Rattle.flow_syntax.specs.Inferred.{Inferred, is, not_inferable, faulty, inferred, inferred_parts, form_inferred, pair_inferred, only, operands}
use Rattle.flow_syntax.specs.Types.{Sort, pair_sort, Typing, lattice, element, pair_of, Shape, anything, any_map, any_pair, has_shape}
use Rattle.flow_syntax.specs.Expected.{Expected, known, IsMismatch, IsOther, expected_first, expected_second, expected_left, expected_right, expected_updated_key, expected_updated_value}
use Rattle.flow_syntax.proofs.Listed.{Contains_here, Contains_behind}
use Rattle.expr_typing.proofs.Clean.{IsClean, inferred_own, fits, part_clean}
use Rattle.flow_syntax.proofs.Parts.{by_induction}
use Rattle.expr_typing.proofs.Equal.{not_other}
use Rattle.expr_typing.proofs.Typed.{left_same, only_is, always_is}

-- A type that is expected and one that is inferred are one.
abbrev pub Agree : Expected → Inferred → Type 0
Agree w u = (t x : Typing) → w ≡ known t → u ≡ is x → x ≡ t

-- the types of the parts of a pair of elements
pub pair_parts : (u v : Inferred) (x : Typing) → pair_inferred u v ≡ is x → (a : Sort) × (b : Sort) × (u ≡ is (element a)) × (v ≡ is (element b)) × (x ≡ element (pair_sort a b))
pair_parts (is (element a)) (is (element b)) x e = (a, b, refl, refl, cc)
pair_parts faulty v x e = absurd (no e)
  where
    no : faulty ≡ is x → ⊥
    no k = cc
pair_parts u faulty x e = absurd (no e)
  where
    no : faulty ≡ is x → ⊥
    no k = cc
pair_parts u v x e = absurd (no e)
  where
    no : not_inferable ≡ is x → ⊥
    no k = cc

known_pair : (t : Typing) (u v : Inferred) → ¬ (has_shape any_pair t ≡ false) → Agree (expected_first (known t)) u → Agree (expected_second (known t)) v → (x : Typing) → pair_inferred u v ≡ is x → x ≡ t
known_pair (element (pair_sort c d)) u v h f g x e =
    let p = pair_parts u v x e in
    let first : element p.0 ≡ element c = f (element c) (element p.0) refl p.2 in
    let second : element p.1 ≡ element d = g (element d) (element p.1) refl p.3 in
    cc
known_pair (lattice (pair_of c d)) u v h f g x e =
    let p = pair_parts u v x e in
    let first : element p.0 ≡ lattice c = f (lattice c) (element p.0) refl p.2 in
    cc
known_pair t u v h f g x e = absurd (h refl)

-- A form with types of this group has a type of its own, or none can be inferred.
abbrev HasOwnType : Shape → Inferred → Type 0
HasOwnType anything u = Unit {0}
HasOwnType form not_inferable = Unit {0}
HasOwnType form u = ⊥

-- a form with a type of its own has no other type than the expected one
no_mismatch : (form : Shape) (w : Expected) (u : Inferred) → HasOwnType form u → ¬ IsMismatch w form u → Agree w u
no_mismatch form w u own fits t x e k = by form (subst (HasOwnType form) k own) (λ h. fits (subst (λ v. IsMismatch v form u) (sym e) (inl (subst (IsOther form t) (sym k) h))))
  where
    by : (form : Shape) → HasOwnType form (is x) → ¬ IsOther form t (is x) → x ≡ t
    by anything own f = not_other x t f
    by form own f = absurd own

module _ (spec : Spec) where
  -- what is inferred of an expression without faults, wherever it stands, is what is expected of it
  abbrev IsSingle : Expr → Type 0
  IsSingle e = (s : Scope) (w : Expected) → IsClean spec (occurrence s w e) → Agree w (inferred spec s e)

  single_form : (s : Scope) (w : Expected) (layer : ExprLayer) → ¬ IsMismatch w (form_shape layer) (form_inferred spec s (inferred_parts spec s layer)) → AllByRecursion IsSingle (exprs_in layer)
      → ((q : Occurrence) → Contains (parts_in spec s w layer) q → IsClean spec q) → Agree w (form_inferred spec s (inferred_parts spec s layer))
  single_form s (known y) (ExprKind-F.Both a b) right parts clean t x e k =
      let p = occurrence s (expected_first (known y)) a in
      let q = occurrence s (expected_second (known y)) b in
      let first = clean p (Contains_here p (q ∷ [])) in
      let second = clean q (Contains_behind p (q ∷ []) q (Contains_here q [])) in
      let same : y ≡ t = cc in
      known_pair y (inferred spec s a) (inferred spec s b) (λ h. right (inr h)) (parts.0 s (expected_first (known y)) first) (parts.1.0 s (expected_second (known y)) second) x k ∙ same
  single_form s (known y) (ExprKind-F.Update m key v) right parts clean t x e k =
      let p = occurrence s (expected_left any_map (known y)) m in
      let first = clean p (Contains_here p (occurrence s (expected_updated_key (known y) (inferred spec s m)) key ∷ occurrence s (expected_updated_value (known y) (inferred spec s m)) v ∷ [])) in
      let same : y ≡ t = cc in
      parts.0 s (expected_left any_map (known y)) first y x (left_same any_map y (λ h. right (inr h))) (only_is any_map (inferred spec s m) x (always_is (only any_map (inferred spec s m)) x k)) ∙ same
  single_form s (known y) (ExprKind-F.Set2 o a b) right parts clean t x e k =
      let p = occurrence s (expected_left (operands o) (known y)) a in
      let first = clean p (Contains_here p (occurrence s (expected_right (operands o) (known y) (inferred spec s a)) b ∷ [])) in
      let same : y ≡ t = cc in
      parts.0 s (expected_left (operands o) (known y)) first y x (left_same (operands o) y (λ h. right (inr h))) (only_is (operands o) (inferred spec s a) x k) ∙ same
  single_form s w (ExprKind-F.Both a b) right parts clean t x e k = cc
  single_form s w (ExprKind-F.Update m key v) right parts clean t x e k = cc
  single_form s w (ExprKind-F.Set2 o a b) right parts clean t x e k = cc
  single_form s w layer right parts clean t x e k = no_mismatch (form_shape layer) w _ tt right t x e k

  single_step : (e : Expr) → AllByRecursion IsSingle (exprs_of e) → IsSingle e
  single_step e parts s w clean =
      subst (Agree w) (sym (inferred_own spec (occurrence s w e) clean)) (single_form s w (expr_layer e) (fits spec (occurrence s w e) clean) parts (λ q. part_clean spec (occurrence s w e) q clean))

  pub single : (e : Expr) → IsSingle e
  single = by_induction IsSingle single_step

  -- a type that an expression without faults has is the one that is expected, and the one that is inferred
  pub one_type : (q : Occurrence) → IsClean spec q → (t x : Typing) → HasType spec q t → HasType spec q x → t ≡ x
  one_type q clean t x (expected_type e) (expected_type k) = cc
  one_type q clean t x (expected_type e) (infers k) = sym (single q.expr q.scope q.expected clean t x e k)
  one_type q clean t x (infers e) (expected_type k) = single q.expr q.scope q.expected clean x t k e
  one_type q clean t x (infers e) (infers k) = cc
