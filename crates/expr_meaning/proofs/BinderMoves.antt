-- Comprehensions and bound flat values follow their parts by their modes.
use Rattle.std.proofs.Common.{◌≡◌, Bool, cond, List, sym, subst}
use Rattle.std.specs.Prelude.{Contains}
use Rattle.std.proofs.lemmas.List.Elements.{All-contains}
use Rattle.flow_term.specs.declared.elem.Elem.{Elem}
use Rattle.flow_term.specs.declared.value.Value.{Value, Value-F, out-Value}
use Rattle.flow_syntax.specs.declared.property.Mode.{Mode}
use Rattle.flow_syntax.specs.declared.property.Mode.TheVariants as mode
use Rattle.flow_syntax.specs.Types.{Sort}
use Rattle.value_domains.specs.Values.{ValueLayer, elems_in, IsOfSort, Includes, IsMay, IsMust, IsFlat}
use Rattle.value_domains.specs.Domains.{Domain, may, must, flat, IsValueOf, IsBelowIn}
use Rattle.expr_meaning.specs.Meaning.{on_set, chosen, bind_value}
use Rattle.expr_meaning.specs.Modes.{combined, turned, needs, is_must}
use Rattle.expr_meaning.specs.Monotone.{Moves}
use Rattle.expr_meaning.specs.Typing.{AreAlike, both_may, both_must, sort_in}
use Rattle.expr_meaning.proofs.Moving.{combine, turn}
use Rattle.expr_meaning.proofs.SetForms.{chosen_grows, must_made, may_made}
use Rattle.expr_meaning.proofs.ValueForms.{order_of, bind_rises, Implies}

-- what moves at each element moves as a whole
pub together : {I X : Type 0} (R : X → X → Type 0) (f g : I → X) (m : Mode) → ((i : I) → Moves m R (f i) (g i)) → Moves m (λ (f g : I → X). (i : I) → R (f i) (g i)) f g
together R f g mode.Fixed h = λ j i. h i j
together R f g mode.Up h = h
together R f g mode.Down h = h
together R f g mode.Mixed h = tt

-- elements of a sort
abbrev pub Sorted : Sort → Type 0
Sorted s = (x : Elem) × IsOfSort s x

may_sorted : (s : Sort) (l : ValueLayer) → IsMay s l → (x : Elem) → Contains (elems_in l) x → IsOfSort s x
may_sorted s (Value-F.Set xs) h x c = All-contains (IsOfSort s) xs x h.sorts c
may_sorted s _ h x c = absurd h

must_sorted : (s : Sort) (l : ValueLayer) → IsMust s l → (xs : List Elem) → l ≡ Value-F.Set xs → (x : Elem) → Contains xs x → IsOfSort s x
must_sorted s (Value-F.Set ys) h xs e x c = All-contains (IsOfSort s) ys x h.sorts (let same : xs ≡ ys = cc in subst (λ zs. Contains zs x) same c)
must_sorted s Value-F.Unreached h xs e x c = cc
must_sorted s _ h xs e x c = absurd h

abbrev Same : Elem → Elem → Type 0
Same a b = a ≡ b

module _ (e1 e2 : Elem → Elem) (c1 c2 : Elem → Bool) (v1 v2 : Value) where
  abbrev Made1 : Value
  Made1 = on_set (chosen e1 c1) (out-Value v1)

  abbrev Made2 : Value
  Made2 = on_set (chosen e2 c2) (out-Value v2)

may_chosen : (s t : Sort) (e1 e2 : Elem → Elem) (c1 c2 : Elem → Bool) (v1 v2 : Value) → IsValueOf (may t) v1 → IsValueOf (may t) v2 → ((x : Sorted t) → e1 x.0 ≡ e2 x.0) → ((x : Sorted t) → Implies (c1 x.0) (c2 x.0))
    → IsBelowIn (may t) v1 v2 → IsBelowIn (may s) (Made1 e1 e2 c1 c2 v1 v2) (Made2 e1 e2 c1 c2 v1 v2)
may_chosen s t e1 e2 c1 c2 v1 v2 valid1 valid2 same c below =
    subst (λ xs. Includes xs (elems_in (out-Value (on_set (chosen e1 c1) (out-Value v1))))) (sym (may_made (chosen e2 c2) t (out-Value v2) valid2))
    (subst (Includes (chosen e2 c2 (elems_in (out-Value v2)))) (sym (may_made (chosen e1 c1) t (out-Value v1) valid1))
    (chosen_grows e2 e1 c2 c1 (elems_in (out-Value v2)) (elems_in (out-Value v1)) below
    (λ x among. same (x, may_sorted t (out-Value v1) valid1 x among)) (λ x among. c (x, may_sorted t (out-Value v1) valid1 x among))))

must_chosen : (s t : Sort) (e1 e2 : Elem → Elem) (c1 c2 : Elem → Bool) (v1 v2 : Value) → IsValueOf (must t) v1 → IsValueOf (must t) v2 → ((x : Sorted t) → e1 x.0 ≡ e2 x.0) → ((x : Sorted t) → Implies (c2 x.0) (c1 x.0))
    → IsBelowIn (must t) v1 v2 → IsBelowIn (must s) (Made1 e1 e2 c1 c2 v1 v2) (Made2 e1 e2 c1 c2 v1 v2)
must_chosen s t e1 e2 c1 c2 v1 v2 valid1 valid2 same c below =
    must_made (chosen e1 c1) (chosen e2 c2) (out-Value v1) (out-Value v2)
    (λ a1 a2 is1 is2 h. chosen_grows e1 e2 c1 c2 a1 a2 h
    (λ x among. sym (same (x, must_sorted t (out-Value v2) valid2 a2 is2 x among))) (λ x among. c (x, must_sorted t (out-Value v2) valid2 a2 is2 x among))) below

-- a whole that moves by what moves at each element
need_each : {I A C : Type 0} (R : A → A → Type 0) (Q : C → C → Type 0) (a1 a2 : I → A) (c1 c2 : C) (n : Mode) → (((i : I) → a1 i ≡ a2 i) → Moves n Q c1 c2)
    → (m : Mode) → ((i : I) → Moves m R (a1 i) (a2 i)) → Moves (needs m n) Q c1 c2
need_each R Q a1 a2 c1 c2 n f mode.Fixed h = f h
need_each R Q a1 a2 c1 c2 n f mode.Up h = tt
need_each R Q a1 a2 c1 c2 n f mode.Down h = tt
need_each R Q a1 a2 c1 c2 n f mode.Mixed h = tt

abbrev OnSorted : (t : Sort) → (Sorted t → Bool) → (Sorted t → Bool) → Type 0
OnSorted t f g = (x : Sorted t) → Implies (f x) (g x)

pub choose_moves : (d u : Domain) → AreAlike d u → (e1 e2 : Elem → Elem) (c1 c2 : Elem → Bool) (v1 v2 : Value) → IsValueOf u v1 → IsValueOf u v2
    → IsValueOf d (on_set (chosen e1 c1) (out-Value v1)) → IsValueOf d (on_set (chosen e2 c2) (out-Value v2))
    → (me mf mc : Mode) → ((x : Sorted (sort_in u)) → Moves me Same (e1 x.0) (e2 x.0)) → Moves mf (IsBelowIn u) v1 v2 → ((x : Sorted (sort_in u)) → Moves mc Implies (c1 x.0) (c2 x.0))
    → Moves (needs me (combined mf (cond (is_must d) (turned mc) mc))) (IsBelowIn d) (on_set (chosen e1 c1) (out-Value v1)) (on_set (chosen e2 c2) (out-Value v2))
choose_moves _ _ (both_may s t) e1 e2 c1 c2 v1 v2 valid1 valid2 made1 made2 me mf mc he hf hc =
    need_each Same (IsBelowIn (may s)) (λ (x : Sorted t). e1 x.0) (λ x. e2 x.0) (Made1 e1 e2 c1 c2 v1 v2) (Made2 e1 e2 c1 c2 v1 v2) (combined mf mc)
    (λ same.
    let up = λ (h : IsBelowIn (may t) v1 v2) (k : OnSorted t (λ x. c1 x.0) (λ x. c2 x.0)). may_chosen s t e1 e2 c1 c2 v1 v2 valid1 valid2 same k h in
    let down = λ (h : IsBelowIn (may t) v2 v1) (k : OnSorted t (λ x. c2 x.0) (λ x. c1 x.0)). may_chosen s t e2 e1 c2 c1 v2 v1 valid2 valid1 (λ x. sym (same x)) k h in
    let itself = (order_of (may t) tt).reflexive v1 valid1 in
    combine (IsBelowIn (may t)) (OnSorted t) (IsBelowIn (may s)) v1 v2 (λ x. c1 x.0) (λ x. c2 x.0) (Made1 e1 e2 c1 c2 v1 v2) (Made2 e1 e2 c1 c2 v1 v2) itself (λ x h. h) up down
    (λ h k. (order_of (may s) tt).antisymmetric (Made1 e1 e2 c1 c2 v1 v2) (Made2 e1 e2 c1 c2 v1 v2) made1 made2
    (up (subst (IsBelowIn (may t) v1) h itself) (subst (OnSorted t (λ x. c1 x.0)) k (λ x h. h)))
    (down (subst (λ v. IsBelowIn (may t) v v1) h itself) (subst (λ f. OnSorted t f (λ x. c1 x.0)) k (λ x h. h))))
    mf mc hf (together Implies (λ (x : Sorted t). c1 x.0) (λ x. c2 x.0) mc hc)) me he
choose_moves _ _ (both_must s t) e1 e2 c1 c2 v1 v2 valid1 valid2 made1 made2 me mf mc he hf hc =
    need_each Same (IsBelowIn (must s)) (λ (x : Sorted t). e1 x.0) (λ x. e2 x.0) (Made1 e1 e2 c1 c2 v1 v2) (Made2 e1 e2 c1 c2 v1 v2) (combined mf (turned mc))
    (λ same.
    let up = λ (h : IsBelowIn (must t) v1 v2) (k : OnSorted t (λ x. c2 x.0) (λ x. c1 x.0)). must_chosen s t e1 e2 c1 c2 v1 v2 valid1 valid2 same k h in
    let down = λ (h : IsBelowIn (must t) v2 v1) (k : OnSorted t (λ x. c1 x.0) (λ x. c2 x.0)). must_chosen s t e2 e1 c2 c1 v2 v1 valid2 valid1 (λ x. sym (same x)) k h in
    let itself = (order_of (must t) tt).reflexive v1 valid1 in
    combine (IsBelowIn (must t)) (λ f g. OnSorted t g f) (IsBelowIn (must s)) v1 v2 (λ x. c1 x.0) (λ x. c2 x.0) (Made1 e1 e2 c1 c2 v1 v2) (Made2 e1 e2 c1 c2 v1 v2) itself (λ x h. h) up down
    (λ h k. (order_of (must s) tt).antisymmetric (Made1 e1 e2 c1 c2 v1 v2) (Made2 e1 e2 c1 c2 v1 v2) made1 made2
    (up (subst (IsBelowIn (must t) v1) h itself) (subst (λ f. OnSorted t f (λ x. c1 x.0)) k (λ x h. h)))
    (down (subst (λ v. IsBelowIn (must t) v v1) h itself) (subst (OnSorted t (λ x. c1 x.0)) k (λ x h. h))))
    mf (turned mc) hf
    (turn (OnSorted t) (λ f g. OnSorted t g f) (λ x. c1 x.0) (λ x. c2 x.0) (λ x. c1 x.0) (λ x. c2 x.0) (λ h. h) (λ h. h) (λ h. h) mc (together Implies (λ (x : Sorted t). c1 x.0) (λ x. c2 x.0) mc hc))) me he

-- FLAT VALUES

flat_sorted : (s : Sort) (l : ValueLayer) → IsFlat s l → (x : Elem) → l ≡ Value-F.Flat x → IsOfSort s x
flat_sorted s (Value-F.Flat y) h x e = let same : y ≡ x = cc in subst (IsOfSort s) same h
flat_sorted s Value-F.Bottom h x e = cc
flat_sorted s Value-F.Top h x e = cc
flat_sorted s _ h x e = absurd h

abbrev EachBelow : (s t : Sort) → (Sorted s → Value) → (Sorted s → Value) → Type 0
EachBelow s t f g = (x : Sorted s) → IsBelowIn (flat t) (f x) (g x)

pub bind_moves : (s t : Sort) (f1 f2 : Elem → Value) (v1 v2 : Value) → IsValueOf (flat s) v1 → IsValueOf (flat s) v2
    → IsValueOf (flat t) (bind_value f1 (out-Value v1)) → IsValueOf (flat t) (bind_value f2 (out-Value v2)) → ((x : Sorted s) → IsValueOf (flat t) (f1 x.0))
    → (m n : Mode) → Moves m (IsBelowIn (flat s)) v1 v2 → ((x : Sorted s) → Moves n (IsBelowIn (flat t)) (f1 x.0) (f2 x.0))
    → Moves (combined m n) (IsBelowIn (flat t)) (bind_value f1 (out-Value v1)) (bind_value f2 (out-Value v2))
bind_moves s t f1 f2 v1 v2 valid1 valid2 bound1 bound2 given m n hm hn =
    let up = λ (h : IsBelowIn (flat s) v1 v2) (k : EachBelow s t (λ x. f1 x.0) (λ x. f2 x.0)). bind_rises f1 f2 (out-Value v1) (out-Value v2) h (λ e is1 is2. k (e, flat_sorted s (out-Value v1) valid1 e is1)) in
    let down = λ (h : IsBelowIn (flat s) v2 v1) (k : EachBelow s t (λ x. f2 x.0) (λ x. f1 x.0)). bind_rises f2 f1 (out-Value v2) (out-Value v1) h (λ e is2 is1. k (e, flat_sorted s (out-Value v1) valid1 e is1)) in
    let itself = (order_of (flat s) tt).reflexive v1 valid1 in
    let each_itself : EachBelow s t (λ x. f1 x.0) (λ x. f1 x.0) = λ x. (order_of (flat t) tt).reflexive (f1 x.0) (given x) in
    combine (IsBelowIn (flat s)) (EachBelow s t) (IsBelowIn (flat t)) v1 v2 (λ x. f1 x.0) (λ x. f2 x.0) (bind_value f1 (out-Value v1)) (bind_value f2 (out-Value v2)) itself each_itself up down
    (λ h k. (order_of (flat t) tt).antisymmetric (bind_value f1 (out-Value v1)) (bind_value f2 (out-Value v2)) bound1 bound2
    (up (subst (IsBelowIn (flat s) v1) h itself) (subst (EachBelow s t (λ x. f1 x.0)) k each_itself))
    (down (subst (λ v. IsBelowIn (flat s) v v1) h itself) (subst (λ f. EachBelow s t f (λ x. f1 x.0)) k each_itself)))
    m n hm (together (IsBelowIn (flat t)) (λ (x : Sorted s). f1 x.0) (λ x. f2 x.0) n hn)
