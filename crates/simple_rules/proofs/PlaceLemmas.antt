-- The places of what isn't taken yet, and what an answer says of them.
use Rattle.std.proofs.Common.{◌≡◌, ℕ, ◌≤◌, Option, Some, None, Result, Ok, Err, sym, ap, subst, inl, inr, arith}
use Rattle.std.specs.Prelude.{◌⊎◌, ◌↔◌}
use Rattle.flow_syntax.specs.declared.expr.Expr.{Expr}
use Rattle.flow_syntax.specs.declared.spec.Spec.{Spec}
use Rattle.simple_rules.specs.declared.form.Form.{Form}
use Rattle.simple_rules.specs.declared.form.Form.TheVariants as forms
use Rattle.simple_rules.specs.declared.refusal.NotYet.{NotYet}
use Rattle.simple_rules.specs.inner.Forms.{HasForm}
use Rattle.simple_rules.specs.inner.Least.{IsLeast, SomeHas, lesser_of, IsAtLattice, IsAtFunction, IsAtOtherBody}
use Rattle.simple_rules.specs.Simple.{IsFirstNotYet, IsNotYet, lattice, function, body, IsSimple, fixed}
use Rattle.simple_rules.proofs.LeastLemmas.{least_of_both, least_of_same}

-- an expression of the other forms is simple
pub simple_of_form : (e : Expr) (f : Form) → HasForm e f → (f ≡ forms.Fixed) ⊎ (f ≡ forms.Rising) → IsSimple e
simple_of_form e f has (inl same) = fixed e (subst (HasForm e) same has)
simple_of_form e f has (inr same) = let rises : HasForm e forms.Rising = subst (HasForm e) same has in rises.0

-- the least place in a specification
pub least_of_spec : (spec : Spec) (a b c : Option ℕ) → IsLeast (SomeHas IsAtLattice spec.lattices) a → IsLeast (SomeHas IsAtFunction spec.functions) b
    → IsLeast (SomeHas IsAtOtherBody spec.rules) c → IsLeast (IsNotYet spec) (lesser_of (lesser_of a b) c)
least_of_spec spec a b c p q r =
    least_of_same (λ n. (SomeHas IsAtLattice spec.lattices n ⊎ SomeHas IsAtFunction spec.functions n) ⊎ SomeHas IsAtOtherBody spec.rules n)
    (IsNotYet spec) (lesser_of (lesser_of a b) c) (λ n. (forth n, back n))
    (least_of_both (λ n. SomeHas IsAtLattice spec.lattices n ⊎ SomeHas IsAtFunction spec.functions n) (SomeHas IsAtOtherBody spec.rules)
    (lesser_of a b) c (least_of_both (SomeHas IsAtLattice spec.lattices) (SomeHas IsAtFunction spec.functions) a b p q) r)
  where
    forth : (n : ℕ) → (SomeHas IsAtLattice spec.lattices n ⊎ SomeHas IsAtFunction spec.functions n) ⊎ SomeHas IsAtOtherBody spec.rules n → IsNotYet spec n
    forth n (inl (inl h)) = lattice h.item h.among h.has
    forth n (inl (inr h)) = function h.item h.among h.has
    forth n (inr h) = body h.item h.among h.has.0 h.has.1

    back : (n : ℕ) → IsNotYet spec n → (SomeHas IsAtLattice spec.lattices n ⊎ SomeHas IsAtFunction spec.functions n) ⊎ SomeHas IsAtOtherBody spec.rules n
    back n (lattice l among at) = inl (inl (record { item = l; among = among; has = at }))
    back n (function f among at) = inl (inr (record { item = f; among = among; has = at }))
    back n (body rule among other at) = inr (record { item = rule; among = among; has = (other, at) })

no_refusal : (e : NotYet) → ◌≡◌ {A = Result (Unit {0}) NotYet} (Ok tt) (Err e) → ⊥
no_refusal e h = cc

-- where nothing stands, no place is refused
pub accepted_refuses_none : (spec : Spec) → IsLeast (IsNotYet spec) None → (place : ℕ) → (◌≡◌ {A = Result (Unit {0}) NotYet} (Ok tt) (Err (record { place = place }))) ↔ IsFirstNotYet spec place
accepted_refuses_none spec none place = (λ h. absurd (no_refusal (record { place = place }) h), λ first. absurd (none place first.stands))

-- where a place is the least, it's not accepted
pub refused_is_no_ok : (spec : Spec) (n : ℕ) → IsLeast (IsNotYet spec) (Some n)
    → (◌≡◌ {A = Result (Unit {0}) NotYet} (Err (record { place = n })) (Ok tt)) ↔ ((place : ℕ) → ¬ IsNotYet spec place)
refused_is_no_ok spec n least = (λ h. absurd (no_refusal (record { place = n }) (sym h)), λ none. absurd (none n least.0))

abbrev place_of : Result (Unit {0}) NotYet → ℕ
place_of (Ok x) = 0
place_of (Err e) = e.place

same_place : (m n : ℕ) → ◌≡◌ {A = Result (Unit {0}) NotYet} (Err (record { place = m })) (Err (record { place = n })) → m ≡ n
same_place m n h = ap place_of h

-- and this place alone is refused
pub refused_at_first : (spec : Spec) (n : ℕ) → IsLeast (IsNotYet spec) (Some n) → (place : ℕ)
    → (◌≡◌ {A = Result (Unit {0}) NotYet} (Err (record { place = n })) (Err (record { place = place }))) ↔ IsFirstNotYet spec place
refused_at_first spec n least place = (
  λ h. subst (IsFirstNotYet spec) (same_place n place h) (record { stands = least.0; least = least.1 }),
  λ first. let one : n ≤ place = least.1 place first.stands in let other : place ≤ n = first.least n least.0 in
      let same : n ≡ place = omega arith in ap (λ (m : ℕ). let e : Result (Unit {0}) NotYet = Err (record { place = m }) in e) same,
)
