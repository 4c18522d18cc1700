-- In a specification without faults each property has its own number.
use Rattle.std.proofs.Common.{◌≡◌, ℕ, zero, suc, ◌+◌, ◌<◌, Bool, true, false, List, [], ◌∷◌, ◌++◌, Some, length, map, refl, sym, ap, ◌∙◌, arith}
use Rattle.std.specs.Prelude.{bytes_eq, slice_get, option_map}
use Rattle.std.proofs.lemmas.Option.{slice_get-map}
use Rattle.std.proofs.lemmas.Slice.Eq.{bytes_eq-Decides}
use Rattle.flow_syntax.specs.declared.property.PropDecl.{PropDecl}
use Rattle.flow_syntax.specs.declared.spec.Spec.{Spec}
use Rattle.flow_syntax.specs.DeclFaults.{duplicate, reading}
use Rattle.flow_syntax.specs.Faults.{HasNoFault, declaration}
use Rattle.value_domains.specs.Domains.{place_in}
use Rattle.expr_meaning.specs.Meaning.{property_number}

-- an item behind the first of two lists
behind : {X : Type 0} (xs ys : List X) (i : ℕ) → slice_get (xs ++ ys) (length xs + i) ≡ slice_get ys i
behind [] ys i = ap (slice_get ys) (omega arith)
behind (x ∷ xs) ys i = let next : length (x ∷ xs) + i ≡ suc (length xs + i) = omega arith in ap (slice_get (x ∷ xs ++ ys)) next ∙ behind xs ys i

-- no earlier one has the name
abbrev NoEarlier : List PropDecl → ℕ → PropDecl → Type 0
NoEarlier ps n p = (i : ℕ) (q : PropDecl) → i < n → slice_get ps i ≡ Some q → q.name.text ≡ p.name.text → ⊥

first_place : (ps : List PropDecl) (n : ℕ) (p : PropDecl) → slice_get ps n ≡ Some p → NoEarlier ps n p → place_in (map (λ d. d.name.text) ps) p.name.text ≡ n
first_place [] n p at apart = cc
first_place (q ∷ ps) zero p at apart = by (bytes_eq p.name.text q.name.text) ((bytes_eq-Decides p.name.text q.name.text).1 same)
  where
    same : p.name.text ≡ q.name.text
    same = let here : q ≡ p = cc in ap (λ (r : PropDecl). r.name.text) (sym here)

    by : (b : Bool) → b ≡ true → elim b as (λ b. ℕ) [ true ↦ 0 | false ↦ place_in (map (λ d. d.name.text) ps) p.name.text + 1 ] ≡ 0
    by true e = refl
    by false e = cc
first_place (q ∷ ps) (suc n) p at apart =
    by (bytes_eq p.name.text q.name.text) refl (first_place ps n p at (λ i r lt place e. apart (suc i) r (omega (arith, lt)) place e))
  where
    by : (b : Bool) → bytes_eq p.name.text q.name.text ≡ b → place_in (map (λ d. d.name.text) ps) p.name.text ≡ n
        → elim b as (λ b. ℕ) [ true ↦ 0 | false ↦ place_in (map (λ d. d.name.text) ps) p.name.text + 1 ] ≡ suc n
    by true e later = absurd (apart 0 q (omega arith) refl (sym ((bytes_eq-Decides p.name.text q.name.text).0 e)))
    by false e later = omega (arith, later)

-- the number of a property's name is the property's own
pub number_is : (spec : Spec) → HasNoFault spec → (n : ℕ) (p : PropDecl) → slice_get spec.properties n ≡ Some p → property_number spec p.name.text ≡ n
number_is spec faultless n p at =
    let functions = map (λ f. f.name) spec.functions in
    let properties = map (λ p. p.name) spec.properties in
    let place : (i : ℕ) (q : PropDecl) → slice_get spec.properties i ≡ Some q → slice_get (functions ++ properties) (length functions + i) ≡ Some q.name =
    λ i q at. behind functions properties i ∙ slice_get-map (λ (d : PropDecl). d.name) spec.properties i ∙ ap (option_map (λ (d : PropDecl). d.name)) at in
    first_place spec.properties n p at (λ i q lt early e. faultless _ _ (declaration (duplicate p.name (reading p.name (record {
      earlier = length functions + i;
      later = length functions + n;
      a = q.name;
      before = omega (arith, lt);
      first = place i q early;
      second = place n p at;
      like = e;
    })) refl)))
