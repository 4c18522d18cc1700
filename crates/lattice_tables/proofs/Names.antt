-- The number of a name, as a search for it finds it, and the numbers of more names.
use Rattle.std.proofs.Common.{◌≡◌, ℕ, ◌+◌, ◌<◌, Bool, true, false, List, ◌∷◌, length, drop, get_or, arith, add-one, refl, sym, ap, ◌∙◌, bytes_eq, drop-cons}
use Rattle.std.proofs.lemmas.Slice.Eq.{bytes_eq-Decides}
use Rattle.flow_syntax.specs.declared.spec.Named.{Named}
use Rattle.value_domains.specs.Domains.{place_in, texts_of}

at_front : (e : Named) (es : List Named) (x : List ℕ) → e.text ≡ x → place_in (texts_of (e ∷ es)) x ≡ 0
at_front e es x same = ap (λ b. elim b as (λ b. ℕ) [ true ↦ 0 | false ↦ place_in (texts_of es) x + 1 ]) ((bytes_eq-Decides x e.text).1 (sym same))

behind_front : (e : Named) (es : List Named) (x : List ℕ) → (e.text ≡ x → ⊥) → place_in (texts_of (e ∷ es)) x ≡ place_in (texts_of es) x + 1
behind_front e es x other = by (bytes_eq x e.text) refl
  where
    by : (b : Bool) → bytes_eq x e.text ≡ b → elim b as (λ b. ℕ) [ true ↦ 0 | false ↦ place_in (texts_of es) x + 1 ] ≡ place_in (texts_of es) x + 1
    by true h = absurd (other (sym ((bytes_eq-Decides x e.text).0 h)))
    by false h = refl

opened : (es : List Named) (i : ℕ) (e : Named) → i < length es → e ≡ get_or es i e → drop i es ≡ e ∷ drop (i + 1) es
opened es i e within is = drop-cons es i e within ∙ (λ j. sym is j ∷ drop (sym (add-one i) j) es)

pub place_found : (es : List Named) (i : ℕ) (e : Named) (x : List ℕ) → i < length es → e ≡ get_or es i e → place_in (texts_of es) x ≡ i + place_in (texts_of (drop i es)) x → e.text ≡ x → i ≡ place_in (texts_of es) x
place_found es i e x within is so_far same =
    let front : place_in (texts_of (drop i es)) x ≡ 0 = ap (λ es. place_in (texts_of es) x) (opened es i e within is) ∙ at_front e (drop (i + 1) es) x same in
    omega (arith, so_far, front)

pub place_passed : (es : List Named) (i : ℕ) (e : Named) (x : List ℕ) → i < length es → e ≡ get_or es i e → place_in (texts_of es) x ≡ i + place_in (texts_of (drop i es)) x → (e.text ≡ x → ⊥)
    → place_in (texts_of es) x ≡ i + 1 + place_in (texts_of (drop (i + 1) es)) x
place_passed es i e x within is so_far other =
    let front : place_in (texts_of (drop i es)) x ≡ place_in (texts_of (drop (i + 1) es)) x + 1 = ap (λ es. place_in (texts_of es) x) (opened es i e within is) ∙ behind_front e (drop (i + 1) es) x other in
    omega (arith, so_far, front)
