-- The place of a name, name by name.
use Rattle.std.proofs.Common.{◌≡◌, ℕ, ◌+◌, ◌<◌, Bool, true, false, List, [], ◌∷◌, drop, length, refl, sym, ap, ◌∙◌, subst, arith}
use Rattle.std.specs.Prelude.{bytes_eq, get_or}
use Rattle.std.proofs.Math.Seq.{drop-cons}
use Rattle.std.proofs.Math.Numerals.{add-one}
use Rattle.std.proofs.lemmas.Slice.Eq.{bytes_eq-Decides}
use Rattle.value_domains.specs.Domains.{place_in}

at_front : (n : List ℕ) (ns : List (List ℕ)) (x : List ℕ) → n ≡ x → place_in (n ∷ ns) x ≡ 0
at_front n ns x same = ap (λ b. elim b as (λ b. ℕ) [ true ↦ 0 | false ↦ place_in ns x + 1 ]) ((bytes_eq-Decides x n).1 (sym same))

behind_front : (n : List ℕ) (ns : List (List ℕ)) (x : List ℕ) → (n ≡ x → ⊥) → place_in (n ∷ ns) x ≡ place_in ns x + 1
behind_front n ns x other = by (bytes_eq x n) refl
  where
    by : (b : Bool) → bytes_eq x n ≡ b → elim b as (λ b. ℕ) [ true ↦ 0 | false ↦ place_in ns x + 1 ] ≡ place_in ns x + 1
    by true h = absurd (other (sym ((bytes_eq-Decides x n).0 h)))
    by false h = refl

opened : (ns : List (List ℕ)) (i : ℕ) (n : List ℕ) → i < length ns → n ≡ get_or ns i n → drop i ns ≡ n ∷ drop (i + 1) ns
opened ns i n within is = drop-cons ns i n within ∙ (λ j. sym is j ∷ drop (sym (add-one i) j) ns)

pub place_found : (ns : List (List ℕ)) (i : ℕ) (n x : List ℕ) → i < length ns → n ≡ get_or ns i n → place_in ns x ≡ i + place_in (drop i ns) x → n ≡ x → i ≡ place_in ns x
place_found ns i n x within is so_far same =
    let front : place_in (drop i ns) x ≡ 0 = ap (λ ns. place_in ns x) (opened ns i n within is) ∙ at_front n (drop (i + 1) ns) x same in
    omega (arith, so_far, front)

pub place_passed : (ns : List (List ℕ)) (i : ℕ) (n x : List ℕ) → i < length ns → n ≡ get_or ns i n → place_in ns x ≡ i + place_in (drop i ns) x → (n ≡ x → ⊥) → place_in ns x ≡ i + 1 + place_in (drop (i + 1) ns) x
place_passed ns i n x within is so_far other =
    let behind : place_in (drop i ns) x ≡ place_in (drop (i + 1) ns) x + 1 = ap (λ ns. place_in ns x) (opened ns i n within is) ∙ behind_front n (drop (i + 1) ns) x other in
    omega (arith, so_far, behind)
