-- Reading paths.
use Rattle.std.proofs.Common.{◌≡◌, ℕ, suc, ◌+◌, ◌*◌, ◌<◌, ◌^◌, true, false, ◌&&◌, List, [], ◌∷◌, ◌++◌, length, get_or, drop, Some, None, refl, sym, ap, ◌∙◌, subst, arith, inl, inr}
use Rattle.std.specs.Prelude.{Err, ◌==◌, nat_lt, bytes_eq, decimal}
use Rattle.std.specs.Char.{digit_value, is_ascii_digit}
use Rattle.std.specs.List.{flat_map, list_all}
use Rattle.std.specs.Str.{all_ascii_digits}
use Rattle.std.specs.Str.Parse.{digits_value_after}
use Rattle.std.proofs.lemmas.Bool.{and_parts, both_ways, cases_Bool}
use Rattle.std.proofs.lemmas.Bool.Decides.{nat_tests}
use Rattle.std.proofs.lemmas.Fmt.{decimal_nonempty, digits_decimal, digits_value-decimal}
use Rattle.std.proofs.lemmas.Slice.Eq.{bytes_eq-Decides}
use Rattle.flow_term.specs.declared.path_text.PathRefusal.{PathRefusal}
use Rattle.flow_term.specs.declared.path_text.PathRefusal.TheVariants as paths
use Rattle.flow_term.specs.Paths.{AreSteps, IsReadAs, path_text, step_text}
use Rattle.value_text.specs.declared.refusal.ValueRefusal.{ValueRefusal}
use Rattle.value_text.specs.inner.Reading.{GivesNone, IsOfPath, path_if, path_of, steps_after, steps_behind}
use Rattle.value_text.proofs.Told.{one_is, passed}
use Rattle.value_text.proofs.Numbers.{own, both}

no_slash : (d : ℕ) → is_ascii_digit d ≡ true → (d == 47) ≡ false
no_slash d h = grind (arith, nat_tests)

-- digits in front are one number
digits_first : (n : ℕ) (ds tail : List ℕ) → all_ascii_digits ds ≡ true → steps_after n (ds ++ tail) ≡ steps_after (digits_value_after 10 n ds) tail
digits_first n [] tail h = refl
digits_first n (d ∷ ds) tail h =
    let parts = and_parts (is_ascii_digit d) (all_ascii_digits ds) h in
    rw (no_slash d parts.0) (digits_first (n * 10 + digit_value d) ds tail parts.1)

one_step : (m : ℕ) (tail : List ℕ) → m < 2 ^ 32 → steps_after 0 (decimal m ++ tail) ≡ steps_after m tail
one_step m tail small = digits_first 0 (decimal m) tail (digits_decimal own m (omega arith)) ∙ ap (λ n. steps_after n tail) (digits_value-decimal own m (omega arith))

steps_back : (n : ℕ) (path : List ℕ) → AreSteps path → steps_after n (flat_map step_text path) ≡ n ∷ path
steps_back n [] h = refl
steps_back n (m ∷ path) h = ap (λ ms. n ∷ ms) (one_step m (flat_map step_text path) h.0 ∙ steps_back m path h.1)

some_behind : (bs : List ℕ) → 0 < length bs → steps_behind bs ≡ steps_after 0 bs
some_behind [] h = absurd (omega arith)
some_behind (b ∷ bs) h = refl

some_more : (xs ys : List ℕ) → 0 < length xs → 0 < length (xs ++ ys)
some_more [] ys h = absurd (omega arith)
some_more (x ∷ xs) ys h = omega arith

path_back : (path : List ℕ) → AreSteps path → steps_behind (drop 1 (path_text path)) ≡ path
path_back [] h = refl
path_back (m ∷ path) h =
    some_behind (decimal m ++ flat_map step_text path) (some_more (decimal m) (flat_map step_text path) (decimal_nonempty m (omega (arith, h.0))))
    ∙ one_step m (flat_map step_text path) h.0 ∙ steps_back m path h.1

small_test : (path : List ℕ) → AreSteps path → list_all (λ n. nat_lt n (2 ^ 32)) path ≡ true
small_test [] h = refl
small_test (n ∷ path) h = let small : nat_lt n (2 ^ 32) ≡ true = grind (arith, nat_tests, h.0) in both (nat_lt n (2 ^ 32)) (list_all (λ n. nat_lt n (2 ^ 32)) path) small (small_test path h.1)

test_small : (path : List ℕ) → list_all (λ n. nat_lt n (2 ^ 32)) path ≡ true → AreSteps path
test_small [] h = tt
test_small (n ∷ path) h =
    let parts = and_parts (nat_lt n (2 ^ 32)) (list_all (λ n. nat_lt n (2 ^ 32)) path) h in
    let small : n < 2 ^ 32 = grind (arith, nat_tests, parts.0) in
    (small, test_small path parts.1)

pub same_test : (xs : List ℕ) → bytes_eq xs xs ≡ true
same_test xs = elim (cases_Bool (bytes_eq xs xs)) [ inl h ↦ h | inr h ↦ absurd (both_ways (bytes_eq xs xs) h ((bytes_eq-Decides xs xs).1 refl)) ]

-- a path's text is read as it
pub path_read : (path bs : List ℕ) → AreSteps path → path_text path ≡ bs → path_of bs ≡ Some path
unfolding path_of
path_read path bs h e = rw (← e, path_back path h, both (bytes_eq (path_text path) (path_text path)) (list_all (λ n. nat_lt n (2 ^ 32)) path) (same_test (path_text path)) (small_test path h)) refl

no_path_if : (bs path : List ℕ) → (AreSteps path → path_text path ≡ bs → ⊥) → path_if bs path ≡ None
no_path_if bs path none = elim (cases_Bool (bytes_eq (path_text path) bs && list_all (λ n. nat_lt n (2 ^ 32)) path)) [
  | inl holds ↦ (let parts = and_parts (bytes_eq (path_text path) bs) (list_all (λ n. nat_lt n (2 ^ 32)) path) holds in
      absurd (none (test_small path parts.1) ((bytes_eq-Decides (path_text path) bs).0 parts.0)))
  | inr fails ↦ rw fails refl
]

pub path_is : (bs path : List ℕ) → path_of bs ≡ Some path → AreSteps path × (path_text path ≡ bs)
unfolding path_of
path_is bs path e =
    let steps = steps_behind (drop 1 bs) in
    let p = passed (bytes_eq (path_text steps) bs && list_all (λ n. nat_lt n (2 ^ 32)) steps) (Some steps) path e in
    let q = and_parts (bytes_eq (path_text steps) bs) (list_all (λ n. nat_lt n (2 ^ 32)) steps) p.0 in
    let is = one_is steps path p.1 in
    (subst AreSteps is (test_small steps q.1), ap path_text (sym is) ∙ (bytes_eq-Decides (path_text steps) bs).0 q.0)

-- a refusal is one
pub no_path : (p : PathRefusal) (e : ValueRefusal) (bs : List ℕ) → IsOfPath p e → ((path : List ℕ) → AreSteps path → path_text path ≡ bs → IsReadAs (Err p) path) → GivesNone e (path_of bs)
unfolding path_of
no_path paths.Form e bs is none = rw is (no_path_if bs (steps_behind (drop 1 bs)) (none (steps_behind (drop 1 bs))))
no_path paths.NoMemory e bs is none = rw is tt

-- numbers that fit are steps
pub fitting : (steps : List ℕ) → ((i : ℕ) → get_or steps i 0 < 2 ^ 32) → AreSteps steps
fitting [] h = tt
fitting (n ∷ steps) h = (h 0, fitting steps (λ i. h (suc i)))
