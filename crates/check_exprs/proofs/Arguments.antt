-- The arguments of a call, one more at the end, and expressions of which the same is expected.
use Rattle.std.proofs.Common.{◌≡◌, ℕ, ◌+◌, ◌<◌, List, [], ◌∷◌, ◌++◌, length, take, get_or, map, Some, None, refl, sym, ap, subst, ◌∙◌, arith}
use Rattle.std.specs.Prelude.{slice_get}
use Rattle.std.proofs.lemmas.List.{take_more, map-append, length-take-le}
use Rattle.flow_syntax.specs.declared.expr.Expr.{Expr}
use Rattle.flow_syntax.specs.declared.spec.Named.{Named}
use Rattle.flow_syntax.specs.declared.spec.Spec.{Spec}
use Rattle.flow_syntax.specs.Scopes.{Scope}
use Rattle.flow_syntax.specs.Expected.{Expected}
use Rattle.flow_syntax.specs.Occurrences.{Occurrence, occurrence, arguments}
use Rattle.check_exprs.specs.declared.notes.Notes.{Notes}
use Rattle.check_exprs.specs.inner.Noted.{AreNoted, IsNoted}
use Rattle.check_exprs.specs.inner.Plans.{expected_argument}
use Rattle.check_exprs.proofs.Parts.{parts_push}

-- one argument more
arguments_push : (s : Scope) (names : List Named) (xs : List Expr) (e : Expr) → arguments s names (xs ++ e ∷ []) ≡ arguments s names xs ++ occurrence s (expected_argument (slice_get names (length xs))) e ∷ []
arguments_push s [] [] e = refl
arguments_push s [] (x ∷ xs) e = ap (λ (ps : List Occurrence). occurrence s (expected_argument None) x ∷ ps) (arguments_push s [] xs e)
arguments_push s (n ∷ names) [] e = refl
arguments_push s (n ∷ names) (x ∷ xs) e = ap (λ (ps : List Occurrence). occurrence s (expected_argument (Some n)) x ∷ ps) (arguments_push s names xs e)

taken : (xs : List Expr) (i : ℕ) (e : Expr) → i < length xs → e ≡ get_or xs i e → take (i + 1) xs ≡ take i xs ++ e ∷ []
taken xs i e within is = take_more xs i e within ∙ ap (λ (x : Expr). take i xs ++ x ∷ []) (sym is)

-- the next argument is checked
pub arguments_next : (spec : Spec) (s : Scope) (names : List Named) (xs : List Expr) (i : ℕ) (e : Expr) (w : Expected) {o m n : Notes} → i < length xs → e ≡ get_or xs i e → w ≡ expected_argument (slice_get names i)
    → AreNoted spec (arguments s names (take i xs)) o m → IsNoted spec (occurrence s w e) m n → AreNoted spec (arguments s names (take (i + 1) xs)) o n
arguments_next spec s names xs i e w {o} {m} {n} within is expected_type g h =
    let at : length (take i xs) ≡ i = length-take-le i xs (omega arith) in
    let made : arguments s names (take (i + 1) xs) ≡ arguments s names (take i xs) ++ occurrence s w e ∷ [] =
    ap (arguments s names) (taken xs i e within is) ∙ arguments_push s names (take i xs) e
    ∙ ap (λ (v : Expected). arguments s names (take i xs) ++ occurrence s v e ∷ []) (ap (λ k. expected_argument (slice_get names k)) at ∙ sym expected_type) in
    subst (λ (ps : List Occurrence). AreNoted spec ps o n) (sym made) (parts_push spec (arguments s names (take i xs)) (occurrence s w e) g h)

-- the next expression is checked
pub each_next : (spec : Spec) (s : Scope) (w : Expected) (xs : List Expr) (i : ℕ) (e : Expr) {o m n : Notes} → i < length xs → e ≡ get_or xs i e → AreNoted spec (map (occurrence s w) (take i xs)) o m
    → IsNoted spec (occurrence s w e) m n → AreNoted spec (map (occurrence s w) (take (i + 1) xs)) o n
each_next spec s w xs i e {o} {m} {n} within is g h =
    let made : map (occurrence s w) (take (i + 1) xs) ≡ map (occurrence s w) (take i xs) ++ occurrence s w e ∷ [] = ap (map (occurrence s w)) (taken xs i e within is) ∙ map-append (occurrence s w) (take i xs) (e ∷ []) in
    subst (λ (ps : List Occurrence). AreNoted spec ps o n) (sym made) (parts_push spec (map (occurrence s w) (take i xs)) (occurrence s w e) g h)
