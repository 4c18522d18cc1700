-- Reading integers.
use Rattle.std.proofs.Common.{◌≡◌, ℕ, ◌<◌, ◌^◌, Bool, true, false, ◌&&◌, List, length, Some, None, refl, sym, subst, arith, inl, inr, w64}
use Rattle.std.specs.Prelude.{ℤ, pos, negsuc, Result, Ok, Err, nat_lt, if◌then◌else◌}
use Rattle.std.specs.Fmt.{signed_decimal}
use Rattle.std.specs.Result.{OkIff}
use Rattle.std.specs.Int.RustNames.{FitsSigned}
use Rattle.std.specs.Int.Signed.{mag}
use Rattle.std.specs.Str.{all_ascii_digits}
use Rattle.std.specs.Str.Parse.{IsNumeral, ParsesSigned, digits_value, signed_digits_value, without_leading_sign}
use Rattle.std.proofs.lemmas.Bool.{and_parts, cases_Bool}
use Rattle.std.proofs.lemmas.Bool.Decides.{nat_tests}
use Rattle.std.proofs.lemmas.Fmt.{parse-signed_decimal}
use Rattle.std.proofs.lemmas.Int.{to_z-of_z}
use Rattle.std.proofs.lemmas.Result.{OkIff-at_ok, OkIff-at_err}
use Rattle.std.proofs.lemmas.Str.Parse.{IsNumeralModel, numerals_by_value, tells_all_ascii_digits}
use mir.Val.{to_z, of_z}
use Rattle.value_text.specs.Integers.{IsI64}
use Rattle.value_text.proofs.Told.{one_is, passed}
use Rattle.value_text.specs.inner.Reading.{is_i64, is_numeral, number_in}

pub own : IsNumeralModel (λ ds. all_ascii_digits ds ≡ true) (digits_value 10)
own = numerals_by_value _ tells_all_ascii_digits

pub both : (a b : Bool) → a ≡ true → b ≡ true → (a && b) ≡ true
both true true h k = refl
both true false h k = cc
both false b h k = cc

numeral_test : (ds : List ℕ) → IsNumeral 10 ds → is_numeral ds ≡ true
numeral_test ds h = let some : nat_lt 0 (length ds) ≡ true = grind (arith, nat_tests, h.0) in both (nat_lt 0 (length ds)) (all_ascii_digits ds) some (own.from ds h.1)

is_a_numeral : (ds : List ℕ) → is_numeral ds ≡ true → IsNumeral 10 ds
is_a_numeral ds h =
    let parts = and_parts (nat_lt 0 (length ds)) (all_ascii_digits ds) h in
    let some : 0 < length ds = grind (arith, nat_tests, parts.0) in
    (some, own.to ds parts.1)

fits_test : (z : ℤ) → FitsSigned w64 z → is_i64 z ≡ true
fits_test (pos n) f = let small : n < 2 ^ 63 = f.sfits in grind (arith, nat_tests, small)
fits_test (negsuc n) f = let small : n < 2 ^ 63 = f.sfits in grind (arith, nat_tests, small)

test_fits : (z : ℤ) → is_i64 z ≡ true → FitsSigned w64 z
test_fits (pos n) h = record { sfits = grind (arith, nat_tests, h) }
test_fits (negsuc n) h = record { sfits = grind (arith, nat_tests, h) }

abbrev test : List ℕ → Bool
test bs = is_numeral (without_leading_sign bs) && is_i64 (signed_digits_value 10 bs)

abbrev Parses : List ℕ → Type 0
Parses bs = IsNumeral 10 (without_leading_sign bs) × FitsSigned w64 (signed_digits_value 10 bs)

to_test : (bs : List ℕ) → Parses bs → test bs ≡ true
to_test bs h = both (is_numeral (without_leading_sign bs)) (is_i64 (signed_digits_value 10 bs)) (numeral_test (without_leading_sign bs) h.0) (fits_test (signed_digits_value 10 bs) h.1)

from_test : (bs : List ℕ) → test bs ≡ true → Parses bs
from_test bs h = let parts = and_parts (is_numeral (without_leading_sign bs)) (is_i64 (signed_digits_value 10 bs)) h in (is_a_numeral (without_leading_sign bs) parts.0, test_fits (signed_digits_value 10 bs) parts.1)

-- what is parsed is what is read
pub number_found : {E : Type 0} (bs : List ℕ) (r : Result ℤ E) (z : ℤ) → ParsesSigned w64 10 bs r → r ≡ Ok z → number_in bs ≡ Some (to_z w64 (of_z w64 z))
number_found bs r z h e =
    let is = OkIff-at_ok r (Parses bs) (signed_digits_value 10 bs) z h e in
    let back : to_z w64 (of_z w64 z) ≡ z = to_z-of_z w64 z (subst (FitsSigned w64) (sym is.1) is.0.1) in
    rw (to_test bs is.0, back, is.1) refl

pub number_none : {E : Type 0} (bs : List ℕ) (r : Result ℤ E) (d : E) → ParsesSigned w64 10 bs r → r ≡ Err d → number_in bs ≡ None
number_none bs r d h e = elim (cases_Bool (test bs)) [
  | inl holds ↦ absurd (OkIff-at_err r (Parses bs) (signed_digits_value 10 bs) d h e (from_test bs holds))
  | inr fails ↦ rw fails refl
]

is_small : (z : ℤ) → is_i64 z ≡ true → IsI64 z
is_small (pos n) h = let small : n < 2 ^ 63 = grind (arith, nat_tests, h) in small
is_small (negsuc n) h = let small : n < 2 ^ 63 = grind (arith, nat_tests, h) in small

pub number_small : (bs : List ℕ) (z : ℤ) → number_in bs ≡ Some z → IsI64 z
number_small bs z e =
    let p = passed (test bs) (Some (signed_digits_value 10 bs)) z e in
    let q = and_parts (is_numeral (without_leading_sign bs)) (is_i64 (signed_digits_value 10 bs)) p.0 in
    subst IsI64 (one_is (signed_digits_value 10 bs) z p.1) (is_small (signed_digits_value 10 bs) q.1)

-- an integer's text is read as it
abbrev answer : Bool → ℤ → Result ℤ Bool
answer true z = Ok z
answer false z = Err false

decided : (t : Bool) (P : Type 0) (z : ℤ) → (t ≡ true → P) → (P → t ≡ true) → OkIff (answer t z) P z
decided true P z f g = (f refl, refl)
decided false P z f g = λ p. let no : false ≡ true = g p in cc

value_of : (t : Bool) (v z : ℤ) → answer t v ≡ Ok z → (if t then Some v else None) ≡ Some z
value_of true v z e = cc
value_of false v z e = cc

pub fits_i64 : (z : ℤ) → IsI64 z → FitsSigned w64 z
fits_i64 (pos n) h = record { sfits = h }
fits_i64 (negsuc n) h = record { sfits = h }

pub number_back : (z : ℤ) → FitsSigned w64 z → mag z < 2 ^ 63 → number_in (signed_decimal z) ≡ Some z
number_back z fits small =
    let bs = signed_decimal z in
    value_of (test bs) (signed_digits_value 10 bs) z
    (parse-signed_decimal w64 z bs (answer (test bs) (signed_digits_value 10 bs)) fits small refl (decided (test bs) (Parses bs) (signed_digits_value 10 bs) (from_test bs) (to_test bs)))
