-- The value of digits as an `i64`.
use Rattle.std.proofs.Common.{◌≡◌, ℕ, ◌<◌, ◌≤◌, List, Some, None, inl, inr, arith, w64}
use Rattle.std.specs.Prelude.{ℤ, pos, nat_le}
use Rattle.std.specs.Str.Parse.{digits_value}
use Rattle.std.proofs.lemmas.Bool.Decides.{nat_tests}
use Rattle.std.proofs.lemmas.Int.{to_z-of_z, fits_signed_from_abs}
use mir.Val.{to_z, of_z}
use Rattle.flow_syntax.specs.Lexing.{number_of}
use Rattle.flow_syntax.proofs.Fronts.{chosen}

number_back : (v : ℕ) → v ≤ 9223372036854775807 → to_z w64 (of_z w64 (pos v)) ≡ pos v
number_back v h = to_z-of_z w64 (pos v) (fits_signed_from_abs w64 (pos v) (omega arith))

pub number_found : (digits : List ℕ) (z : ℤ) → number_of digits ≡ Some z → (digits_value 10 digits ≤ 9223372036854775807) × (to_z w64 (of_z w64 z) ≡ pos (digits_value 10 digits))
number_found digits z e = elim (chosen (nat_le (digits_value 10 digits) 9223372036854775807) (Some (pos (digits_value 10 digits))) None (Some z) e) [
  | inl h ↦ (let small : digits_value 10 digits ≤ 9223372036854775807 = grind (arith, nat_tests) in
      let same : pos (digits_value 10 digits) ≡ z = cc in
      (small, rw (← same) (number_back (digits_value 10 digits) small)))
  | inr h ↦ cc
]

pub number_none : (digits : List ℕ) → number_of digits ≡ None → 9223372036854775807 < digits_value 10 digits
number_none digits e = elim (chosen (nat_le (digits_value 10 digits) 9223372036854775807) (Some (pos (digits_value 10 digits))) None None e) [
  | inl h ↦ cc
  | inr h ↦ grind (arith, nat_tests)
]
