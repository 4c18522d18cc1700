-- Numbers of one to nineteen digits.
use Rattle.std.proofs.Common.{◌≡◌, ℕ, ◌<◌, ◌≤◌, ◌^◌, ◌&&◌, true, List, [], ◌∷◌, length, refl, sym, ap, ◌∙◌, arith}
use Rattle.std.specs.Prelude.{Result, Ok, IsUtf8}
use Rattle.std.specs.Char.{is_ascii_digit}
use Rattle.std.specs.List.{list_all}
use Rattle.std.specs.Str.{all_ascii_digits}
use Rattle.std.specs.Str.Parse.{ParsesUnsigned, digits_value}
use Rattle.std.proofs.lemmas.Str.Parse.{IsNumeralModel, digits_value_short, numerals_by_value, parse_gives, tells_all_ascii_digits}
use Rattle.flow_term.proofs.StepTexts.{utf8_digits}

own : IsNumeralModel (λ ds. all_ascii_digits ds ≡ true) (digits_value 10)
own = numerals_by_value _ tells_all_ascii_digits

pub same_digits : (ds : List ℕ) → list_all is_ascii_digit ds ≡ all_ascii_digits ds
same_digits [] = refl
same_digits (d ∷ ds) = ap (λ b. is_ascii_digit d && b) (same_digits ds)

-- so few digits are parsed as their value
pub parsed : {E : Type 0} (ds : List ℕ) (r : Result ℕ E) → list_all is_ascii_digit ds ≡ true → 0 < length ds → length ds ≤ 19 → ParsesUnsigned 64 10 ds r → r ≡ Ok (digits_value 10 ds)
parsed {E} ds r digits some few h =
    let short : digits_value 10 ds < 10 ^ 19 = digits_value_short own ds 19 (sym (same_digits ds) ∙ digits) few in
    parse_gives own {E = E} 64 ds r h (sym (same_digits ds) ∙ digits) some (omega (arith, short))

pub are_utf8 : (ds : List ℕ) → list_all is_ascii_digit ds ≡ true → IsUtf8 ds
are_utf8 ds h = utf8_digits ds (sym (same_digits ds) ∙ h)
