-- The decimal text of a number is a numeral of it.
use Rattle.std.proofs.Common.{◌≡◌, ℕ, zero, suc, ◌+◌, ◌-◌, ◌<◌, ◌≤◌, ◌^◌, true, false, List, [], ◌∷◌, map, refl, sym, ap, ◌∙◌, subst, arith, decimal, lit<, lit≤}
use Rattle.std.specs.Prelude.{ℤ, pos, negsuc, ◌==◌, ◌||◌, ◌&&◌, IsUtf8, nat_le}
use Rattle.std.specs.Fmt.{signed_decimal}
use Rattle.std.specs.List.{AllByRecursion}
use Rattle.std.specs.Int.Digits.{digits_of, number_from_digits, AllBelowBase}
use Rattle.std.proofs.lemmas.Bool.Decides.{nat_tests}
use Rattle.std.proofs.lemmas.Fmt.{decimal_digit, decimal_nonempty, decimal-digits_of}
use Rattle.std.proofs.lemmas.Int.Digits.{all_below_base_digits_of, number_digits_of}
use Rattle.std.proofs.lemmas.Str.{IsUtf8-nil}
use Rattle.quoted_text.proofs.Cuts.{before_text}
use Rattle.aterm_text.specs.declared.class.ByteClass.TheVariants.{Digit}
use Rattle.aterm_text.specs.Bytes.{class_of, is_letter}
use Rattle.aterm_text.specs.Grammar.{IsDigits, number_of, signed, IsNumeral, IsI64}
use Rattle.aterm_text.proofs.Classes.{digit_ascii}

no_letter : (c : ℕ) → c ≤ 57 → (is_letter c || c == 95) ≡ false
no_letter c h = grind (arith, nat_tests)

in_digits : (c : ℕ) → 48 ≤ c → c ≤ 57 → (nat_le 48 c && nat_le c 57) ≡ true
in_digits c h k = grind (arith, nat_tests)

class_digit : (c : ℕ) → 48 ≤ c → c ≤ 57 → class_of c ≡ Digit
unfolding class_of
class_digit c h k = rw (no_letter c k, in_digits c h k) refl

abbrev AreDigits : List ℕ → Type 0
AreDigits bytes = AllByRecursion (λ c. class_of c ≡ Digit) bytes

shown_digits : (ds : List ℕ) → AllBelowBase 10 ds → AreDigits (map (λ d. 48 + d) ds)
shown_digits [] h = tt
shown_digits (d ∷ ds) h = (class_digit (48 + d) (omega arith) (omega (arith, h.0)), shown_digits ds h.1)

shown_back : (ds : List ℕ) → map (λ c. c - 48) (map (λ d. 48 + d) ds) ≡ ds
shown_back [] = refl
shown_back (d ∷ ds) = let e : 48 + d - 48 ≡ d = omega arith in ap (λ (n : ℕ). n ∷ map (λ c. c - 48) (map (λ x. 48 + x) ds)) e ∙ ap (λ (xs : List ℕ). d ∷ xs) (shown_back ds)

digits_utf8 : (p : List ℕ) → AreDigits p → IsUtf8 p
digits_utf8 [] h = IsUtf8-nil
digits_utf8 (c ∷ p) h = before_text c p (digit_ascii c h.0) (digits_utf8 p h.1)

record Decimal (n : ℕ) : Type 0 where
  are_digits : AreDigits (decimal n)
  value : number_of (decimal n) ≡ n

decimal_is : (n : ℕ) → n < 2 ^ 64 → Decimal n
decimal_is zero h = record {
  are_digits = subst AreDigits (sym (decimal_digit 0 (lit< tt))) (class_digit 48 (lit≤ tt) (lit≤ tt), tt);
  value = ap number_of (decimal_digit 0 (lit< tt));
}
decimal_is (suc n) h =
    let shown : decimal (suc n) ≡ map (λ d. 48 + d) (digits_of 10 (suc n)) = decimal-digits_of (suc n) (omega arith) h in
    record {
      are_digits = subst AreDigits (sym shown) (shown_digits (digits_of 10 (suc n)) (all_below_base_digits_of 10 (suc n) (lit≤ tt)));
      value = ap number_of shown ∙ ap (number_from_digits 10) (shown_back (digits_of 10 (suc n))) ∙ number_digits_of 10 (suc n) (lit≤ tt);
    }

decimal_digits : (n : ℕ) → n < 2 ^ 64 → IsDigits (decimal n)
decimal_digits n h = record { digits = (decimal_is n h).are_digits; some = decimal_nonempty n h }

pub decimal_numeral : (n : ℤ) → IsI64 n → IsNumeral (signed_decimal n) n
decimal_numeral (pos n) h = record { negative = false; digits = decimal n; are_digits = decimal_digits n (omega arith); value = sym (ap pos (decimal_is n (omega arith)).value); whole = refl }
decimal_numeral (negsuc n) h = record {
  negative = true;
  digits = decimal (suc n);
  are_digits = decimal_digits (suc n) (omega arith);
  value = sym (ap (signed true) (decimal_is (suc n) (omega arith)).value);
  whole = refl;
}

pub decimal_utf8 : (n : ℤ) → IsI64 n → IsUtf8 (signed_decimal n)
decimal_utf8 (pos n) h = digits_utf8 (decimal n) (decimal_is n (omega arith)).are_digits
decimal_utf8 (negsuc n) h = before_text 45 (decimal (suc n)) (lit< tt) (digits_utf8 (decimal (suc n)) (decimal_is (suc n) (omega arith)).are_digits)
