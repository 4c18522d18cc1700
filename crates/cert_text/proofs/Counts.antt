-- Numbers and identifiers from their texts.
use Rattle.std.proofs.Common.{◌≡◌, ℕ, ◌<◌, ◌≤◌, ◌^◌, List, [], ◌∷◌, ◌++◌, false, Ok, Result, decimal, inl, inr, refl, sym, ap, subst, ◌∙◌, arith}
use Rattle.std.specs.Prelude.{◌==◌, IsUtf8, not, true}
use Rattle.std.specs.Char.{is_ascii_digit}
use Rattle.std.specs.Str.{all_ascii_digits}
use Rattle.std.specs.Str.Parse.{ParsesUnsigned, digits_value}
use Rattle.std.proofs.lemmas.Bool.{and_from, and_parts, cases_Bool}
use Rattle.std.proofs.lemmas.Bool.Decides.{nat_tests}
use Rattle.std.proofs.lemmas.Fmt.{digits_decimal, parse-decimal, decimal_injective}
use Rattle.std.proofs.lemmas.List.{append_cancel_left}
use Rattle.std.proofs.lemmas.Str.Parse.{IsNumeralModel, numerals_by_value, tells_all_ascii_digits}
use Rattle.flow_term.proofs.StepTexts.{utf8_digits}
use Rattle.flow_syntax.specs.Accepted.{IsIdentifier}
use Rattle.value_text.proofs.Leaves.{identifier_token}
use Rattle.value_text.proofs.Tokens.{token_utf8}
use Rattle.line_theory.specs.Lines.{lacks}
use Rattle.cert_text.specs.Texts.{IsCount}
use Rattle.cert_text.specs.inner.Bodies.{count_body}

own : IsNumeralModel (λ ds. all_ascii_digits ds ≡ true) (digits_value 10)
own = numerals_by_value _ tells_all_ascii_digits

-- a number's text is UTF-8
pub decimal_utf8 : (n : ℕ) (bs : List ℕ) → n < 2 ^ 64 → decimal n ≡ bs → IsUtf8 bs
decimal_utf8 n bs small e = subst IsUtf8 e (utf8_digits (decimal n) (digits_decimal own n small))

-- it is parsed as it
pub parsed : {E : Type 0} (n : ℕ) (bs text : List ℕ) (r : Result ℕ E) → n < 2 ^ 64 → decimal n ≡ bs → text ≡ bs → ParsesUnsigned 64 10 text r → r ≡ Ok n
parsed n bs text r small e same told = parse-decimal 64 n text r small small (same ∙ sym e) told

pub name_utf8 : (x bs : List ℕ) → IsIdentifier x → x ≡ bs → IsUtf8 bs
name_utf8 x bs h e = subst IsUtf8 e (token_utf8 x (identifier_token x h))

-- a count is behind its word
pub count_behind : (word body digits : List ℕ) (n : ℕ) → body ≡ word ++ digits → count_body word n ≡ body → decimal n ≡ digits
count_behind word body digits n e same = append_cancel_left word (decimal n) digits (same ∙ e)

pub one_number : (n m : ℕ) (digits : List ℕ) → IsCount n → m < 2 ^ 64 → decimal n ≡ digits → decimal m ≡ digits → n ≡ m
one_number n m digits h k e f = decimal_injective n m (omega (arith, h)) k (e ∙ sym f)

digit_differs : (d : ℕ) → is_ascii_digit d ≡ true → not (d == 10) ≡ true
digit_differs d h = elim (cases_Bool (d == 10)) [
  | inl holds ↦ (let same : d ≡ 10 = grind (arith, nat_tests, holds) in let no : true ≡ false = sym h ∙ ap is_ascii_digit same in cc)
  | inr fails ↦ ap not fails
]

digits_lack : (ds : List ℕ) → all_ascii_digits ds ≡ true → lacks 10 ds ≡ true
digits_lack [] h = refl
digits_lack (d ∷ ds) h =
    let parts = and_parts (is_ascii_digit d) (all_ascii_digits ds) h in
    and_from (not (d == 10)) (lacks 10 ds) (digit_differs d parts.0) (digits_lack ds parts.1)

pub number_lacks : (n : ℕ) → IsCount n → lacks 10 (decimal n) ≡ true
number_lacks n small = digits_lack (decimal n) (digits_decimal own n (omega (arith, small)))
