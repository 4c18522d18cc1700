-- Which bytes have a class.
use Rattle.std.proofs.Common.{◌≡◌, ℕ, ◌<◌, ◌≤◌, ◌||◌, ◌&&◌, ◌==◌, Bool, true, false, refl, ap, ◌∙◌, subst, arith}
use Rattle.std.specs.Prelude.{if◌then◌else◌, nat_le}
use Rattle.std.proofs.lemmas.Bool.Decides.{nat_tests}
use Rattle.quoted_text.proofs.Escapes.{same_byte}
use Rattle.aterm_text.specs.declared.class.ByteClass.{ByteClass}
use Rattle.aterm_text.specs.declared.class.ByteClass.TheVariants.{Letter, Digit, Minus, Sign, Blank, Quote, Comma, Parenthesis, Bracket, Brace, Closing, Exclamation, Less, Other}
use Rattle.aterm_text.specs.Bytes.{class_of, is_letter, is_real_mark}

-- what a byte of a class may be
abbrev pub IsByteOf : ByteClass → ℕ → Type 0
IsByteOf Letter c = c < 128
IsByteOf Digit c = (48 ≤ c) × (c ≤ 57)
IsByteOf Minus c = c ≡ 45
IsByteOf Sign c = c < 128
IsByteOf Blank c = c < 128
IsByteOf Quote c = c ≡ 34
IsByteOf Comma c = c ≡ 44
IsByteOf Parenthesis c = c ≡ 40
IsByteOf Bracket c = c ≡ 91
IsByteOf Brace c = c ≡ 123
IsByteOf Closing c = c < 128
IsByteOf Exclamation c = c ≡ 33
IsByteOf Less c = c ≡ 60
IsByteOf Other c = Unit {0}

chosen : (b : Bool) (x y : ByteClass) (c : ℕ) → (b ≡ true → IsByteOf x c) → IsByteOf y c → IsByteOf (if b then x else y) c
chosen true x y c h k = h refl
chosen false x y c h k = k

letter_byte : (c : ℕ) → (is_letter c || c == 95) ≡ true → c < 128
letter_byte c h = grind (arith, nat_tests)

digit_byte : (c : ℕ) → (nat_le 48 c && nat_le c 57) ≡ true → (48 ≤ c) × (c ≤ 57)
digit_byte c h = (grind (arith, nat_tests), grind (arith, nat_tests))

sign_byte : (c : ℕ) → (c == 43 || c == 42 || c == 36) ≡ true → c < 128
sign_byte c h = grind (arith, nat_tests)

blank_byte : (c : ℕ) → (c == 32 || c == 9 || c == 10 || c == 13) ≡ true → c < 128
blank_byte c h = grind (arith, nat_tests)

closing_byte : (c : ℕ) → (c == 41 || c == 93 || c == 125) ≡ true → c < 128
closing_byte c h = grind (arith, nat_tests)

pub byte_of_class : (c : ℕ) → IsByteOf (class_of c) c
unfolding class_of
byte_of_class c =
    chosen (is_letter c || c == 95) Letter _ c (letter_byte c) (
    chosen (nat_le 48 c && nat_le c 57) Digit _ c (digit_byte c) (
    chosen (c == 45) Minus _ c (same_byte c 45) (
    chosen (c == 43 || c == 42 || c == 36) Sign _ c (sign_byte c) (
    chosen (c == 32 || c == 9 || c == 10 || c == 13) Blank _ c (blank_byte c) (
    chosen (c == 34) Quote _ c (same_byte c 34) (
    chosen (c == 44) Comma _ c (same_byte c 44) (
    chosen (c == 40) Parenthesis _ c (same_byte c 40) (
    chosen (c == 91) Bracket _ c (same_byte c 91) (
    chosen (c == 123) Brace _ c (same_byte c 123) (
    chosen (c == 41 || c == 93 || c == 125) Closing _ c (closing_byte c) (
    chosen (c == 33) Exclamation _ c (same_byte c 33) (
    chosen (c == 60) Less Other c (same_byte c 60) tt))))))))))))

-- a byte of this class
pub is_byte_of : (c : ℕ) (k : ByteClass) → class_of c ≡ k → IsByteOf k c
is_byte_of c k h = subst (λ (j : ByteClass). IsByteOf j c) h (byte_of_class c)

pub digit_low : (c : ℕ) → class_of c ≡ Digit → 48 ≤ c
digit_low c h = let both : (48 ≤ c) × (c ≤ 57) = is_byte_of c Digit h in both.0

pub digit_high : (c : ℕ) → class_of c ≡ Digit → c ≤ 57
digit_high c h = let both : (48 ≤ c) × (c ≤ 57) = is_byte_of c Digit h in both.1

pub letter_ascii : (c : ℕ) → class_of c ≡ Letter → c < 128
letter_ascii c h = is_byte_of c Letter h

pub sign_ascii : (c : ℕ) → class_of c ≡ Sign → c < 128
sign_ascii c h = is_byte_of c Sign h

minus_is : (c : ℕ) → class_of c ≡ Minus → c ≡ 45
minus_is c h = is_byte_of c Minus h

pub minus_ascii : (c : ℕ) → class_of c ≡ Minus → c < 128
minus_ascii c h = let e : c ≡ 45 = minus_is c h in omega arith

pub digit_ascii : (c : ℕ) → class_of c ≡ Digit → c < 128
digit_ascii c h = let high : c ≤ 57 = digit_high c h in omega arith

pub ruleset byte_ranges = (digit_low, digit_high, letter_ascii, sign_ascii, minus_ascii, digit_ascii)

-- the classes of the bytes that the grammar names
pub class_quote : class_of 34 ≡ Quote
unfolding class_of
class_quote = refl

pub class_comma : class_of 44 ≡ Comma
unfolding class_of
class_comma = refl

pub class_minus : class_of 45 ≡ Minus
unfolding class_of
class_minus = refl

pub class_parenthesis : class_of 40 ≡ Parenthesis
unfolding class_of
class_parenthesis = refl

pub class_bracket : class_of 91 ≡ Bracket
unfolding class_of
class_bracket = refl

pub class_brace : class_of 123 ≡ Brace
unfolding class_of
class_brace = refl

pub class_closing_list : class_of 93 ≡ Closing
unfolding class_of
class_closing_list = refl

pub class_closing_call : class_of 41 ≡ Closing
unfolding class_of
class_closing_call = refl

pub class_closing_annotations : class_of 125 ≡ Closing
unfolding class_of
class_closing_annotations = refl

pub class_exclamation : class_of 33 ≡ Exclamation
unfolding class_of
class_exclamation = refl

pub class_less : class_of 60 ≡ Less
unfolding class_of
class_less = refl

-- the classes of what a number before it ends at
abbrev pub ends_number : ByteClass → Bool
ends_number Blank = true
ends_number Comma = true
ends_number Brace = true
ends_number Closing = true
ends_number _ = false

class_point : class_of 46 ≡ Other
unfolding class_of
class_point = refl

class_e : class_of 101 ≡ Letter
unfolding class_of
class_e = refl

class_capital_e : class_of 69 ≡ Letter
unfolding class_of
class_capital_e = refl

class_colon : class_of 58 ≡ Other
unfolding class_of
class_colon = refl

no_mark : (c d : ℕ) (k j : ByteClass) → class_of c ≡ k → ends_number k ≡ true → class_of d ≡ j → ends_number j ≡ false → (c == d) ≡ false
no_mark c d k j is ends other none = not_both (c == d) (λ h. let same : c ≡ d = same_byte c d h in let e : ends_number (class_of c) ≡ true = ap ends_number is ∙ ends in let f : ends_number (class_of c) ≡ false = ap (λ x. ends_number (class_of x)) same ∙ ap ends_number other ∙ none in cc)
  where
    not_both : (b : Bool) → (b ≡ true → ⊥) → b ≡ false
    not_both true h = absurd (h refl)
    not_both false h = refl

-- what ends a number is no mark of a real and no colon
pub not_real : (c : ℕ) (k : ByteClass) → class_of c ≡ k → ends_number k ≡ true → is_real_mark c ≡ false
not_real c k is ends = rw (no_mark c 46 k Other is ends class_point refl, no_mark c 101 k Letter is ends class_e refl, no_mark c 69 k Letter is ends class_capital_e refl) refl

pub not_colon : (c : ℕ) (k : ByteClass) → class_of c ≡ k → ends_number k ≡ true → (c == 58) ≡ false
not_colon c k is ends = no_mark c 58 k Other is ends class_colon refl
