-- The texts that are one token: positions, integers and identifiers.
use Rattle.std.proofs.Common.{◌≡◌, ℕ, suc, ◌<◌, ◌^◌, true, false, ◌||◌, List, [], ◌∷◌, ◌++◌, length, Some, None, refl, sym, ap, subst, ◌∙◌, arith, inl, inr}
use Rattle.std.specs.Prelude.{ℤ, pos, negsuc, ◌==◌, if◌then◌else◌, Contains, bytes_eq, decimal}
use Rattle.std.specs.Char.{is_ascii_alphabetic, is_ascii_digit}
use Rattle.std.specs.Fmt.{signed_decimal}
use Rattle.std.specs.Int.Signed.{mag}
use Rattle.std.specs.List.{flat_map, list_all}
use Rattle.std.specs.Str.{all_ascii_digits, is_utf8}
use Rattle.std.proofs.lemmas.Bool.{and_parts, cases_Bool}
use Rattle.std.proofs.lemmas.Bool.Decides.{nat_tests}
use Rattle.std.proofs.lemmas.Fmt.{decimal_nonempty, digits_decimal}
use Rattle.std.proofs.lemmas.List.Folds.{list_all-append}
use Rattle.std.proofs.lemmas.Slice.Eq.{bytes_eq-Decides}
use Rattle.std.proofs.lemmas.Str.{is_utf8-from_IsUtf8}
use Rattle.flow_term.specs.declared.elem.Elem.{Elem}
use Rattle.flow_term.specs.declared.elem.Elem.TheVariants as elem
use Rattle.flow_term.specs.Paths.{AreSteps, path_text, step_text}
use Rattle.flow_syntax.specs.Accepted.{IsIdentifier}
use Rattle.flow_syntax.specs.Tokens.{is_name_byte, reserved_words}
use Rattle.value_text.specs.Integers.{IsI64}
use Rattle.value_text.specs.inner.Reading.{begins_integer, begins_with, decimal_of, integer_of, is_token_byte, item_of, number_in, plain_elem, token_elem}
use Rattle.value_text.proofs.Told.{bound, one_is, passed}
use Rattle.value_text.proofs.Identifiers.{item_read_of}
use Rattle.value_text.proofs.Numbers.{own, both, fits_i64, number_back, number_small}
use Rattle.value_text.proofs.Paths.{path_read, same_test}
use Rattle.value_text.proofs.Tokens.{EndsToken, IsToken, is_a_text, token_read, token_utf8}

-- ** positions

digit_token : (c : ℕ) → is_ascii_digit c ≡ true → is_token_byte c ≡ true
digit_token c h = grind (arith, nat_tests)

digits_token : (ds : List ℕ) → all_ascii_digits ds ≡ true → list_all is_token_byte ds ≡ true
digits_token [] h = refl
digits_token (d ∷ ds) h =
    let parts = and_parts (is_ascii_digit d) (all_ascii_digits ds) h in
    both (is_token_byte d) (list_all is_token_byte ds) (digit_token d parts.0) (digits_token ds parts.1)

decimal_token : (n : ℕ) → n < 2 ^ 64 → list_all is_token_byte (decimal n) ≡ true
decimal_token n h = digits_token (decimal n) (digits_decimal own n h)

steps_token : (path : List ℕ) → AreSteps path → list_all is_token_byte (flat_map step_text path) ≡ true
steps_token [] h = refl
steps_token (n ∷ path) h =
    list_all-append is_token_byte (decimal n) (flat_map step_text path)
    ∙ both (list_all is_token_byte (decimal n)) (list_all is_token_byte (flat_map step_text path)) (decimal_token n (omega (arith, h.0))) (steps_token path h.1)

pub path_token : (path : List ℕ) → AreSteps path → IsToken (path_text path)
path_token [] h = record { bytes = refl; some = omega arith }
path_token (n ∷ path) h = record { bytes = steps_token (n ∷ path) h; some = omega arith }

slash_first : (path : List ℕ) → begins_with 47 (path_text path) ≡ true
slash_first [] = refl
slash_first (n ∷ path) = refl

pos_elem : (path : List ℕ) → AreSteps path → token_elem (path_text path) ≡ Some (elem.Pos path)
pos_elem path h = let found = path_read path (path_text path) h refl in rw (slash_first path, found) refl

-- ** integers

pub integer_token : (z : ℤ) → IsI64 z → IsToken (signed_decimal z)
integer_token (pos n) h = record { bytes = decimal_token n (omega (arith, h)); some = decimal_nonempty n (omega (arith, h)) }
integer_token (negsuc n) h = record { bytes = decimal_token (suc n) (omega (arith, h)); some = omega arith }

-- how an integer begins
digits_begin : (ds : List ℕ) → all_ascii_digits ds ≡ true → 0 < length ds → (begins_with 47 ds ≡ false) × (begins_integer ds ≡ true)
digits_begin [] h some = absurd (omega arith)
digits_begin (d ∷ ds) h some =
    let digit = (and_parts (is_ascii_digit d) (all_ascii_digits ds) h).0 in
    let no_slash : (d == 47) ≡ false = grind (arith, nat_tests, digit) in
    let begins : (d == 45 || is_ascii_digit d) ≡ true = grind (arith, nat_tests, digit) in
    (no_slash, begins)

integer_begins : (z : ℤ) → IsI64 z → (begins_with 47 (signed_decimal z) ≡ false) × (begins_integer (signed_decimal z) ≡ true)
integer_begins (pos n) h = digits_begin (decimal n) (digits_decimal own n (omega (arith, h))) (decimal_nonempty n (omega (arith, h)))
integer_begins (negsuc n) h = (refl, refl)

small_magnitude : (z : ℤ) → IsI64 z → mag z < 2 ^ 63
small_magnitude (pos n) h = h
small_magnitude (negsuc n) h = h

integer_read : (z : ℤ) → IsI64 z → integer_of (signed_decimal z) ≡ Some z
unfolding integer_of
integer_read z h =
    let utf8 : is_utf8 (signed_decimal z) ≡ true = is_utf8-from_IsUtf8 (signed_decimal z) (token_utf8 (signed_decimal z) (integer_token z h)) in
    rw utf8 (number_back z (fits_i64 z h) (small_magnitude z h))

decimal_read : (z : ℤ) → IsI64 z → decimal_of (signed_decimal z) ≡ Some z
unfolding decimal_of
decimal_read z h = rw (integer_read z h, same_test (signed_decimal z)) refl

-- and nothing else
pub decimal_is : (bs : List ℕ) (z : ℤ) → decimal_of bs ≡ Some z → IsI64 z × (signed_decimal z ≡ bs)
unfolding decimal_of integer_of
decimal_is bs z e =
    let p = bound (if is_utf8 bs then number_in bs else None) (λ (y : ℤ). if bytes_eq (signed_decimal y) bs then Some y else None) z e in
    let q = passed (bytes_eq (signed_decimal p.0) bs) (Some p.0) z p.2 in
    let is = one_is p.0 z q.1 in
    let n = passed (is_utf8 bs) (number_in bs) p.0 p.1 in
    (subst IsI64 is (number_small bs p.0 n.1), ap signed_decimal (sym is) ∙ (bytes_eq-Decides (signed_decimal p.0) bs).0 q.0)

int_elem : (z : ℤ) → IsI64 z → token_elem (signed_decimal z) ≡ Some (elem.Int z)
int_elem z h =
    let begins = integer_begins z h in
    rw (begins.0, begins.1, decimal_read z h) refl

-- ** identifiers

letter_token : (c : ℕ) → is_ascii_alphabetic c ≡ true → is_token_byte c ≡ true
letter_token c h = grind (arith, nat_tests)

name_token : (c : ℕ) → is_name_byte c ≡ true → is_token_byte c ≡ true
name_token c h = grind (arith, nat_tests)

names_token : (cs : List ℕ) → list_all is_name_byte cs ≡ true → list_all is_token_byte cs ≡ true
names_token [] h = refl
names_token (c ∷ cs) h =
    let parts = and_parts (is_name_byte c) (list_all is_name_byte cs) h in
    both (is_token_byte c) (list_all is_token_byte cs) (name_token c parts.0) (names_token cs parts.1)

pub identifier_token : (text : List ℕ) → IsIdentifier text → IsToken text
identifier_token [] h = absurd h.0
identifier_token (c ∷ cs) h = record { bytes = both (is_token_byte c) (list_all is_token_byte cs) (letter_token c h.0.0) (names_token cs h.0.1); some = omega arith }

pub identifier_read : (text : List ℕ) → IsIdentifier text → item_of text ≡ Some text
identifier_read text h = item_read_of text (is_a_text text (token_utf8 text (identifier_token text h))) h

letter_begins : (c : ℕ) → is_ascii_alphabetic c ≡ true → ((c == 47) ≡ false) × ((c == 45 || is_ascii_digit c) ≡ false)
letter_begins c h = (grind (arith, nat_tests), grind (arith, nat_tests))

item_elem : (text : List ℕ) → IsIdentifier text → token_elem text ≡ Some (elem.Item text)
item_elem [] h = absurd h.0
item_elem (c ∷ cs) h =
    let begins = letter_begins c h.0.0 in
    rw (begins.0, begins.1, identifier_read (c ∷ cs) h) refl

-- no reserved word is one
pub not_reserved : (text word : List ℕ) → IsIdentifier text → Contains reserved_words word → bytes_eq text word ≡ false
not_reserved text word h k = elim (cases_Bool (bytes_eq text word)) [
  | inl holds ↦ absurd (h.1 (subst (Contains reserved_words) (sym ((bytes_eq-Decides text word).0 holds)) k))
  | inr fails ↦ fails
]

-- ** elements of one token

plain_read : (text rest : List ℕ) (e : Elem) → IsToken text → EndsToken rest → token_elem text ≡ Some e → plain_elem (text ++ rest) ≡ Some (e, rest)
unfolding plain_elem
plain_read text rest e t ends is = rw (token_read text rest t ends, is) refl

pub pos_read : (path rest : List ℕ) → AreSteps path → EndsToken rest → plain_elem (path_text path ++ rest) ≡ Some (elem.Pos path, rest)
pos_read path rest h ends = plain_read (path_text path) rest (elem.Pos path) (path_token path h) ends (pos_elem path h)

pub int_read : (z : ℤ) (rest : List ℕ) → IsI64 z → EndsToken rest → plain_elem (signed_decimal z ++ rest) ≡ Some (elem.Int z, rest)
int_read z rest h ends = plain_read (signed_decimal z) rest (elem.Int z) (integer_token z h) ends (int_elem z h)

pub item_read : (text rest : List ℕ) → IsIdentifier text → EndsToken rest → plain_elem (text ++ rest) ≡ Some (elem.Item text, rest)
item_read text rest h ends = plain_read text rest (elem.Item text) (identifier_token text h) ends (item_elem text h)
