-- Octal digits and short escapes.
use Rattle.std.proofs.Common.{◌≡◌, ℕ, ◌+◌, ◌/◌, ◌%◌, ◌<◌, ◌≤◌, Bool, true, false, [], ◌∷◌, Option, Some, None, refl, sym, ap, ◌∙◌, arith}
use Rattle.std.specs.Prelude.{◌==◌, ◌&&◌, not, if◌then◌else◌, IsTrue}
use Rattle.std.proofs.lemmas.Bool.{and_parts}
use Rattle.std.proofs.lemmas.Bool.Decides.{nat_tests}
use Rattle.quoted_text.specs.Escapes.{short_escape, is_octal, is_low_octal, octal_value, octal_byte, IsEscape, octal}
use Rattle.quoted_text.specs.Quotes.{is_plain}

pub same_byte : (c n : ℕ) → (c == n) ≡ true → c ≡ n
same_byte c n h = grind (arith, nat_tests)

-- what stands for itself

plain_tests : (x y : Bool) → (not x && not y) ≡ true → (x ≡ false) × (y ≡ false)
plain_tests true y h = cc
plain_tests false true h = cc
plain_tests false false h = (refl, refl)

pub plain_parts : (c : ℕ) → IsTrue (is_plain c) → ((c == 34) ≡ false) × ((c == 92) ≡ false)
plain_parts c h = plain_tests (c == 34) (c == 92) h

pub plain_byte : (c : ℕ) → (c == 34) ≡ false → (c == 92) ≡ false → IsTrue (is_plain c)
plain_byte c h k = rw (h, k) refl

-- octal digits

not_octal : (a n : ℕ) → is_octal a ≡ true → n < 48 → (a == n) ≡ false
not_octal a n h g = grind (arith, nat_tests)

not_octal_high : (a n : ℕ) → is_octal a ≡ true → 56 ≤ n → (a == n) ≡ false
not_octal_high a n h g = grind (arith, nat_tests)

pub octal_long : (a : ℕ) → is_octal a ≡ true → short_escape a ≡ None
octal_long a h = rw (not_octal a 34 h (omega arith), not_octal_high a 92 h (omega arith), not_octal_high a 110 h (omega arith), not_octal_high a 116 h (omega arith), not_octal_high a 114 h (omega arith)) refl

pub low_is_octal : (a : ℕ) → is_low_octal a ≡ true → is_octal a ≡ true
low_is_octal a h = grind (arith, nat_tests)

pub low_high : (c : ℕ) → is_low_octal c ≡ true → c ≤ 49
low_high c h = grind (arith, nat_tests)

pub octal_high : (c : ℕ) → is_octal c ≡ true → c ≤ 55
octal_high c h = grind (arith, nat_tests)

low_octal : (a : ℕ) → is_octal a ≡ true → a ≤ 49 → is_low_octal a ≡ true
low_octal a h g = grind (arith, nat_tests)

octal_low : (a : ℕ) → is_octal a ≡ true → 48 ≤ a
octal_low a h = grind (arith, nat_tests)

pub low_first : (a b c : ℕ) → is_octal a ≡ true → octal_value a b c < 128 → is_low_octal a ≡ true
low_first a b c h g = let low : 48 ≤ a = octal_low a h in low_octal a h (omega arith)

pub octal_ascii : (c : ℕ) → is_octal c ≡ true → c < 128
octal_ascii c h = grind (arith, nat_tests)

-- a value below 128 is that of its digits

pub octal_between : (c : ℕ) → 48 ≤ c → c ≤ 55 → is_octal c ≡ true
octal_between c h k = grind (arith, nat_tests)

pub octal_parts : (c : ℕ) → c < 128 → (48 + c / 64 ≤ 49) × (48 + c / 8 % 8 ≤ 55) × (48 + c % 8 ≤ 55) × (octal_value (48 + c / 64) (48 + c / 8 % 8) (48 + c % 8) ≡ c)
octal_parts c h = (omega arith, omega arith, omega arith, omega arith)

-- the byte of three digits is that for which an escape stands

all_three : (x y z : Bool) → x ≡ true → y ≡ true → z ≡ true → (x && y && z) ≡ true
all_three x y z f g h = rw (f, g, h) refl

pub octal_read : (a b c value : ℕ) → IsTrue (is_octal a) → IsTrue (is_octal b) → IsTrue (is_octal c) → value ≡ octal_value a b c → value < 128 → octal_byte a b c ≡ Some value
octal_read a b c value ha hb hc v small =
    let first : is_low_octal a ≡ true = low_first a b c ha (omega (arith, v, small)) in
    ap (λ (x : Bool). if x then Some (octal_value a b c) else None) (all_three (is_low_octal a) (is_octal b) (is_octal c) first hb hc) ∙ ap (λ (n : ℕ). Some n) (sym v)

chosen_some : (x : Bool) (v value : ℕ) → (if x then Some v else None) ≡ Some value → (x ≡ true) × (v ≡ value)
chosen_some true v value h = (refl, let e : v ≡ value = cc in e)
chosen_some false v value h = cc

pub octal_found : (a b c value : ℕ) → octal_byte a b c ≡ Some value → IsEscape (92 ∷ a ∷ b ∷ c ∷ []) value
octal_found a b c value e =
    let p = chosen_some (is_low_octal a && is_octal b && is_octal c) (octal_value a b c) value e in
    let q = and_parts (is_low_octal a && is_octal b) (is_octal c) p.0 in
    let r = and_parts (is_low_octal a) (is_octal b) q.0 in
    let high : a ≤ 49 = low_high a r.0 in
    let middle : b ≤ 55 = octal_high b r.1 in
    let low : c ≤ 55 = octal_high c q.1 in
    octal a b c (low_is_octal a r.0) r.1 q.1 (sym p.1) (omega (arith, p.1)) refl

-- a short escape is ASCII, and stands for ASCII

short_chosen : (x : Bool) (v value : ℕ) (o : Option ℕ) (P : Type 0) → (if x then Some v else o) ≡ Some value → (x ≡ true → v ≡ value → P) → (x ≡ false → o ≡ Some value → P) → P
short_chosen true v value o P h f g = f refl (let e : v ≡ value = cc in e)
short_chosen false v value o P h f g = g refl h

pub short_ascii : (c value : ℕ) → short_escape c ≡ Some value → (c < 128) × (value < 128)
short_ascii c value h =
    short_chosen (c == 34) 34 value _ _ h (λ t e. let s : c ≡ 34 = same_byte c 34 t in (omega arith, omega arith)) (λ _ h1.
    short_chosen (c == 92) 92 value _ _ h1 (λ t e. let s : c ≡ 92 = same_byte c 92 t in (omega arith, omega arith)) (λ _ h2.
    short_chosen (c == 110) 10 value _ _ h2 (λ t e. let s : c ≡ 110 = same_byte c 110 t in (omega arith, omega arith)) (λ _ h3.
    short_chosen (c == 116) 9 value _ _ h3 (λ t e. let s : c ≡ 116 = same_byte c 116 t in (omega arith, omega arith)) (λ _ h4.
    short_chosen (c == 114) 13 value _ _ h4 (λ t e. let s : c ≡ 114 = same_byte c 114 t in (omega arith, omega arith)) (λ _ h5. let no_value : None ≡ Some value = h5 in cc)))))
