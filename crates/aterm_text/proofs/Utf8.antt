-- What is UTF-8 in a text in UTF-8.
use Rattle.std.proofs.Common.{◌≡◌, ℕ, ◌<◌, ◌≤◌, Bool, true, false, List, Option, Some, None, Ok, Err, refl, arith}
use Rattle.std.specs.Prelude.{ℤ, ◌==◌, if◌then◌else◌}
use Rattle.std.proofs.lemmas.Bool.Decides.{nat_tests}
use Rattle.quoted_text.proofs.Escapes.{same_byte, octal_ascii}
use Rattle.quoted_text.specs.Escapes.{is_low_octal, is_octal, short_escape}
use Rattle.aterm_text.specs.declared.class.ByteClass.{ByteClass}
use Rattle.aterm_text.specs.declared.class.ByteClass.TheVariants.{Letter, Digit, Minus, Sign, Blank, Quote, Comma, Parenthesis, Bracket, Brace, Closing, Exclamation, Less, Other}
use Rattle.aterm_text.specs.declared.open.Open.{Open}
use Rattle.aterm_text.specs.declared.reader.state.Escape.{Escape}
use Rattle.aterm_text.specs.declared.reader.state.Last.{Last}
use Rattle.aterm_text.specs.declared.reader.state.Last.TheVariants as last
use Rattle.aterm_text.specs.declared.refusal.TermFaultKind.{TermFaultKind}
use Rattle.aterm_text.specs.declared.refusal.TermFaultKind.TheVariants.{Real, Blob}
use Rattle.aterm_text.specs.Bytes.{class_of, is_real_mark}
use Rattle.aterm_text.specs.inner.Machine.{state, Next, step_by, in_quotes, escaped, in_one_octal, after_integer}
use Rattle.aterm_text.specs.Numbers.{integer_of}
use Rattle.aterm_text.proofs.Classes.{is_byte_of, digit_high}

low_ascii : (c : ℕ) → is_low_octal c ≡ true → c < 128
low_ascii c h = grind (arith, nat_tests)

-- ** the byte before a place that isn't inside quotes is ASCII

-- what was read last ends a character
abbrev pub IsOutside : Last → Type 0
IsOutside (last.Inside chars) = ⊥
IsOutside _ = Unit {0}

abbrev pub NextOutside : Next → Type 0
NextOutside (Ok (state stack begun l)) = IsOutside l
NextOutside (Err e) = ⊥

chosen_outside : (x : Bool) (f g : Next) (P : Type 0) → NextOutside (if x then f else g) → (x ≡ true → NextOutside f → P) → (x ≡ false → NextOutside g → P) → P
chosen_outside true f g P h k n = k refl h
chosen_outside false f g P h k n = n refl h

quotes_ascii : (stack : List Open) (begun at : ℕ) (chars : List ℕ) (c : ℕ) → NextOutside (in_quotes stack begun at chars c) → c < 128
quotes_ascii stack begun at chars c h =
    chosen_outside (c == 34) _ _ _ h (λ e _. let s : c ≡ 34 = same_byte c 34 e in omega arith) (λ _ h1.
    chosen_outside (c == 92) _ _ _ h1 (λ e _. let s : c ≡ 92 = same_byte c 92 e in omega arith) (λ _ n. absurd n))

escaped_ascii : (stack : List Open) (begun : ℕ) (e : Escape) (c : ℕ) (o : Option ℕ) → NextOutside (escaped stack begun e c o) → c < 128
escaped_ascii stack begun e c (Some v) h = absurd h
escaped_ascii stack begun e c None h = chosen_outside (is_low_octal c) _ _ _ h (λ f _. low_ascii c f) (λ _ n. absurd n)

one_ascii : (stack : List Open) (begun : ℕ) (e : Escape) (value c : ℕ) → NextOutside (in_one_octal stack begun e value c) → c < 128
one_ascii stack begun e value c h = chosen_outside (is_octal c) _ _ _ h (λ f _. octal_ascii c f) (λ _ n. absurd n)

two_inside : (x : Bool) (stack : List Open) (begun : ℕ) (chars : List ℕ) (o : ℕ) (k : TermFaultKind) → NextOutside (if x then Ok (state stack begun (last.Inside chars)) else Err (o, k)) → ⊥
two_inside true stack begun chars o k h = h
two_inside false stack begun chars o k h = h

-- no state outside quotes goes on with a byte that isn't ASCII
other_number : (o : Option ℤ) (x y : Bool) (stack : List Open) (begun at start c : ℕ) (f g : Next) → ¬ NextOutside f → ¬ NextOutside g → NextOutside (if x then f else (if y then g else after_integer o Other stack begun at start c)) → ⊥
other_number o true y stack begun at start c f g h k n = h n
other_number o false true stack begun at start c f g h k n = k n
other_number None false false stack begun at start c f g h k n = n
other_number (Some m) false false stack begun at start c f g h k n = n

other_stops : (l : Last) (stack : List Open) (begun at c : ℕ) → NextOutside (step_by true l Other stack begun at c) → c < 128
other_stops last.Start stack begun at c h = absurd h
other_stops last.Opening stack begun at c h = absurd h
other_stops (last.Symbol name) stack begun at c h = absurd h
other_stops (last.Name name) stack begun at c h = absurd h
other_stops (last.Inside chars) stack begun at c h = quotes_ascii stack begun at chars c h
other_stops (last.Backslash e) stack begun at c h = escaped_ascii stack begun e c (short_escape c) h
other_stops (last.OneOctal e value) stack begun at c h = one_ascii stack begun e value c h
other_stops (last.TwoOctals e value) stack begun at c h = absurd (two_inside (is_octal c) stack begun _ _ _ h)
other_stops (last.Quoted chars) stack begun at c h = absurd h
other_stops (last.Minus start) stack begun at c h = absurd h
other_stops (last.Number n) stack begun at c h = absurd (other_number (integer_of n) (is_real_mark c) (c == 58) stack begun at n.start c (Err (n.start, Real)) (Err (n.start, Blob)) (λ x. x) (λ x. x) h)
other_stops (last.Body k) stack begun at c h = absurd h
other_stops (last.Whole t) stack begun at c h = absurd h

class_ascii : (k : ByteClass) (l : Last) (stack : List Open) (begun at c : ℕ) → class_of c ≡ k → NextOutside (step_by true l k stack begun at c) → c < 128
class_ascii Letter l stack begun at c is h = is_byte_of c Letter is
class_ascii Digit l stack begun at c is h = let high : c ≤ 57 = digit_high c is in omega arith
class_ascii Minus l stack begun at c is h = let e : c ≡ 45 = is_byte_of c Minus is in omega arith
class_ascii Sign l stack begun at c is h = is_byte_of c Sign is
class_ascii Blank l stack begun at c is h = is_byte_of c Blank is
class_ascii Quote l stack begun at c is h = let e : c ≡ 34 = is_byte_of c Quote is in omega arith
class_ascii Comma l stack begun at c is h = let e : c ≡ 44 = is_byte_of c Comma is in omega arith
class_ascii Parenthesis l stack begun at c is h = let e : c ≡ 40 = is_byte_of c Parenthesis is in omega arith
class_ascii Bracket l stack begun at c is h = let e : c ≡ 91 = is_byte_of c Bracket is in omega arith
class_ascii Brace l stack begun at c is h = let e : c ≡ 123 = is_byte_of c Brace is in omega arith
class_ascii Closing l stack begun at c is h = is_byte_of c Closing is
class_ascii Exclamation l stack begun at c is h = let e : c ≡ 33 = is_byte_of c Exclamation is in omega arith
class_ascii Less l stack begun at c is h = let e : c ≡ 60 = is_byte_of c Less is in omega arith
class_ascii Other l stack begun at c is h = other_stops l stack begun at c h

pub outside_ascii : (l : Last) (stack : List Open) (begun at c : ℕ) → NextOutside (step_by true l (class_of c) stack begun at c) → c < 128
outside_ascii l stack begun at c h = class_ascii (class_of c) l stack begun at c refl h
