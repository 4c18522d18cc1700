-- The text of a step of a path: a slash and a number in decimal.
use Rattle.std.proofs.Common.{◌≡◌, ℕ, zero, suc, ◌+◌, ◌-◌, ◌<◌, ◌≤◌, ◌^◌, Bool, true, false, cond, List, [], ◌∷◌, ◌++◌, length, get_or, take, drop, refl, sym, ap, ◌∙◌, arith, append_assoc, length-append}
use Rattle.std.specs.Prelude.{◌==◌, Option, Some, Result, Ok, Err, IfOk, IsUtf8, decimal}
use Rattle.std.specs.Char.{is_ascii_digit}
use Rattle.std.specs.List.{prefix_len, flat_map}
use Rattle.std.specs.Str.{all_ascii_digits}
use Rattle.std.specs.Str.Parse.{ParsesUnsigned, digits_value}
use Rattle.std.proofs.lemmas.Fmt.{IsAscii-from_digits, decimal_nonempty, decimal-digits_value, digits_decimal, first_decimal, parse-decimal, length-decimal-le}
use Rattle.std.proofs.Math.Seq.{take-append_seam, drop-append_seam}
use Rattle.std.proofs.lemmas.Bool.{and_parts}
use Rattle.std.proofs.lemmas.Bool.Decides.{nat_tests}
use Rattle.std.proofs.lemmas.List.{append-nil, take_all, take-append-drop}
use Rattle.std.proofs.lemmas.Grind.{flat_map-append}
use Rattle.std.proofs.lemmas.Option.{same_Some}
use Rattle.std.proofs.lemmas.Str.{IsUtf8-from_ascii}
use Rattle.std.proofs.lemmas.Str.Parse.{IsNumeralModel, numerals_by_value, parse_digits, tells_all_ascii_digits}
use Rattle.flow_term.specs.Paths.{AreSteps, BeginsStep, path_text, step_text}

own : IsNumeralModel (λ ds. all_ascii_digits ds ≡ true) (digits_value 10)
own = numerals_by_value _ tells_all_ascii_digits

-- digits are a text
pub utf8_digits : (ds : List ℕ) → all_ascii_digits ds ≡ true → IsUtf8 ds
utf8_digits ds h = IsUtf8-from_ascii ds (IsAscii-from_digits ds (own.to ds h))

-- what digits without a leading zero are parsed as has them as its text
pub parsed : {E : Type 0} (ds : List ℕ) (r : Result ℕ E) → all_ascii_digits ds ≡ true → (get_or ds 0 0 ≡ 48 → length ds ≤ 1) → ParsesUnsigned 32 10 ds r → IfOk r (λ n. decimal n ≡ ds)
parsed {E} ds (Ok n) p lead h =
    let k : ((0 < length ds) × (digits_value 10 ds < 2 ^ 32)) × (n ≡ digits_value 10 ds) = parse_digits own {E = E} 32 ds (Ok n) h p in
    ap decimal k.1 ∙ decimal-digits_value own ds p k.0.0 (λ e. omega (arith, lead e, k.0.0)) (omega (arith, k.0.1))
parsed {E} ds (Err e) p lead h = tt

-- the text of a number is parsed as it
pub parsed_decimal : {E : Type 0} (n : ℕ) (ds : List ℕ) (r : Result ℕ E) → n < 2 ^ 32 → ds ≡ decimal n → ParsesUnsigned 32 10 ds r → r ≡ Ok n
parsed_decimal n ds r small e h = parse-decimal 32 n ds r small (omega arith) e h

-- no number's text has a leading zero before further digits
pub no_leading_zero : (n : ℕ) (ds : List ℕ) → n < 2 ^ 32 → ds ≡ decimal n → get_or ds 0 0 ≡ 48 → ¬ (1 < length ds)
no_leading_zero zero ds small e lead long =
    let one : length (decimal 0) ≤ 1 = length-decimal-le 1 0 (omega arith) (omega arith) (omega arith) in
    omega (arith, ap length e, one)
no_leading_zero (suc n) ds small e lead long =
    let large : 48 < get_or (decimal (suc n)) 0 0 = first_decimal (suc n) (omega arith) (omega arith) in
    let same : get_or ds 0 0 ≡ get_or (decimal (suc n)) 0 0 = ap (λ bs. get_or bs 0 0) e in
    omega (arith, same, large, lead)

-- the digits in front of bytes are digits
pub digits_in_front : (bs : List ℕ) → all_ascii_digits (take (prefix_len is_ascii_digit bs) bs) ≡ true
digits_in_front [] = refl
digits_in_front (b ∷ bs) = go (is_ascii_digit b) refl (digits_in_front bs)
  where
    go : (t : Bool) → is_ascii_digit b ≡ t → all_ascii_digits (take (prefix_len is_ascii_digit bs) bs) ≡ true
        → all_ascii_digits (take (cond t (1 + prefix_len is_ascii_digit bs) 0) (b ∷ bs)) ≡ true
    go true e h =
        let s : 1 + prefix_len is_ascii_digit bs ≡ suc (prefix_len is_ascii_digit bs) = omega arith in
        rw (s, e) h
    go false e h = refl

-- digits end where a step begins
digits_end : (ds rest : List ℕ) → all_ascii_digits ds ≡ true → BeginsStep rest → prefix_len is_ascii_digit (ds ++ rest) ≡ length ds
digits_end [] [] h b = refl
digits_end [] (c ∷ rest) h b = rw b refl
digits_end (d ∷ ds) rest h b =
    let both : (is_ascii_digit d ≡ true) × (all_ascii_digits ds ≡ true) = and_parts (is_ascii_digit d) (all_ascii_digits ds) h in
    rw both.0 (let e : prefix_len is_ascii_digit (ds ++ rest) ≡ length ds = digits_end ds rest both.1 b in omega (arith, e))

-- the digits of a number, where a step or nothing follows
pub number_ends : (n : ℕ) (rest : List ℕ) → n < 2 ^ 32 → BeginsStep rest → prefix_len is_ascii_digit (decimal n ++ rest) ≡ length (decimal n)
number_ends n rest small b = digits_end (decimal n) rest (digits_decimal own n (omega arith)) b

-- what a slice pattern leaves behind the first byte
pub behind_first : (bs xs : List ℕ) (b : ℕ) → bs ≡ b ∷ xs → take (length bs - 1) (drop 1 bs) ≡ xs
behind_first [] xs b e = cc
behind_first (c ∷ bs) xs b e =
    let same : bs ≡ xs = cc in
    let all : take (suc (length bs) - 1) bs ≡ bs = take_all (suc (length bs) - 1) bs (omega arith) in
    all ∙ same

-- the digits behind the slash of a step
pub digits_behind : (bs rest : List ℕ) (n len : ℕ) → n < 2 ^ 32 → BeginsStep rest → bs ≡ step_text n ++ rest → len ≡ prefix_len is_ascii_digit (take (length bs - 1) (drop 1 bs))
    → (len ≡ length (decimal n)) × (take len (take (length bs - 1) (drop 1 bs)) ≡ decimal n)
digits_behind bs rest n len small b e h =
    let same : take (length bs - 1) (drop 1 bs) ≡ decimal n ++ rest = behind_first bs (decimal n ++ rest) 47 e in
    let count : len ≡ length (decimal n) = h ∙ ap (prefix_len is_ascii_digit) same ∙ number_ends n rest small b in
    (count, rw (same, count) (take-append_seam (decimal n) rest))

-- What a list of steps leaves of a path: other steps, whose text is what is left of the path's.
pub record Leaves (steps rest path : List ℕ) : Type 0 where
  pub others : List ℕ
  pub small : AreSteps others
  pub split : path ≡ steps ++ others
  pub text : flat_map step_text others ≡ rest

begins_steps : (path : List ℕ) → BeginsStep (flat_map step_text path)
begins_steps [] = tt
begins_steps (n ∷ path) = refl

-- What is in front of bytes is a step, the one that is read there.
pub record Reads (rest : List ℕ) (r : Option (ℕ × ℕ)) (others : List ℕ) : Type 0 where
  pub n : ℕ
  pub more : List ℕ
  pub is : others ≡ n ∷ more
  pub small : AreSteps more
  pub told : r ≡ Some (n, length (step_text n))
  pub behind : drop (length (step_text n)) rest ≡ flat_map step_text more

abbrev pub Tells : List ℕ → Option (ℕ × ℕ) → Type 0
Tells rest r = (n : ℕ) (more : List ℕ) → n < 2 ^ 32 → BeginsStep more → rest ≡ step_text n ++ more → r ≡ Some (n, length (step_text n))

next_step : (rest others : List ℕ) (r : Option (ℕ × ℕ)) → 0 < length rest → Tells rest r → AreSteps others → flat_map step_text others ≡ rest → Reads rest r others
next_step rest [] r some tells small text = absurd (omega (arith, ap length text))
next_step rest (n ∷ more) r some tells small text = record {
  n = n;
  more = more;
  is = refl;
  small = small.1;
  told = tells n (flat_map step_text more) small.0 (begins_steps more) (sym text);
  behind = rw (← text) (drop-append_seam (step_text n) (flat_map step_text more));
}

-- where no step is read, the bytes are the text of no path
pub no_step : (steps rest path : List ℕ) (r : Option (ℕ × ℕ)) → 0 < length rest → Tells rest r → ((x : ℕ × ℕ) → r ≡ Some x → ⊥) → Leaves steps rest path → ⊥
no_step steps rest path r some tells none left =
    let read : Reads rest r left.others = next_step rest left.others r some tells left.small left.text in
    none (read.n, length (step_text read.n)) read.told

-- a step that was read is the path's next
pub leaves_more : (steps rest path : List ℕ) (r : Option (ℕ × ℕ)) (n len : ℕ) → 0 < length rest → Tells rest r → r ≡ Some (n, len) → Leaves steps rest path
    → Leaves (steps ++ n ∷ []) (drop len rest) path
leaves_more steps rest path r n len some tells is left =
    let read : Reads rest r left.others = next_step rest left.others r some tells left.small left.text in
    let same = same_Some (read.n, length (step_text read.n)) (n, len) (sym read.told ∙ is) in
    let number : read.n ≡ n = ap (λ (x : ℕ × ℕ). x.0) same in
    let size : length (step_text read.n) ≡ len = ap (λ (x : ℕ × ℕ). x.1) same in
    record {
      others = read.more;
      small = read.small;
      split = left.split ∙ ap (λ xs. steps ++ xs) read.is ∙ ap (λ m. steps ++ (m ∷ read.more)) number ∙ sym (append_assoc steps (n ∷ []) read.more);
      text = sym read.behind ∙ ap (λ k. drop k rest) size;
    }

-- the steps and one more are a longer front
pub front_more : (steps rest bytes : List ℕ) (n len : ℕ) → flat_map step_text steps ++ rest ≡ bytes → take len rest ≡ step_text n
    → flat_map step_text (steps ++ n ∷ []) ++ drop len rest ≡ bytes
front_more steps rest bytes n len front step =
    ap (λ xs. xs ++ drop len rest) (flat_map-append step_text steps (n ∷ []))
    ∙ ap (λ xs. (flat_map step_text steps ++ xs) ++ drop len rest) (append-nil (step_text n) ∙ sym step)
    ∙ append_assoc (flat_map step_text steps) (take len rest) (drop len rest)
    ∙ ap (λ xs. flat_map step_text steps ++ xs) (take-append-drop len rest)
    ∙ front

-- what the test of an empty slice says
pub not_empty : (xs : List ℕ) (b : Bool) → b ≡ (length xs == 0) → b ≡ false → 0 < length xs
not_empty [] b e f = cc
not_empty (x ∷ xs) b e f = omega arith

pub is_empty : {X : Type 0} (xs : List X) (b : Bool) → b ≡ (length xs == 0) → b ≡ true → xs ≡ []
is_empty [] b e f = refl
is_empty (x ∷ xs) b e f = absurd (not_zero (length xs) (sym e ∙ f))
  where
    not_zero : (n : ℕ) → (suc n == 0) ≡ true → ⊥
    not_zero n h = grind (arith, nat_tests)

-- steps that leave nothing are the whole path
pub leaves_nothing : (steps rest path : List ℕ) → rest ≡ [] → Leaves steps rest path → path ≡ steps
leaves_nothing steps rest path e left = left.split ∙ go left.others (left.text ∙ e)
  where
    go : (others : List ℕ) → flat_map step_text others ≡ [] → steps ++ others ≡ steps
    go [] h = append-nil steps
    go (n ∷ others) h = cc

-- a slash alone is the text of the root alone
pub only_root : (path : List ℕ) → AreSteps path → path_text path ≡ 47 ∷ [] → path ≡ []
only_root [] small e = refl
only_root (n ∷ path) small e =
    let some : 0 < length (decimal n) = decimal_nonempty n (omega (arith, small.0)) in
    absurd (omega (arith, some, ap length e, length-append (decimal n) (flat_map step_text path)))
