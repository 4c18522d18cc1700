-- The text of a path is that of no other.
use Rattle.std.proofs.Common.{◌≡◌, ℕ, ◌<◌, ◌^◌, true, List, [], ◌∷◌, ◌++◌, length, take, drop, refl, sym, ap, ◌∙◌, arith}
use Rattle.std.specs.Prelude.{decimal}
use Rattle.std.specs.Char.{is_ascii_digit}
use Rattle.std.specs.List.{flat_map, prefix_len}
use Rattle.std.specs.Str.{all_ascii_digits}
use Rattle.std.specs.Str.Parse.{digits_value}
use Rattle.std.proofs.Math.Seq.{take-append_seam, drop-append_seam}
use Rattle.std.proofs.lemmas.Fmt.{digits_value-decimal}
use Rattle.std.proofs.lemmas.Str.Parse.{IsNumeralModel, numerals_by_value, tells_all_ascii_digits}
use Rattle.flow_term.specs.Paths.{AreSteps, BeginsStep, path_text, step_text}
use Rattle.flow_term.proofs.StepTexts.{number_ends, only_root}

own : IsNumeralModel (λ ds. all_ascii_digits ds ≡ true) (digits_value 10)
own = numerals_by_value _ tells_all_ascii_digits

begins_step : (path : List ℕ) → BeginsStep (flat_map step_text path)
begins_step [] = tt
begins_step (n ∷ path) = refl

-- numbers before steps, or before nothing, are the same, and so is what follows
same_number : (n m : ℕ) (xs ys : List ℕ) → n < 2 ^ 32 → m < 2 ^ 32 → BeginsStep xs → BeginsStep ys → decimal n ++ xs ≡ decimal m ++ ys → (n ≡ m) × (xs ≡ ys)
same_number n m xs ys small few b c e =
    let count : length (decimal n) ≡ length (decimal m) = sym (number_ends n xs small b) ∙ ap (prefix_len is_ascii_digit) e ∙ number_ends m ys few c in
    let front : decimal n ≡ decimal m = sym (take-append_seam (decimal n) xs) ∙ ap (λ bs. take (length (decimal n)) bs) e ∙ ap (λ k. take k (decimal m ++ ys)) count ∙ take-append_seam (decimal m) ys in
    let rest : xs ≡ ys = sym (drop-append_seam (decimal n) xs) ∙ ap (λ bs. drop (length (decimal n)) bs) e ∙ ap (λ k. drop k (decimal m ++ ys)) count ∙ drop-append_seam (decimal m) ys in
    (sym (digits_value-decimal own n (omega arith)) ∙ ap (digits_value 10) front ∙ digits_value-decimal own m (omega arith), rest)

same_steps : (p q : List ℕ) → AreSteps p → AreSteps q → flat_map step_text p ≡ flat_map step_text q → p ≡ q
same_steps [] [] h k e = refl
same_steps [] (m ∷ q) h k e = absurd (omega (arith, ap length e))
same_steps (n ∷ p) [] h k e = absurd (omega (arith, ap length e))
same_steps (n ∷ p) (m ∷ q) h k e =
    let both = same_number n m (flat_map step_text p) (flat_map step_text q) h.0 k.0 (begins_step p) (begins_step q) (ap (drop 1) e) in
    let rest : p ≡ q = same_steps p q h.1 k.1 both.1 in
    ap (λ x. x ∷ p) both.0 ∙ ap (λ xs. m ∷ xs) rest

pub same_path : (p q : List ℕ) → AreSteps p → AreSteps q → path_text p ≡ path_text q → p ≡ q
same_path [] q h k e = sym (only_root q k (sym e))
same_path (n ∷ p) [] h k e = only_root (n ∷ p) h e
same_path (n ∷ p) (m ∷ q) h k e = same_steps (n ∷ p) (m ∷ q) h k e
