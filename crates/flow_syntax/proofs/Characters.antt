-- Where bytes are cut into characters.
use Rattle.std.proofs.Common.{◌≡◌, ℕ, ◌<◌, List, [], ◌∷◌, ◌++◌, length, take, drop, refl, sym, ap, subst, ◌∙◌, arith, IsUtf8, true, append_assoc, length-append}
use Rattle.std.specs.Prelude.{nat_lt}
use Rattle.std.specs.Char.{encode_utf8}
use Rattle.std.specs.List.{list_all}
use Rattle.std.specs.Str.{IsValidUpTo, IsAscii, all_scalars, encode_utf8_all}
use Rattle.std.proofs.lemmas.Bool.{and_parts}
use Rattle.std.proofs.lemmas.Bool.Decides.{nat_tests}
use Rattle.std.proofs.lemmas.List.{take_at, take-append-drop, length-take-le}
use Rattle.std.proofs.lemmas.Str.{IsUtf8-append, IsUtf8-encode, encode_same, length-encode, len_utf8_bounds}
use Rattle.std.proofs.lemmas.Str.Ascii.{IsAscii-nil, IsAscii-cons}
use Rattle.quoted_text.proofs.Cuts.{utf8_before, utf8_behind}
use Rattle.flow_syntax.specs.TokenFaults.{BeginsNoCharacter}

-- an ASCII byte cuts a text into texts
pub ascii_seam : (xs ys : List ℕ) (b : ℕ) → b < 128 → IsUtf8 (xs ++ b ∷ ys) → IsUtf8 xs × IsUtf8 ys
ascii_seam xs ys b low u = (utf8_before xs ys b low u, utf8_behind xs ys b low u)

pub ascii_text : (bs : List ℕ) → list_all (λ b. nat_lt b 128) bs ≡ true → IsAscii bs
ascii_text [] h = IsAscii-nil
ascii_text (b ∷ bs) h = let parts = and_parts (nat_lt b 128) (list_all (λ c. nat_lt c 128) bs) h in let low : b < 128 = grind (arith, nat_tests) in IsAscii-cons b bs low (ascii_text bs parts.1)

-- what stands behind ASCII in a text is a text
pub behind_ascii : (front rest : List ℕ) → list_all (λ b. nat_lt b 128) front ≡ true → IsUtf8 (front ++ rest) → IsUtf8 rest
behind_ascii [] rest h u = u
behind_ascii (b ∷ front) rest h u =
    let parts = and_parts (nat_lt b 128) (list_all (λ c. nat_lt c 128) front) h in
    let low : b < 128 = grind (arith, nat_tests) in
    behind_ascii front rest parts.1 (ascii_seam [] (front ++ rest) b low u).1

-- no character begins where the longest valid front ends
pub stuck_after : (bytes : List ℕ) (n : ℕ) → IsValidUpTo bytes n → BeginsNoCharacter (drop n bytes)
stuck_after bytes n v c after s e =
    let more : List ℕ = take n bytes ++ encode_utf8 c in
    let whole : bytes ≡ more ++ after = sym (take-append-drop n bytes) ∙ ap (λ r. take n bytes ++ r) e ∙ sym (append_assoc (take n bytes) (encode_utf8 c) after) in
    let cut : take (length more) bytes ≡ more = ap (take (length more)) whole ∙ take_at more after (length more) refl in
    let valid : IsUtf8 more = IsUtf8-append (take n bytes) (encode_utf8 c) v.front (IsUtf8-encode c s) in
    let longer : n < length more = omega (arith, length-append (take n bytes) (encode_utf8 c), length-take-le n bytes (omega (arith, v.short)), length-encode c, len_utf8_bounds c) in
    v.longest (length more) longer (subst IsUtf8 (sym cut) valid)

no_char_in_nothing : (c : ℕ) (after : List ℕ) → [] ≡ encode_utf8 c ++ after → 0 < 0
no_char_in_nothing c after e = omega (arith, ap length e, length-append (encode_utf8 c) after, length-encode c, len_utf8_bounds c)

pub BeginsNoCharacter-nil : BeginsNoCharacter []
BeginsNoCharacter-nil c after s e = absurd (let h = no_char_in_nothing c after e in omega arith)

-- two fronts of characters behind which none begins are one
same_rest : (cs ds x y : List ℕ) → all_scalars cs ≡ true → all_scalars ds ≡ true → encode_utf8_all cs ++ x ≡ encode_utf8_all ds ++ y → BeginsNoCharacter x → BeginsNoCharacter y → x ≡ y
same_rest [] [] x y s t e p q = e
same_rest [] (d ∷ ds) x y s t e p q = absurd (p d (encode_utf8_all ds ++ y) (and_parts _ _ t).0 (e ∙ append_assoc (encode_utf8 d) (encode_utf8_all ds) y))
same_rest (c ∷ cs) [] x y s t e p q = absurd (q c (encode_utf8_all cs ++ x) (and_parts _ _ s).0 (sym e ∙ append_assoc (encode_utf8 c) (encode_utf8_all cs) x))
same_rest (c ∷ cs) (d ∷ ds) x y s t e p q =
    let tails = encode_same c d (encode_utf8_all cs ++ x) (encode_utf8_all ds ++ y) (sym (append_assoc (encode_utf8 c) (encode_utf8_all cs) x) ∙ e ∙ append_assoc (encode_utf8 d) (encode_utf8_all ds) y) in
    same_rest cs ds x y (and_parts _ _ s).1 (and_parts _ _ t).1 tails.1 p q

pub same_stuck : (a b x y : List ℕ) → IsUtf8 a → IsUtf8 b → a ++ x ≡ b ++ y → BeginsNoCharacter x → BeginsNoCharacter y → x ≡ y
same_stuck a b x y (cs, f) (ds, g) e p q = same_rest cs ds x y f.0 g.0 (ap (λ z. z ++ x) f.1 ∙ e ∙ ap (λ z. z ++ y) (sym g.1)) p q
