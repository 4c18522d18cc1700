-- Texts and tokens.
use Rattle.std.proofs.Common.{◌≡◌, ℕ, ◌<◌, true, false, List, [], ◌∷◌, ◌++◌, length, take, drop, Some, None, refl, sym, ap, ◌∙◌, subst, arith, inl, inr}
use Rattle.std.specs.Prelude.{◌==◌, IsUtf8, nat_lt}
use Rattle.std.specs.List.{list_all}
use Rattle.std.specs.Str.{is_utf8}
use Rattle.std.specs.Cmp.Lexicographic.{pointwise}
use Rattle.std.proofs.Math.Seq.{take-append_seam, drop-append_seam}
use Rattle.std.proofs.lemmas.Bool.{and_parts, both_ways, cases_Bool}
use Rattle.std.proofs.lemmas.Bool.Decides.{nat_tests}
use Rattle.std.proofs.lemmas.List.{take-append-drop}
use Rattle.std.proofs.lemmas.Slice.Eq.{bytes_eq-Decides}
use Rattle.std.proofs.lemmas.Str.{IsUtf8-from_ascii, IsUtf8-from_is_utf8, is_utf8-from_IsUtf8}
use Rattle.flow_syntax.proofs.Characters.{ascii_text}
use Rattle.value_text.specs.inner.Reading.{begins_with, behind, is_token_byte, text_of, token_len, token_of}
use Rattle.value_text.proofs.Told.{both_are, kept, one_is, passed}
use Rattle.value_text.proofs.Numbers.{both}

pub is_a_text : (bs : List ℕ) → IsUtf8 bs → text_of bs ≡ Some bs
is_a_text bs h = let test : is_utf8 bs ≡ true = is_utf8-from_IsUtf8 bs h in rw test refl

pub not_utf8 : (bs : List ℕ) → (IsUtf8 bs → ⊥) → is_utf8 bs ≡ false
not_utf8 bs h = elim (cases_Bool (is_utf8 bs)) [
  | inl holds ↦ absurd (h (IsUtf8-from_is_utf8 bs holds))
  | inr fails ↦ fails
]

pub is_no_text : (bs : List ℕ) → (IsUtf8 bs → ⊥) → text_of bs ≡ None
is_no_text bs h = rw (not_utf8 bs h) refl

-- nothing, or a byte in front that no token has
abbrev pub EndsToken : List ℕ → Type 0
EndsToken [] = Unit {0}
EndsToken (b ∷ bs) = is_token_byte b ≡ false

-- a text of such bytes
pub record IsToken (text : List ℕ) : Type 0 where
  pub bytes : list_all is_token_byte text ≡ true
  pub some : 0 < length text

front_len : (text rest : List ℕ) → list_all is_token_byte text ≡ true → EndsToken rest → token_len (text ++ rest) ≡ length text
front_len [] [] h e = refl
front_len [] (b ∷ rest) h e = rw e refl
front_len (c ∷ text) rest h e =
    let parts = and_parts (is_token_byte c) (list_all is_token_byte text) h in
    let more : token_len (text ++ rest) ≡ length text = front_len text rest parts.1 e in
    rw parts.0 (omega (arith, more))

pub not_zero : (n : ℕ) → 0 < n → (n == 0) ≡ false
not_zero n h = grind (arith, nat_tests)

-- a token in front of what ends it is read
pub token_read : (text rest : List ℕ) → IsToken text → EndsToken rest → token_of (text ++ rest) ≡ Some (text, rest)
token_read text rest t e =
    let len : token_len (text ++ rest) ≡ length text = front_len text rest t.bytes e in
    let some : (length text == 0) ≡ false = not_zero (length text) t.some in
    rw (len, some, take-append_seam text rest, drop-append_seam text rest) refl

other_byte : (b c : ℕ) → is_token_byte b ≡ false → is_token_byte c ≡ true → (c == b) ≡ false
other_byte b c h k = elim (cases_Bool (c == b)) [
  | inl holds ↦ (let same : c ≡ b = grind (arith, nat_tests, holds) in absurd (both_ways (is_token_byte b) h (ap is_token_byte (sym same) ∙ k)))
  | inr fails ↦ fails
]

-- no other byte begins it
pub not_begun : (b : ℕ) (text rest : List ℕ) → is_token_byte b ≡ false → IsToken text → begins_with b (text ++ rest) ≡ false
not_begun b [] rest h t = absurd (omega (arith, t.some))
not_begun b (c ∷ text) rest h t = other_byte b c h (and_parts (is_token_byte c) (list_all is_token_byte text) t.bytes).0

token_ascii : (c : ℕ) → is_token_byte c ≡ true → nat_lt c 128 ≡ true
token_ascii c h = grind (arith, nat_tests)

all_ascii : (text : List ℕ) → list_all is_token_byte text ≡ true → list_all (λ c. nat_lt c 128) text ≡ true
all_ascii [] h = refl
all_ascii (c ∷ text) h =
    let parts = and_parts (is_token_byte c) (list_all is_token_byte text) h in
    both (nat_lt c 128) (list_all (λ c. nat_lt c 128) text) (token_ascii c parts.0) (all_ascii text parts.1)

pub token_utf8 : (text : List ℕ) → IsToken text → IsUtf8 text
token_utf8 text t = IsUtf8-from_ascii text (ascii_text text (all_ascii text t.bytes))

same_byte : (c : ℕ) → (c == c) ≡ true
same_byte c = grind (arith, nat_tests)

same_bytes : (text : List ℕ) → pointwise ◌==◌ text text ≡ true
same_bytes [] = refl
same_bytes (c ∷ text) = both (c == c) (pointwise ◌==◌ text text) (same_byte c) (same_bytes text)

-- what stands behind a text in front
pub behind_read : (text rest : List ℕ) → behind text (text ++ rest) ≡ Some rest
behind_read text rest = rw (take-append_seam text rest, drop-append_seam text rest, same_bytes text) refl

-- ** what is told by what was read

pub behind_is : (text bs rest : List ℕ) → behind text bs ≡ Some rest → bs ≡ text ++ rest
behind_is text bs rest e =
    let p = passed (pointwise ◌==◌ (take (length text) bs) text) (Some (drop (length text) bs)) rest e in
    let front : take (length text) bs ≡ text = (bytes_eq-Decides (take (length text) bs) text).0 p.0 in
    let back : drop (length text) bs ≡ rest = one_is (drop (length text) bs) rest p.1 in
    sym (take-append-drop (length text) bs) ∙ (λ i. front i ++ back i)

pub token_is : (bs : List ℕ) (t : List ℕ × List ℕ) → token_of bs ≡ Some t → bs ≡ t.0 ++ t.1
token_is bs t e =
    let n = token_len bs in
    let p = kept (n == 0) (Some (take n bs, drop n bs)) t e in
    let q = both_are (take n bs) t.0 (drop n bs) t.1 p.1 in
    sym (take-append-drop n bs) ∙ (λ i. q.0 i ++ q.1 i)

pub text_is : (bs text : List ℕ) → text_of bs ≡ Some text → IsUtf8 text × (bs ≡ text)
text_is bs text e =
    let p = passed (is_utf8 bs) (Some bs) text e in
    let is = one_is bs text p.1 in
    (subst IsUtf8 is (IsUtf8-from_is_utf8 bs p.0), is)

pub is_first : (b : ℕ) (bs : List ℕ) → begins_with b bs ≡ true → bs ≡ b ∷ drop 1 bs
is_first b [] h = cc
is_first b (c ∷ bs) h = let same : c ≡ b = grind (arith, nat_tests) in ap (λ d. d ∷ bs) same
