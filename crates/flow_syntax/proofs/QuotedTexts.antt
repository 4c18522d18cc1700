-- Reading a quoted text part by part, from its opening quote on.
use Rattle.std.proofs.Common.{◌≡◌, ℕ, suc, ◌+◌, ◌<◌, ◌≤◌, List, [], ◌∷◌, ◌++◌, length, take, drop, Some, None, refl, sym, ap, subst, ◌∙◌, arith, inl, inr, append_assoc, append-nil, length-append, length-drop, get_or, drop-cons, IsUtf8}
use Rattle.std.proofs.Math.Seq.{take-add}
use Rattle.std.specs.Prelude.{◌≢◌, ◌==◌, slice_get}
use Rattle.std.proofs.lemmas.Bool.Decides.{nat_tests}
use Rattle.std.proofs.lemmas.List.{take_at, drop_at, drop_all, take-append-drop, length-take-le}
use Rattle.flow_syntax.specs.declared.token.TokenKind.TheVariants as kinds
use Rattle.flow_syntax.specs.declared.lexer.refusal.LexFaultKind.TheVariants as faults
use Rattle.quoted_text.proofs.Insides.{piece_more, spelled_utf8}
use Rattle.quoted_text.specs.Quotes.{IsInside}
use Rattle.flow_syntax.specs.TokenFaults.{IsFaultAt, bad_escape, unclosed}
use Rattle.flow_syntax.specs.Lexing.{part_at, escape_at}
use Rattle.flow_syntax.proofs.Characters.{ascii_seam}
use Rattle.flow_syntax.proofs.Fronts.{chosen}
use Rattle.flow_syntax.proofs.Quoting.{part_found, no_part_first}
use Rattle.flow_syntax.proofs.Steps.{Passes, quoted_passed}

-- a quote and parts that spell the value stand in front of the place
abbrev pub IsReadTo : List ℕ → ℕ → List ℕ → Type 0
IsReadTo bytes at value = (inside : List ℕ) × (take at bytes ≡ 34 ∷ inside) × IsInside inside value

pub begun : (bytes : List ℕ) → slice_get bytes 0 ≡ Some 34 → (1 ≤ length bytes) × IsReadTo bytes 1 []
begun [] e = cc
begun (b ∷ bytes) e = let same : b ≡ 34 = cc in (omega arith, ([], rw same refl, refl))

pub read_part : (bytes value : List ℕ) (at b n : ℕ) → at ≤ length bytes → IsReadTo bytes at value → part_at (drop at bytes) ≡ Some (b, n) → (1 ≤ n) × (at + n ≤ length bytes) × IsReadTo bytes (at + n) (value ++ b ∷ [])
read_part bytes value at b n within (inside, e, s) p =
    let found = part_found (drop at bytes) b n p in (
      found.0,
      omega (arith, found.1, length-drop at bytes),
      (inside ++ take n (drop at bytes), take-add at n bytes ∙ ap (λ z. z ++ take n (drop at bytes)) e, piece_more inside value (take n (drop at bytes)) b s found.2),
    )

whole : (bytes inside tail : List ℕ) (at : ℕ) → take at bytes ≡ 34 ∷ inside → drop at bytes ≡ tail → bytes ≡ 34 ∷ inside ++ tail
whole bytes inside tail at e d = sym (take-append-drop at bytes) ∙ ap (λ z. z ++ drop at bytes) e ∙ ap (λ z. 34 ∷ inside ++ z) d

place : (bytes inside : List ℕ) (at : ℕ) → at ≤ length bytes → take at bytes ≡ 34 ∷ inside → length inside + 1 ≡ at
place bytes inside at within e = omega (arith, ap length e, length-take-le at bytes within)

pub not_closed : (bytes value : List ℕ) (at : ℕ) → at ≡ length bytes → IsReadTo bytes at value → IsFaultAt bytes 0 faults.Unclosed
not_closed bytes value at end (inside, e, s) =
    unclosed inside value (whole bytes inside [] at e (drop_all at bytes (omega arith)) ∙ ap (λ z. 34 ∷ z) (append-nil inside)) s

pub value_utf8 : (bytes value : List ℕ) (at : ℕ) → IsUtf8 bytes → at < length bytes → IsReadTo bytes at value → get_or bytes at 0 ≡ 34 → IsUtf8 value
value_utf8 bytes value at u within (inside, e, s) q =
    let rest = drop (suc at) bytes in
    let tail : drop at bytes ≡ 34 ∷ rest = drop-cons bytes at 0 within ∙ ap (λ b. b ∷ rest) q in
    let open_ = ascii_seam [] (inside ++ 34 ∷ rest) 34 (omega arith) (subst IsUtf8 (whole bytes inside (34 ∷ rest) at e tail) u) in
    spelled_utf8 [] inside value s (ascii_seam inside rest 34 (omega arith) open_.1).0

pub closed : (bytes value : List ℕ) (at : ℕ) → at < length bytes → IsReadTo bytes at value → get_or bytes at 0 ≡ 34 → Passes bytes (at + 1) (Some (kinds.Quoted value))
closed bytes value at within (inside, e, s) q =
    let rest = drop (suc at) bytes in
    let tail : drop at bytes ≡ 34 ∷ rest = drop-cons bytes at 0 within ∙ ap (λ b. b ∷ rest) q in
    let text : List ℕ = 34 ∷ inside ++ 34 ∷ [] in
    let parts : bytes ≡ text ++ rest = whole bytes inside (34 ∷ rest) at e tail ∙ ap (λ z. 34 ∷ z) (sym (append_assoc inside (34 ∷ []) rest)) in
    let len : length text ≡ at + 1 = omega (arith, place bytes inside at (omega arith) e, length-append inside (34 ∷ [])) in
    let front : take (at + 1) bytes ≡ text = ap (take (at + 1)) parts ∙ take_at text rest (at + 1) len in
    let back : drop (at + 1) bytes ≡ rest = ap (drop (at + 1)) parts ∙ drop_at text rest (at + 1) len in
    (omega arith, rw (front, back) (quoted_passed inside value rest s))

-- a byte other than a quote at which no part begins is a backslash
stuck_at : (b : ℕ) (rest : List ℕ) → b ≢ 34 → part_at (b ∷ rest) ≡ None → b ≡ 92
stuck_at b rest other p = elim (chosen (b == 34) None _ _ p) [
  | inl h ↦ absurd (let same : b ≡ 34 = grind (arith, nat_tests) in other same)
  | inr h ↦ elim (chosen (b == 92) (escape_at rest) _ _ h.1) [ inl k ↦ (let same : b ≡ 92 = grind (arith, nat_tests) in same) | inr k ↦ cc ]
]

pub wrong_escape : (bytes value : List ℕ) (at : ℕ) → at < length bytes → IsReadTo bytes at value → get_or bytes at 0 ≢ 34 → part_at (drop at bytes) ≡ None
    → (n : ℕ) × (at ≡ n) × IsFaultAt bytes n faults.BadEscape
wrong_escape bytes value at within (inside, e, s) other p =
    let rest = drop (suc at) bytes in
    let d : drop at bytes ≡ get_or bytes at 0 ∷ rest = drop-cons bytes at 0 within in
    let same = stuck_at (get_or bytes at 0) rest other (sym (ap part_at d) ∙ p) in
    let tail : drop at bytes ≡ 92 ∷ rest = d ∙ ap (λ c. c ∷ rest) same in
    (length inside + 1, sym (place bytes inside at (omega arith) e), bad_escape inside rest value (whole bytes inside (92 ∷ rest) at e tail) s (no_part_first (92 ∷ rest) (sym (ap part_at tail) ∙ p)))
