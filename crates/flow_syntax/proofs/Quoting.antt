-- Pieces of quoted texts in front of bytes.
use Rattle.std.proofs.Common.{◌≡◌, ℕ, ◌≤◌, List, [], ◌∷◌, ◌++◌, length, take, drop, Some, None, Option, refl, sym, ap, ◌∙◌, arith, inl, inr, append_assoc}
use Rattle.std.specs.Prelude.{◌==◌, option_map}
use Rattle.std.proofs.lemmas.Bool.Decides.{nat_tests}
use Rattle.std.proofs.lemmas.List.{take-append-drop, drop_at}
use Rattle.quoted_text.specs.Escapes.{short_escape, octal_byte, IsEscape, short, octal}
use Rattle.quoted_text.specs.Quotes.{IsPiece, IsInside}
use Rattle.quoted_text.proofs.Escapes.{plain_parts, plain_byte, octal_long, octal_read, octal_found}
use Rattle.flow_syntax.specs.TokenFaults.{BeginsNoPiece}
use Rattle.flow_syntax.specs.Lexing.{octal_at, escape_from, escape_at, part_at}
use Rattle.flow_syntax.proofs.Fronts.{chosen, same_front}

-- A PIECE IN FRONT OF BYTES IS THE FIRST

abbrev some_part : ℕ → ℕ → Option (ℕ × ℕ)
some_part b n = Some (b, n)

escape_first : (text rest : List ℕ) (b : ℕ) → IsEscape text b → part_at (text ++ rest) ≡ some_part b (length text)
escape_first text rest b (short c is e) = ap (λ (t : List ℕ). part_at (t ++ rest)) e ∙ ap (λ (o : Option ℕ). escape_from o (c ∷ rest)) is ∙ ap (λ (t : List ℕ). some_part b (length t)) (sym e)
escape_first text rest b (octal x y z hx hy hz v small e) =
    ap (λ (t : List ℕ). part_at (t ++ rest)) e ∙ ap (λ (o : Option ℕ). escape_from o (x ∷ y ∷ z ∷ rest)) (octal_long x hx)
    ∙ ap (λ (o : Option ℕ). option_map (λ (c : ℕ). (c, 4)) o) (octal_read x y z b hx hy hz v small) ∙ ap (λ (t : List ℕ). some_part b (length t)) (sym e)

pub part_first : (text rest : List ℕ) (b : ℕ) → IsPiece text b → part_at (text ++ rest) ≡ Some (b, length text)
part_first text rest b (inl h) = let t = plain_parts b h.1 in rw h.0 (rw (t.0, t.1) refl)
part_first text rest b (inr h) = escape_first text rest b h

-- WHAT IS FOUND IS A PIECE

-- the first piece of bytes is so many of them
abbrev pub IsFirstPiece : List ℕ → ℕ → ℕ → Type 0
IsFirstPiece bytes b n = (1 ≤ n) × (n ≤ length bytes) × IsPiece (take n bytes) b

some_pair : (b c n m : ℕ) → some_part b n ≡ some_part c m → (b ≡ c) × (n ≡ m)
some_pair b c n m e = let pair : ℕ × ℕ = (b, n) in let other : ℕ × ℕ = (c, m) in let same : pair ≡ other = cc in (ap (λ (p : ℕ × ℕ). p.0) same, ap (λ (p : ℕ × ℕ). p.1) same)

octal_part : (a m l : ℕ) (rest : List ℕ) (b n : ℕ) (o : Option ℕ) → octal_byte a m l ≡ o → option_map (λ (c : ℕ). (c, 4)) o ≡ some_part b n → IsFirstPiece (92 ∷ a ∷ m ∷ l ∷ rest) b n
octal_part a m l rest b n None is e = cc
octal_part a m l rest b n (Some v) is e = let same = some_pair v b 4 n e in rw (← same.1, ← same.0) (omega arith, omega arith, inr (octal_found a m l v is))

octals_found : (bytes : List ℕ) (b n : ℕ) → octal_at bytes ≡ some_part b n → IsFirstPiece (92 ∷ bytes) b n
octals_found [] b n e = cc
octals_found (a ∷ []) b n e = cc
octals_found (a ∷ m ∷ []) b n e = cc
octals_found (a ∷ m ∷ l ∷ rest) b n e = octal_part a m l rest b n (octal_byte a m l) refl e

escape_by : (c : ℕ) (rest : List ℕ) (b n : ℕ) (o : Option ℕ) → short_escape c ≡ o → escape_from o (c ∷ rest) ≡ some_part b n → IsFirstPiece (92 ∷ c ∷ rest) b n
escape_by c rest b n (Some v) is e = let same = some_pair v b 2 n e in rw (← same.1, ← same.0) (omega arith, omega arith, inr (short c is refl))
escape_by c rest b n None is e = octals_found (c ∷ rest) b n e

escape_found : (bytes : List ℕ) (b n : ℕ) → escape_at bytes ≡ some_part b n → IsFirstPiece (92 ∷ bytes) b n
escape_found [] b n e = cc
escape_found (c ∷ rest) b n e = escape_by c rest b n (short_escape c) refl e

pub part_found : (bytes : List ℕ) (b n : ℕ) → part_at bytes ≡ Some (b, n) → IsFirstPiece bytes b n
part_found [] b n e = cc
part_found (c ∷ rest) b n e = elim (chosen (c == 34) None _ _ e) [
  | inl h ↦ cc
  | inr h ↦ elim (chosen (c == 92) (escape_at rest) (Some (c, 1)) _ h.1) [
    | inl k ↦ (let is : c ≡ 92 = grind (arith, nat_tests) in rw is (escape_found rest b n k.1))
    | inr k ↦ (let same = some_pair c b 1 n k.1 in
        rw (← same.1, ← same.0) (omega arith, omega arith, inl (refl, plain_byte c h.0 k.0)))
  ]
]

pub no_part_first : (bytes : List ℕ) → part_at bytes ≡ None → BeginsNoPiece bytes
no_part_first bytes none text after b e p = let some = part_first text after b p in let same : part_at bytes ≡ part_at (text ++ after) = ap part_at e in cc

pub none_first : (bytes : List ℕ) → BeginsNoPiece bytes → part_at bytes ≡ None
none_first bytes h = go (part_at bytes) refl
  where
    go : (o : Option (ℕ × ℕ)) → part_at bytes ≡ o → o ≡ None
    go None e = refl
    go (Some x) e = let found = part_found bytes x.0 x.1 e in absurd (h (take x.1 bytes) (drop x.1 bytes) x.0 (sym (take-append-drop x.1 bytes)) found.2)

-- THE PIECES IN FRONT OF A PLACE WHERE NONE BEGINS ARE DETERMINED

pub same_inside : (a b v w x y : List ℕ) → IsInside a v → IsInside b w → a ++ x ≡ b ++ y → part_at x ≡ None → part_at y ≡ None → (a ≡ b) × (v ≡ w)
same_inside a b [] [] x y h k e p q = (h ∙ sym k, refl)
same_inside a b [] (d ∷ w) x y h k e p q =
    absurd (
    let some = part_first k.0 (k.1 ++ y) d k.2 in
    let same : x ≡ k.0 ++ (k.1 ++ y) = ap (λ (z : List ℕ). z ++ x) (sym h) ∙ e ∙ ap (λ (z : List ℕ). z ++ y) k.4 ∙ append_assoc k.0 k.1 y in
    let found = ap part_at same in
    cc
    )
same_inside a b (c ∷ v) [] x y h k e p q =
    absurd (
    let some = part_first h.0 (h.1 ++ x) c h.2 in
    let same : y ≡ h.0 ++ (h.1 ++ x) = ap (λ (z : List ℕ). z ++ y) (sym k) ∙ sym e ∙ ap (λ (z : List ℕ). z ++ x) h.4 ∙ append_assoc h.0 h.1 x in
    let found = ap part_at same in
    cc
    )
same_inside a b (c ∷ v) (d ∷ w) x y h k e p q =
    let left : a ++ x ≡ h.0 ++ (h.1 ++ x) = ap (λ (z : List ℕ). z ++ x) h.4 ∙ append_assoc h.0 h.1 x in
    let right : b ++ y ≡ k.0 ++ (k.1 ++ y) = ap (λ (z : List ℕ). z ++ y) k.4 ∙ append_assoc k.0 k.1 y in
    let whole : h.0 ++ (h.1 ++ x) ≡ k.0 ++ (k.1 ++ y) = sym left ∙ e ∙ right in
    let same = some_pair c d (length h.0) (length k.0) (sym (part_first h.0 (h.1 ++ x) c h.2) ∙ ap part_at whole ∙ part_first k.0 (k.1 ++ y) d k.2) in
    let fronts : h.0 ≡ k.0 = same_front h.0 k.0 (h.1 ++ x) (k.1 ++ y) whole same.1 in
    let tails : h.1 ++ x ≡ k.1 ++ y = sym (drop_at h.0 (h.1 ++ x) (length h.0) refl) ∙ ap (drop (length h.0)) whole ∙ drop_at k.0 (k.1 ++ y) (length h.0) (sym same.1) in
    let more = same_inside h.1 k.1 v w x y h.3 k.3 tails p q in
    (h.4 ∙ (λ i. fronts i ++ more.0 i) ∙ sym k.4, λ i. same.0 i ∷ more.1 i)
