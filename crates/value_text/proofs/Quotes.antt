-- Reading what stands between quotes.
use Rattle.std.proofs.Common.{◌≡◌, ℕ, zero, suc, ◌+◌, ◌<◌, ◌≤◌, Bool, true, false, ◌||◌, List, [], ◌∷◌, ◌++◌, length, Some, Option, refl, sym, ap, subst, ◌∙◌, arith, append_assoc, length-append, inl, inr}
use Rattle.std.specs.Prelude.{◌==◌, ◌/◌, ◌%◌, nat_lt, if◌then◌else◌, option_map, IsUtf8}
use Rattle.std.specs.Char.{is_ascii_digit}
use Rattle.std.specs.List.{flat_map}
use Rattle.std.proofs.lemmas.Bool.Decides.{nat_tests}
use Rattle.quoted_text.specs.Escapes.{octal_byte}
use Rattle.quoted_text.specs.Spellings.{byte_text}
use Rattle.quoted_text.proofs.Escapes.{octal_between, octal_long, octal_parts, octal_read, same_byte}
use Rattle.quoted_text.proofs.Spelled.{control_ascii}
use Rattle.value_text.specs.inner.Reading.{Reading, ◌>>=◌, all_until, begins_with, behind, escape_from, escape_of, octal_at, part_of, quoted_of, spelled, text_of, until}
use Rattle.value_text.proofs.Told.{both_are, bound}
use Rattle.value_text.proofs.Tokens.{behind_is, behind_read, is_a_text, is_first, text_is}
use Rattle.value_text.proofs.Turns.{end, no_turns, turn, turned}

-- A text stands for a byte between quotes of this kind.
record StandsFor (quote c : ℕ) (text : List ℕ) : Type 0 where
  some : 0 < length text
  opens : (rest : List ℕ) → begins_with quote (text ++ rest) ≡ false
  read : (rest : List ℕ) → spelled (text ++ rest) ≡ Some (c, rest)

chosen_text : (quote c : ℕ) (t : Bool) (x y : List ℕ) → (t ≡ true → StandsFor quote c x) → (t ≡ false → StandsFor quote c y) → StandsFor quote c (if t then x else y)
chosen_text quote c true x y f g = f refl
chosen_text quote c false x y f g = g refl

-- what a quote is: not a backslash, and no letter of an escape
pub record IsQuote (quote : ℕ) : Type 0 where
  pub itself : (quote == quote) ≡ true
  pub no_backslash : (92 == quote) ≡ false
  pub escaped : (rest : List ℕ) → escape_of (quote ∷ rest) ≡ Some (quote, rest)

-- three octal digits stand for the byte of which they are the spelling
octal_stands : (c : ℕ) → c < 128 → octal_byte (48 + c / 64) (48 + c / 8 % 8) (48 + c % 8) ≡ Some c
octal_stands c h =
    let p = octal_parts c h in
    let high = octal_between (48 + c / 64) (omega arith) (omega (arith, p.0)) in
    let middle = octal_between (48 + c / 8 % 8) (omega arith) p.1 in
    let low = octal_between (48 + c % 8) (omega arith) p.2 in
    octal_read (48 + c / 64) (48 + c / 8 % 8) (48 + c % 8) c high middle low (sym p.3) h

is_digit : (h : ℕ) → 48 ≤ h → h ≤ 57 → is_ascii_digit h ≡ true
is_digit h k l = grind (arith, nat_tests)

escape_read : (c : ℕ) (rest : List ℕ) → c < 128 → escape_of ((48 + c / 64) ∷ (48 + c / 8 % 8) ∷ (48 + c % 8) ∷ rest) ≡ Some (c, rest)
escape_read c rest h =
    let p = octal_parts c h in
    let long = octal_long (48 + c / 64) (octal_between (48 + c / 64) (omega arith) (omega (arith, p.0))) in
    ap (λ (o : Option ℕ). escape_from o ((48 + c / 64) ∷ (48 + c / 8 % 8) ∷ (48 + c % 8) ∷ rest)) long
    ∙ ap (λ (b : Bool). if b then octal_at ((48 + c / 64) ∷ (48 + c / 8 % 8) ∷ (48 + c % 8) ∷ rest) else Some (48 + c / 64, (48 + c / 8 % 8) ∷ (48 + c % 8) ∷ rest)) (is_digit (48 + c / 64) (omega arith) (omega (arith, p.0)))
    ∙ ap (λ (o : Option ℕ). option_map (λ (b : ℕ). (b, rest)) o) (octal_stands c h)

module _ (quote : ℕ) (q : IsQuote quote) where
  short : (c d : ℕ) → ((rest : List ℕ) → escape_of (d ∷ rest) ≡ Some (c, rest)) → StandsFor quote c (92 ∷ d ∷ [])
  short c d e = record { some = omega arith; opens = λ rest. q.no_backslash; read = λ rest. e rest }

  byte_stands : (c : ℕ) → StandsFor quote c (byte_text quote c)
  byte_stands c =
      chosen_text quote c (c == quote) _ _ (λ e. subst (λ (d : ℕ). StandsFor quote d (92 ∷ quote ∷ [])) (sym (same_byte c quote e)) (short quote quote q.escaped)) (λ other.
      chosen_text quote c (c == 92) _ _ (λ e. subst (λ (d : ℕ). StandsFor quote d (92 ∷ 92 ∷ [])) (sym (same_byte c 92 e)) (short 92 92 (λ rest. refl))) (λ plain.
      chosen_text quote c (c == 10) _ _ (λ e. subst (λ (d : ℕ). StandsFor quote d (92 ∷ 110 ∷ [])) (sym (same_byte c 10 e)) (short 10 110 (λ rest. refl))) (λ _.
      chosen_text quote c (c == 9) _ _ (λ e. subst (λ (d : ℕ). StandsFor quote d (92 ∷ 116 ∷ [])) (sym (same_byte c 9 e)) (short 9 116 (λ rest. refl))) (λ _.
      chosen_text quote c (c == 13) _ _ (λ e. subst (λ (d : ℕ). StandsFor quote d (92 ∷ 114 ∷ [])) (sym (same_byte c 13 e)) (short 13 114 (λ rest. refl))) (λ _.
      chosen_text quote c (nat_lt c 32 || c == 127) _ _
      (λ e. record { some = omega arith; opens = λ rest. q.no_backslash; read = λ rest. escape_read c rest (control_ascii c e) })
      (λ _. record { some = omega arith; opens = λ rest. other; read = λ rest. rw plain refl }))))))

  byte_read : (c : ℕ) (rest : List ℕ) → part_of quote (byte_text quote c ++ rest) ≡ Some (c, rest)
  byte_read c rest = let first = (byte_stands c).read rest in rw (first, behind_read (byte_text quote c) rest) refl

  parts_read : (text rest : List ℕ) → all_until quote (part_of quote) (flat_map (byte_text quote) text ++ quote ∷ rest) ≡ Some (text, rest)
  parts_read [] rest = end quote (part_of quote) (quote ∷ rest) q.itself
  parts_read (c ∷ text) rest =
      let first = byte_stands c in
      let after : List ℕ = flat_map (byte_text quote) text ++ quote ∷ rest in
      let whole : (byte_text quote c ++ flat_map (byte_text quote) text) ++ quote ∷ rest ≡ byte_text quote c ++ after = append_assoc (byte_text quote c) (flat_map (byte_text quote) text) (quote ∷ rest) in
      let less : length after < length (byte_text quote c ++ after) = omega (arith, first.some, length-append (byte_text quote c) after) in
      let one = turn quote (part_of quote) (byte_text quote c ++ after) after c (first.opens after) (byte_read c after) less in
      let more : all_until quote (part_of quote) after ≡ Some (text, rest) = parts_read text rest in
      ap (all_until quote (part_of quote)) whole ∙ one ∙ ap (λ (o : Reading (List ℕ)). o >>= λ ys. Some (c ∷ ys.0, ys.1)) more

  -- a text between quotes is read
  pub quoted_read : (text rest : List ℕ) → IsUtf8 text → quoted_of quote ((flat_map (byte_text quote) text ++ quote ∷ []) ++ rest) ≡ Some (text, rest)
  unfolding quoted_of
  quoted_read text rest u =
      let whole : (flat_map (byte_text quote) text ++ quote ∷ []) ++ rest ≡ flat_map (byte_text quote) text ++ quote ∷ rest = append_assoc (flat_map (byte_text quote) text) (quote ∷ []) rest in
      rw (whole, parts_read text rest, is_a_text text u) refl

-- ** what is told by what was read

pub part_is_text : (quote c : ℕ) (bs rest : List ℕ) → part_of quote bs ≡ Some (c, rest) → bs ≡ byte_text quote c ++ rest
part_is_text quote c bs rest e =
    let p = bound (spelled bs) (λ x. behind (byte_text quote x.0) bs >>= λ r. Some (x.0, r)) (c, rest) e in
    let q = bound (behind (byte_text quote p.0.0) bs) (λ r. Some (p.0.0, r)) (c, rest) p.2 in
    let s = both_are p.0.0 c q.0 rest q.2 in
    behind_is (byte_text quote p.0.0) bs q.0 q.1 ∙ (λ i. byte_text quote (s.0 i) ++ s.1 i)

parts_are : (quote n : ℕ) (bs rest text : List ℕ) → until quote (part_of quote) n bs ≡ Some (text, rest) → bs ≡ flat_map (byte_text quote) text ++ quote ∷ rest
parts_are quote zero bs rest text e = absurd (no_turns quote (part_of quote) bs (text, rest) e)
parts_are quote (suc n) bs rest text e = elim (turned quote (part_of quote) n bs rest text e) [
  | inl ended ↦ is_first quote bs ended.begins ∙ ap (λ (cs : List ℕ). quote ∷ cs) ended.behind ∙ ap (λ (cs : List ℕ). flat_map (byte_text quote) cs ++ quote ∷ rest) (sym ended.none)
  | inr t ↦ part_is_text quote t.first bs t.after t.read_is ∙ ap (λ (cs : List ℕ). byte_text quote t.first ++ cs) (parts_are quote n t.after rest t.others t.more)
      ∙ sym (append_assoc (byte_text quote t.first) (flat_map (byte_text quote) t.others) (quote ∷ rest)) ∙ ap (λ (cs : List ℕ). flat_map (byte_text quote) cs ++ quote ∷ rest) t.whole
]

pub quoted_is : (quote : ℕ) (bs rest text : List ℕ) → quoted_of quote bs ≡ Some (text, rest) → IsUtf8 text × (bs ≡ (flat_map (byte_text quote) text ++ quote ∷ []) ++ rest)
unfolding quoted_of
quoted_is quote bs rest text e =
    let p = bound (all_until quote (part_of quote) bs) (λ x. text_of x.0 >>= λ t. Some (t, x.1)) (text, rest) e in
    let q = bound (text_of p.0.0) (λ t. Some (t, p.0.1)) (text, rest) p.2 in
    let s = both_are q.0 text p.0.1 rest q.2 in
    let t = text_is p.0.0 q.0 q.1 in
    let whole = parts_are quote (suc (length bs)) bs p.0.1 p.0.0 p.1 in
    let is : p.0.0 ≡ text = t.1 ∙ s.0 in
    (subst IsUtf8 s.0 t.0, whole ∙ (λ i. flat_map (byte_text quote) (is i) ++ quote ∷ s.1 i) ∙ sym (append_assoc (flat_map (byte_text quote) text) (quote ∷ []) rest))

pub double : IsQuote 34
double = record { itself = refl; no_backslash = refl; escaped = λ rest. refl }

pub single : IsQuote 39
single = record { itself = refl; no_backslash = refl; escaped = λ rest. refl }
