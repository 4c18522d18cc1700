-- Each state but that of a number that is no i64 goes on to a text.
use Rattle.std.proofs.Common.{◌≡◌, ℕ, ◌<◌, ◌≤◌, Bool, true, false, List, [], ◌∷◌, ◌++◌, length, Option, Some, None, refl, sym, ap, ◌∙◌, subst, inl, inr, append-nil, append_assoc, length-append, arith, lit<}
use Rattle.std.specs.Prelude.{ℤ, ◌⊎◌, ◌==◌, IsUtf8, nat_lt, nat_le}
use Rattle.std.proofs.Math.Seq.{take-append_seam, get_or-append_seam}
use Rattle.std.proofs.lemmas.Bool.Decides.{nat_tests}
use Rattle.std.proofs.lemmas.Str.{IsUtf8-take}
use Rattle.flow_term.specs.declared.term.Kind.TheVariants as kind
use Rattle.quoted_text.proofs.Cuts.{with_byte, utf8_before}
use Rattle.quoted_text.proofs.Escapes.{low_high, low_is_octal, octal_high, plain_byte}
use Rattle.quoted_text.specs.Escapes.{is_low_octal, is_octal, octal_value, IsEscape, short, octal}
use Rattle.quoted_text.specs.Quotes.{IsQuoted}
use Rattle.aterm_text.specs.declared.number.Number.{Number}
use Rattle.aterm_text.specs.declared.open.Open.{Open}
use Rattle.aterm_text.specs.declared.reader.state.Escape.{Escape}
use Rattle.aterm_text.specs.declared.reader.state.Last.{Last}
use Rattle.aterm_text.specs.declared.reader.state.Last.TheVariants as last
use Rattle.aterm_text.specs.Faults.{Begins, IsDue}
use Rattle.aterm_text.specs.Grammar.{IsSymbol, number_of, signed, IsI64, IsBody}
use Rattle.aterm_text.specs.Numbers.{integer_of}
use Rattle.aterm_text.proofs.Runs.{IntegerIs, integer_is}
use Rattle.aterm_text.proofs.Spelled.{Quoting, Escaping, NumberAt, Means, behind_as, behind_at, head_due}
use Rattle.aterm_text.proofs.Lives.{begins_less, term_lives, body_lives, due_lives, minus_lives, quoting_lives}
use Rattle.aterm_text.proofs.Sound.{symbol_as_body, quoted_as_body, integer_body, quoting_more}
use Rattle.aterm_text.proofs.Utf8.{IsOutside}

-- ** inside quotes, also within a character

at_character : (p rest : List ℕ) (c : ℕ) → 192 ≤ c → IsUtf8 (p ++ c ∷ rest) → IsUtf8 p
at_character p rest c h u =
    subst IsUtf8 (take-append_seam p (c ∷ rest))
    (IsUtf8-take (p ++ c ∷ rest) (length p) u (omega (arith, length-append p (c ∷ rest)), λ _ _. subst (λ (n : ℕ). 192 ≤ n) (sym (get_or-append_seam p c rest 0)) h))

not_byte : (c n : ℕ) → 128 ≤ c → n < 128 → (c == n) ≡ false
not_byte c n h k = grind (arith, nat_tests)

inside_chosen : (stack : List Open) (chars p rest : List ℕ) (c : ℕ) → Quoting stack chars p → IsUtf8 (p ++ c ∷ rest) → (Quoting stack (chars ++ c ∷ []) (p ++ c ∷ []) → IsUtf8 ((p ++ c ∷ []) ++ rest) → Begins (p ++ c ∷ []))
    → (x y : Bool) → nat_lt c 128 ≡ x → nat_le 192 c ≡ y → Begins p
inside_chosen stack chars p rest c q u later true y e f = quoting_lives stack chars p q (utf8_before p rest c (grind (arith, nat_tests)) u)
inside_chosen stack chars p rest c q u later false true e f = quoting_lives stack chars p q (at_character p rest c (grind (arith, nat_tests)) u)
inside_chosen stack chars p rest c q u later false false e f =
    let high : 128 ≤ c = grind (arith, nat_tests) in
    begins_less p (c ∷ []) (later (quoting_more stack chars p (c ∷ []) c q (inl (refl, plain_byte c (not_byte c 34 high (lit< tt)) (not_byte c 92 high (lit< tt))))) (subst IsUtf8 (sym (append_assoc p (c ∷ []) rest)) u))

pub inside_lives : (stack : List Open) (chars p rest : List ℕ) → Quoting stack chars p → IsUtf8 (p ++ rest) → Begins p
inside_lives stack chars p [] q u = quoting_lives stack chars p q (subst IsUtf8 (append-nil p) u)
inside_lives stack chars p (c ∷ rest) q u =
    inside_chosen stack chars p rest c q u (λ r w. inside_lives stack (chars ++ c ∷ []) (p ++ c ∷ []) rest r w) (nat_lt c 128) (nat_le 192 c) refl refl

-- ** escapes

escape_lives : (stack : List Open) (e : Escape) (tail more : List ℕ) (value : ℕ) (p : List ℕ) → Escaping stack e tail p → IsEscape (92 ∷ (tail ++ more)) value → IsUtf8 (p ++ more) → Begins p
escape_lives stack e tail more value p h is u =
    begins_less p more (quoting_lives stack (e.chars ++ value ∷ []) (p ++ more)
    (subst (λ (xs : List ℕ). Quoting stack (e.chars ++ value ∷ []) xs) (sym (ap (λ (xs : List ℕ). xs ++ more) h.whole ∙ append_assoc h.outside (92 ∷ tail) more))
    (quoting_more stack e.chars h.outside (92 ∷ (tail ++ more)) value h.quoting (inr is))) u)

one_escape : (a : ℕ) → is_low_octal a ≡ true → IsEscape (92 ∷ a ∷ 48 ∷ 48 ∷ []) (octal_value a 48 48)
one_escape a h = let high : a ≤ 49 = low_high a h in octal a 48 48 (low_is_octal a h) refl refl refl (omega arith) refl

two_escape : (a b : ℕ) → is_low_octal a ≡ true → is_octal b ≡ true → IsEscape (92 ∷ a ∷ b ∷ 48 ∷ []) (octal_value a b 48)
two_escape a b h k = let high : a ≤ 49 = low_high a h in let middle : b ≤ 55 = octal_high b k in octal a b 48 (low_is_octal a h) k refl refl (omega arith) refl

-- ** each state

abbrev pub IsDead : Last → Type 0
IsDead (last.Number n) = integer_of n ≡ None
IsDead _ = ⊥

number_alive : (stack : List Open) (n : Number) (p : List ℕ) (h : NumberAt n stack p) → IsUtf8 p → (o : Option ℤ) → integer_of n ≡ o → IntegerIs o (signed n.negative (number_of h.digits)) → (integer_of n ≡ None) ⊎ Begins p
number_alive stack n p h u None e is = inl e
number_alive stack n p h u (Some m) e (inl g) =
    let same : signed n.negative (number_of h.digits) ≡ m = (let f = g.0 in cc) in inr (body_lives stack (kind.Int m) p (integer_body n stack p m h same (subst IsI64 same g.1)) u)
number_alive stack n p h u (Some m) e (inr g) = absurd (let f = g.0 in cc)

pub alive : (l : Last) (stack : List Open) (begun : ℕ) (p : List ℕ) → IsOutside l → Means stack begun l p → IsUtf8 p → IsDead l ⊎ Begins p
alive last.Start stack begun p o m u = inr (due_lives stack p m.spelled u)
alive last.Opening stack begun p o m u = inr (due_lives stack p (head_due stack p m.spelled) u)
alive (last.Symbol name) stack begun p o m u =
    let s : (front : List ℕ) × IsDue stack front × IsSymbol name × (p ≡ front ++ name) = m.spelled in
    inr (body_lives stack (kind.Apply name []) p (behind_at (λ s. IsBody s (kind.Apply name [])) stack p s.0 name s.1 (symbol_as_body name name (refl, s.2)) s.3) u)
alive (last.Name name) stack begun p o m u = inr (body_lives stack (kind.Apply name []) p (behind_as (λ s. (s ≡ name) × IsSymbol name) (λ s. IsBody s (kind.Apply name [])) (symbol_as_body name) stack p m.spelled) u)
alive (last.Inside chars) stack begun p o m u = absurd o
alive (last.Backslash e) stack begun p o m u = inr (escape_lives stack e [] (92 ∷ []) 92 p m.spelled (short 92 refl refl) (with_byte p 92 (lit< tt) u))
alive (last.OneOctal e value) stack begun p o m u =
    inr (escape_lives stack e (m.spelled.0 ∷ []) (48 ∷ 48 ∷ []) _ p m.spelled.3 (one_escape m.spelled.0 m.spelled.1) (subst IsUtf8 (append_assoc p (48 ∷ []) (48 ∷ [])) (with_byte (p ++ 48 ∷ []) 48 (lit< tt) (with_byte p 48 (lit< tt) u))))
alive (last.TwoOctals e value) stack begun p o m u = inr (escape_lives stack e (m.spelled.0 ∷ m.spelled.1 ∷ []) (48 ∷ []) _ p m.spelled.5 (two_escape m.spelled.0 m.spelled.1 m.spelled.2 m.spelled.3) (with_byte p 48 (lit< tt) u))
alive (last.Quoted chars) stack begun p o m u = inr (body_lives stack (kind.Str chars) p (behind_as (λ s. IsQuoted s chars) (λ s. IsBody s (kind.Str chars)) (quoted_as_body chars) stack p m.spelled) u)
alive (last.Minus start) stack begun p o m u =
    let s : (front : List ℕ) × IsDue stack front × (start ≡ length front) × (p ≡ front ++ 45 ∷ []) = m.spelled in inr (minus_lives stack p s.0 s.1 s.3 u)
alive (last.Number n) stack begun p o m u = let h : NumberAt n stack p = m.spelled in number_alive stack n p h u (integer_of n) refl (integer_is n n.negative (number_of h.digits) (length h.front) h.is)
alive (last.Body k) stack begun p o m u = inr (body_lives stack k p m.spelled u)
alive (last.Whole t) stack begun p o m u = inr (term_lives stack t p m.spelled u)
