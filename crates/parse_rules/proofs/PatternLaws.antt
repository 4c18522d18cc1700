-- How each pattern is read, branch by branch.
use Rattle.std.proofs.Common.{◌≡◌, ℕ, suc, ◌+◌, ◌≤◌, ◌<◌, ◌||◌, Bool, true, false, List, [], ◌∷◌, Ok, refl, sym, ap, ◌∙◌, add-one, arith, zero, eqb-true, w64, to_z, of_z}
use Rattle.std.specs.Prelude.{ℤ, pos, negsuc, neg_ℤ, ◌-ℤ◌, ◌==◌, nat_le, FitsSigned}
use Rattle.std.proofs.Math.IntN.{+ℤ_idl}
use Rattle.std.proofs.lemmas.Int.{to_z-of_z, fits_signed_from_abs}
use Rattle.flow_syntax.specs.declared.pattern.PatternKind.TheVariants as patterns
use Rattle.flow_syntax.specs.declared.token.Token.{Token}
use Rattle.flow_syntax.specs.declared.token.TokenKind.{TokenKind}
use Rattle.flow_syntax.specs.declared.token.TokenKind.TheVariants as tokens
use Rattle.grammar_theory.proofs.Composition.{ok_one}
use Rattle.grammar_theory.specs.Reading.{◌>>=◌}
use Rattle.grammar_theory.specs.Texts.{member, Optional, Then, Symbol}
use Rattle.spec_grammar.proofs.Turns.{starts, starts_with_two}
use Rattle.spec_grammar.proofs.Unrolled.{reads_at, one_at, bind_bind, bind_same}
use Rattle.spec_grammar.specs.Kinds.{code_of, kind_of, kind_named, number_kind}
use Rattle.spec_grammar.specs.Parts.{identifier, text_of, number_of, number_in, listed_in}
use Rattle.spec_grammar.specs.Patterns.{pattern_at, application_of, pattern_list, after_identifier, identifier_pattern, sorted_variable, negative_number, quoted_pattern}
use Rattle.spec_grammar.specs.Reading.{reads, reads_as}
use Rattle.spec_grammar.specs.Symbols.{APattern, AFirmPattern, AnUnnamedPattern, PatternArguments}
use Rattle.spec_grammar.specs.declared.kind.Kind.{Kind}
use Rattle.spec_grammar.specs.declared.kind.Kind.TheVariants as kinds
use Rattle.parse_rules.specs.inner.Parts.{bracketed, placed, quoted, sorted_of, negative_of, tuple_at, items_at}

-- ** a pattern

pub pattern_wild : (l : ℕ) (ts : List Token) → l ≤ 256 → starts (kinds.Underscore ∷ []) ts ≡ true
    → reads l APattern ts ≡ (one_at l kinds.Underscore ts >>= λ t. Ok (pattern_at t.0 patterns.Wild, t.1))
pattern_wild l ts h b = reads_at l APattern ts h ∙ rw b (simp bind_bind)

pub pattern_named : (l : ℕ) (ts : List Token) → l ≤ 256 → starts (kinds.Underscore ∷ []) ts ≡ false → starts (kinds.Identifier ∷ []) ts ≡ true
    → reads l APattern ts ≡ reads_as l (Then identifier (Optional after_identifier)) (λ x. identifier_pattern x.0 x.1) ts
pattern_named l ts h b d = reads_at l APattern ts h ∙ rw (b, d) (simp bind_bind)

pub pattern_unnamed : (l : ℕ) (ts : List Token) → l ≤ 256 → starts (kinds.Underscore ∷ []) ts ≡ false → starts (kinds.Identifier ∷ []) ts ≡ false
    → reads l APattern ts ≡ reads l AnUnnamedPattern ts
pattern_unnamed l ts h b d = reads_at l APattern ts h ∙ rw (b, d) (simp bind_bind (bind_same (reads l AnUnnamedPattern ts)))

-- ** a pattern behind `@`

pub firm_application : (l : ℕ) (ts : List Token) → l ≤ 256 → starts (kinds.Identifier ∷ []) ts ≡ true
    → reads l AFirmPattern ts ≡ reads_as l (Then identifier (Symbol PatternArguments)) (λ x. application_of x.0 x.1) ts
firm_application l ts h b = reads_at l AFirmPattern ts h ∙ rw b (simp bind_bind)

pub firm_unnamed : (l : ℕ) (ts : List Token) → l ≤ 256 → starts (kinds.Identifier ∷ []) ts ≡ false → reads l AFirmPattern ts ≡ reads l AnUnnamedPattern ts
firm_unnamed l ts h b = reads_at l AFirmPattern ts h ∙ rw b (simp bind_bind (bind_same (reads l AnUnnamedPattern ts)))

-- ** a pattern that begins with no identifier

abbrev pub sorts : List Kind
sorts = kinds.Name ∷ kinds.Str ∷ kinds.Int ∷ []

pub unnamed_sorted : (l : ℕ) (ts : List Token) → l ≤ 256 → starts sorts ts ≡ true → reads l AnUnnamedPattern ts ≡ reads_as l sorted_variable sorted_of ts
unnamed_sorted l ts h b = reads_at l AnUnnamedPattern ts h ∙ rw b (simp bind_bind)

pub unnamed_number : (l : ℕ) (ts : List Token) → l ≤ 256 → starts sorts ts ≡ false → starts (kinds.Number ∷ []) ts ≡ true
    → reads l AnUnnamedPattern ts ≡ (one_at l kinds.Number ts >>= λ t. Ok (pattern_at t.0 (patterns.IntLit (number_of t.0)), t.1))
unnamed_number l ts h b d = reads_at l AnUnnamedPattern ts h ∙ rw (b, d) (simp bind_bind)

pub unnamed_negative : (l : ℕ) (ts : List Token) → l ≤ 256 → starts sorts ts ≡ false → starts (kinds.Number ∷ []) ts ≡ false → starts (kinds.Dash ∷ []) ts ≡ true
    → reads l AnUnnamedPattern ts ≡ reads_as l negative_number negative_of ts
unnamed_negative l ts h b d e = reads_at l AnUnnamedPattern ts h ∙ rw (b, d, e) (simp bind_bind)

pub unnamed_quoted : (l : ℕ) (ts : List Token) → l ≤ 256 → starts sorts ts ≡ false → starts (kinds.Number ∷ []) ts ≡ false → starts (kinds.Dash ∷ []) ts ≡ false → starts (kinds.Quoted ∷ []) ts ≡ true
    → reads l AnUnnamedPattern ts ≡ reads_as l quoted (λ x. quoted_pattern x.0 x.1) ts
unnamed_quoted l ts h b d e f = reads_at l AnUnnamedPattern ts h ∙ rw (b, d, e, f) (simp bind_bind)

pub unnamed_tuple : (l : ℕ) (ts : List Token) → l ≤ 256 → starts sorts ts ≡ false → starts (kinds.Number ∷ []) ts ≡ false → starts (kinds.Dash ∷ []) ts ≡ false → starts (kinds.Quoted ∷ []) ts ≡ false
    → starts (kinds.OpenRound ∷ []) ts ≡ true
    → reads l AnUnnamedPattern ts ≡ (reads_as l (bracketed kinds.OpenRound kinds.CloseRound) placed ts >>= λ x. Ok (tuple_at x.0.0 x.0.1, x.1))
unnamed_tuple l ts h b d e f g = reads_at l AnUnnamedPattern ts h ∙ rw (b, d, e, f, g) (simp bind_bind)

pub unnamed_items : (l : ℕ) (ts : List Token) → l ≤ 256 → starts sorts ts ≡ false → starts (kinds.Number ∷ []) ts ≡ false → starts (kinds.Dash ∷ []) ts ≡ false → starts (kinds.Quoted ∷ []) ts ≡ false
    → starts (kinds.OpenRound ∷ []) ts ≡ false
    → reads l AnUnnamedPattern ts ≡ (reads_as l (bracketed kinds.OpenSquare kinds.CloseSquare) placed ts >>= λ x. Ok (items_at x.0.0 x.0.1, x.1))
unnamed_items l ts h b d e f g = reads_at l AnUnnamedPattern ts h ∙ rw (b, d, e, f, g) (simp bind_bind)

-- ** brackets

pub arguments_at : (l : ℕ) (ts : List Token) → l ≤ 256 → reads l PatternArguments ts ≡ (reads_as l (bracketed kinds.OpenRound kinds.CloseRound) placed ts >>= λ x. Ok (x.0.1, x.1))
arguments_at l ts h = reads_at l PatternArguments ts h ∙ simp bind_bind

pub bracketed_at : (opening closing : Kind) (l : ℕ) (ts : List Token)
    → reads_as l (bracketed opening closing) placed ts ≡ (one_at (l + 1) opening ts >>= λ t. reads_as (l + 1) pattern_list listed_in t.1 >>= λ x. one_at (l + 1) closing x.1 >>= λ u. Ok ((t.0.place, x.0), u.1))
bracketed_at opening closing l ts = rw add-one (simp bind_bind)

-- ** what follows an identifier

pub held_at : (l : ℕ) (ts : List Token) (t : Token) (us : List Token) → one_at l kinds.Identifier ts ≡ Ok (t, us) → starts (kinds.OpenRound ∷ []) us ≡ false → starts (kinds.At ∷ []) us ≡ true
    → reads_as l (Then identifier (Optional after_identifier)) (λ x. identifier_pattern x.0 x.1) ts
    ≡ (one_at (l + 1) kinds.At us >>= λ a. reads (l + 1) AFirmPattern a.1 >>= λ p. Ok (pattern_at t (patterns.Held (text_of t) p.0), p.1))
held_at l ts t us o b d =
    let two : starts (kinds.OpenRound ∷ kinds.At ∷ []) us ≡ true = starts_with_two kinds.OpenRound kinds.At us ∙ rw (b, d) refl in
    rw (add-one, o, two, b) (simp bind_bind)

-- ** numbers

pub number_is_positive : (t : Token) → kind_of t ≡ code_of kinds.Number → (n : ℕ) × (number_of t ≡ pos n)
unfolding kind_of
number_is_positive t h = by_kind t.kind h
  where
    by_number : (z : ℤ) → code_of (number_kind z) ≡ 1 → (n : ℕ) × (z ≡ pos n)
    by_number (pos n) h = (n, refl)
    by_number (negsuc n) h = absurd (omega (arith, h))

    by_kind : (k : TokenKind) → code_of (kind_named k) ≡ 1 → (n : ℕ) × (number_in k ≡ pos n)
    by_kind (tokens.Ident text) h = (0, refl)
    by_kind (tokens.Number z) h = by_number z h
    by_kind (tokens.Quoted text) h = (0, refl)
    by_kind (tokens.Word text) h = (0, refl)
    by_kind (tokens.Symbol text) h = (0, refl)
    by_kind tokens.Eof h = (0, refl)

one_or_nothing : (b : Bool) → (b || false) ≡ true → b ≡ true
one_or_nothing true h = refl
one_or_nothing false h = h

pub one_kind : (l : ℕ) (k : Kind) (ts : List Token) (t : Token) (rest : List Token) → one_at l k ts ≡ Ok (t, rest) → kind_of t ≡ code_of k
one_kind l k [] t rest e = absurd cc
one_kind l k (s ∷ ts) t rest e =
    let p = ok_one (member (kind_of s) (code_of k ∷ [])) (nat_le l 256) s t ts rest e in
    let same : (kind_of s == code_of k) ≡ true = one_or_nothing _ p.0 in
    sym (ap kind_of p.2) ∙ eqb-true (kind_of s) (code_of k) same

-- a number that isn't below zero, as it stands in a value, and its negative

pub number_back : (n : ℕ) → n < 9223372036854775808 → to_z w64 (of_z w64 (pos n)) ≡ pos n
number_back n h = to_z-of_z w64 (pos n) (fits_signed_from_abs w64 (pos n) (omega arith))

pub negated_fits : (n : ℕ) → n < 9223372036854775808 → FitsSigned w64 (pos 0 -ℤ pos n)
negated_fits zero h = rw (+ℤ_idl (neg_ℤ (pos 0))) (record { sfits = omega arith })
negated_fits (suc n) h = rw (+ℤ_idl (neg_ℤ (pos (suc n)))) (record { sfits = omega arith })

pub negated_back : (n : ℕ) → n < 9223372036854775808 → to_z w64 (of_z w64 (pos 0 -ℤ pos n)) ≡ neg_ℤ (pos n)
negated_back n h = to_z-of_z w64 (pos 0 -ℤ pos n) (negated_fits n h) ∙ +ℤ_idl (neg_ℤ (pos n))

pub negative_at : (l : ℕ) (ts : List Token)
    → reads_as l negative_number negative_of ts ≡ (one_at (l + 1) kinds.Dash ts >>= λ s. one_at (l + 1) kinds.Number s.1 >>= λ n. Ok (pattern_at s.0 (patterns.IntLit (neg_ℤ (number_of n.0))), n.1))
negative_at l ts = rw add-one (simp bind_bind)
