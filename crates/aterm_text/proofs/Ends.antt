-- What the end of the text gives.
use Rattle.std.proofs.Common.{◌≡◌, ℕ, ◌+◌, ◌≤◌, ◌^◌, List, [], ◌∷◌, ◌++◌, length, Option, Some, None, Result, Ok, Err, refl, sym, ap, ◌∙◌, subst, inl, inr, append-nil, length-append, arith}
use Rattle.std.specs.Prelude.{ℤ, IsUtf8}
use Rattle.flow_term.specs.Trees.{term_size, term_depth, deepest}
use Rattle.flow_term.specs.declared.term.Term.{Term}
use Rattle.flow_term.specs.declared.term.Kind.{Kind}
use Rattle.flow_term.specs.declared.term.Kind.TheVariants as kind
use Rattle.quoted_text.proofs.Escapes.{low_is_octal, octal_long}
use Rattle.quoted_text.specs.Escapes.{short_escape, IsEscape, short, octal}
use Rattle.quoted_text.specs.Quotes.{IsQuoted}
use Rattle.aterm_text.specs.declared.number.Number.{Number}
use Rattle.aterm_text.specs.declared.open.Open.{Open}
use Rattle.aterm_text.specs.declared.reader.state.Escape.{Escape}
use Rattle.aterm_text.specs.declared.reader.state.Last.{Last}
use Rattle.aterm_text.specs.declared.reader.state.Last.TheVariants as last
use Rattle.aterm_text.specs.declared.refusal.TermFaultKind.{TermFaultKind}
use Rattle.aterm_text.specs.declared.refusal.TermFaultKind.TheVariants.{NotUtf8, Unexpected, BadEscape}
use Rattle.aterm_text.specs.Faults.{Begins, IsDue}
use Rattle.aterm_text.specs.Grammar.{term, IsSymbol, number_of, signed, sign_text, IsI64, IsTerm, IsBody}
use Rattle.aterm_text.specs.inner.Machine.{state, ended_number, outermost, finish, ◌>>=◌}
use Rattle.aterm_text.specs.Numbers.{integer_of}
use Rattle.aterm_text.proofs.Sizes.{parts_of, size_term, depth_term, parts_apply, parts_int, parts_text}
use Rattle.aterm_text.proofs.Runs.{IntegerIs, integer_is}
use Rattle.aterm_text.proofs.Complete.{body_size}
use Rattle.aterm_text.proofs.Spelled.{Behind, Quoting, Escaping, NumberAt, Fits, Means, fits_as, behind_as, behind_at, head_due}
use Rattle.aterm_text.proofs.Lives.{as_bare, term_lives, due_lives, minus_lives, quoting_lives}
use Rattle.aterm_text.proofs.Sound.{Between, leaf_fits, symbol_as_body, quoted_as_body, number_between, number_whole, integer_body}

-- the text ends behind p: a row stands there or before it; or p goes on
abbrev pub Ends : TermFaultKind → List ℕ → ℕ → Type 0
Ends Unexpected p offset = (offset ≡ length p) × (IsUtf8 p → Begins p)
Ends NotUtf8 p offset = ⊥
Ends k p offset = (offset ≤ length p) × Between k offset p

-- a term within the limits, with blanks round it
pub record Whole (t : Term) (p : List ℕ) : Type 0 where
  pub spelled : Behind (λ s. IsTerm s t) [] p
  pub shallow : term_depth t ≤ 512
  pub small : term_size t ≤ 2 ^ 20

abbrev pub MeansEnd : Result Term (ℕ × TermFaultKind) → List ℕ → Type 0
MeansEnd (Ok t) p = Whole t p
MeansEnd (Err (offset, k)) p = Ends k p offset

whole_means : (stack : List Open) (begun : ℕ) (t : Term) (p : List ℕ) → Behind (λ s. IsTerm s t) stack p → Fits stack begun (term_depth t) (term_size t) → MeansEnd (outermost stack (length p) t) p
whole_means [] begun t p b fits = record { spelled = b; shallow = omega (arith, fits.deep); small = omega (arith, fits.counted, fits.few) }
whole_means (o ∷ below) begun t p b fits = (refl, λ u. term_lives (o ∷ below) t p b u)

body_means : (stack : List Open) (begun : ℕ) (k : Kind) (p : List ℕ) → Behind (λ s. IsBody s k) stack p → Fits stack begun (1 + deepest (parts_of k)) (body_size k) → MeansEnd (outermost stack (length p) (term k [])) p
body_means stack begun k p b fits =
    whole_means stack begun (term k []) p (behind_as (λ s. IsBody s k) (λ s. IsTerm s (term k [])) (as_bare k) stack p b) (fits_as stack begun _ _ _ _ (omega (arith, depth_term k [])) (omega (arith, size_term k [])) fits)

-- a backslash and fewer bytes than an escape has
abbrev TooShort : List ℕ → Type 0
TooShort bytes = (escape tail : List ℕ) (value : ℕ) → bytes ≡ escape ++ tail → ¬ IsEscape escape value

escape_means : (stack : List Open) (e : Escape) (tail : List ℕ) (p : List ℕ) → Escaping stack e tail p → TooShort (92 ∷ tail) → Ends BadEscape p e.start
escape_means stack e tail p h short_one =
    let q : Quoting stack e.chars h.outside = h.quoting in (
      omega (arith, h.place, ap length h.whole, length-append h.outside (92 ∷ tail)),
      (
        h.outside,
        92 ∷ tail,
        h.whole,
        sym h.place,
        record { stack = stack; outside = q.front; due = q.due; inside = q.inside; text = e.chars; is_inside = q.is_inside; place = q.whole; backslash = refl; no_escape = short_one },
      ),
    )

short_none : TooShort (92 ∷ [])
short_none escape tail value e (short d h f) = let g : 92 ∷ [] ≡ 92 ∷ d ∷ tail = e ∙ ap (λ (xs : List ℕ). xs ++ tail) f in cc
short_none escape tail value e (octal x y z hx hy hz v small f) = let g : 92 ∷ [] ≡ 92 ∷ x ∷ y ∷ z ∷ tail = e ∙ ap (λ (xs : List ℕ). xs ++ tail) f in cc

short_one : (a : ℕ) → short_escape a ≡ None → TooShort (92 ∷ a ∷ [])
short_one a long escape tail value e (short d h f) = let g : 92 ∷ a ∷ [] ≡ 92 ∷ d ∷ tail = e ∙ ap (λ (xs : List ℕ). xs ++ tail) f in let same : a ≡ d = cc in let k : short_escape a ≡ Some value = ap short_escape same ∙ h in cc
short_one a long escape tail value e (octal x y z hx hy hz v small f) = let g : 92 ∷ a ∷ [] ≡ 92 ∷ x ∷ y ∷ z ∷ tail = e ∙ ap (λ (xs : List ℕ). xs ++ tail) f in cc

short_two : (a b : ℕ) → short_escape a ≡ None → TooShort (92 ∷ a ∷ b ∷ [])
short_two a b long escape tail value e (short d h f) = let g : 92 ∷ a ∷ b ∷ [] ≡ 92 ∷ d ∷ tail = e ∙ ap (λ (xs : List ℕ). xs ++ tail) f in let same : a ≡ d = cc in let k : short_escape a ≡ Some value = ap short_escape same ∙ h in cc
short_two a b long escape tail value e (octal x y z hx hy hz v small f) = let g : 92 ∷ a ∷ b ∷ [] ≡ 92 ∷ x ∷ y ∷ z ∷ tail = e ∙ ap (λ (xs : List ℕ). xs ++ tail) f in cc

number_means : (stack : List Open) (begun : ℕ) (n : Number) (p : List ℕ) (h : NumberAt n stack p) → Fits stack begun 1 1 → (o : Option ℤ) → IntegerIs o (signed n.negative (number_of h.digits))
    → MeansEnd (ended_number o n.start >>= outermost stack (length p)) p
number_means stack begun n p h fits None (inl g) = absurd (let e = g.0 in cc)
number_means stack begun n p h fits None (inr g) =
    let whole : p ≡ h.front ++ ((sign_text n.negative ++ h.digits) ++ []) = sym (append-nil p) ∙ number_whole n stack p [] h in (
      omega (arith, h.is.place, ap length whole, length-append h.front ((sign_text n.negative ++ h.digits) ++ [])),
      (h.front, (sign_text n.negative ++ h.digits) ++ [], whole, sym h.is.place, (signed n.negative (number_of h.digits), [], number_between n stack p [] h, tt, g.1)),
    )
number_means stack begun n p h fits (Some m) (inl g) =
    let same : signed n.negative (number_of h.digits) ≡ m = (let e = g.0 in cc) in
    body_means stack begun (kind.Int m) p (integer_body n stack p m h same (subst IsI64 same g.1)) (leaf_fits stack begun (kind.Int m) (parts_int m) fits)
number_means stack begun n p h fits (Some m) (inr g) = absurd (let e = g.0 in cc)

pub end_means : (l : Last) (stack : List Open) (begun : ℕ) (p : List ℕ) → Means stack begun l p → MeansEnd (finish (state stack begun l) (length p)) p
end_means last.Start stack begun p m = (refl, λ u. due_lives stack p m.spelled u)
end_means last.Opening stack begun p m = (refl, λ u. due_lives stack p (head_due stack p m.spelled) u)
end_means (last.Symbol name) stack begun p m =
    let s : (front : List ℕ) × IsDue stack front × IsSymbol name × (p ≡ front ++ name) = m.spelled in
    body_means stack begun (kind.Apply name []) p (behind_at (λ s. IsBody s (kind.Apply name [])) stack p s.0 name s.1 (symbol_as_body name name (refl, s.2)) s.3) (leaf_fits stack begun (kind.Apply name []) (parts_apply name []) m.fits)
end_means (last.Name name) stack begun p m =
    body_means stack begun (kind.Apply name []) p (behind_as (λ s. (s ≡ name) × IsSymbol name) (λ s. IsBody s (kind.Apply name [])) (symbol_as_body name) stack p m.spelled) (leaf_fits stack begun (kind.Apply name []) (parts_apply name []) m.fits)
end_means (last.Inside chars) stack begun p m = (refl, λ u. quoting_lives stack chars p m.spelled u)
end_means (last.Backslash e) stack begun p m = escape_means stack e [] p m.spelled short_none
end_means (last.OneOctal e value) stack begun p m = escape_means stack e (m.spelled.0 ∷ []) p m.spelled.3 (short_one m.spelled.0 (octal_long m.spelled.0 (low_is_octal m.spelled.0 m.spelled.1)))
end_means (last.TwoOctals e value) stack begun p m = escape_means stack e (m.spelled.0 ∷ m.spelled.1 ∷ []) p m.spelled.5 (short_two m.spelled.0 m.spelled.1 (octal_long m.spelled.0 (low_is_octal m.spelled.0 m.spelled.2)))
end_means (last.Quoted chars) stack begun p m =
    body_means stack begun (kind.Str chars) p (behind_as (λ s. IsQuoted s chars) (λ s. IsBody s (kind.Str chars)) (quoted_as_body chars) stack p m.spelled) (leaf_fits stack begun (kind.Str chars) (parts_text chars) m.fits)
end_means (last.Minus start) stack begun p m =
    let s : (front : List ℕ) × IsDue stack front × (start ≡ length front) × (p ≡ front ++ 45 ∷ []) = m.spelled in
    (refl, λ u. minus_lives stack p s.0 s.1 s.3 u)
end_means (last.Number n) stack begun p m =
    let h : NumberAt n stack p = m.spelled in
    number_means stack begun n p h m.fits (integer_of n) (integer_is n n.negative (number_of h.digits) (length h.front) h.is)
end_means (last.Body k) stack begun p m = body_means stack begun k p m.spelled m.fits
end_means (last.Whole t) stack begun p m = whole_means stack begun t p m.spelled m.fits
