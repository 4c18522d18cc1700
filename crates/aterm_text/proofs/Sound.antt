-- Each step keeps what a state stands for, or stops where a row of the table stands.
use Rattle.std.proofs.Common.{◌≡◌, ℕ, ◌+◌, ◌-◌, ◌*◌, ◌<◌, ◌≤◌, ◌^◌, Bool, true, false, List, [], ◌∷◌, ◌++◌, length, map, Option, Some, None, Ok, Err, refl, sym, ap, ◌∙◌, subst, inl, inr, append-nil, append_assoc, length-append, zero-add, arith, eq-eqb}
use Rattle.std.specs.Prelude.{ℤ, ◌⊎◌, ◌==◌, IsTrue, IsUtf8, if◌then◌else◌, nat_le, sum_by}
use Rattle.std.specs.List.{AllByRecursion}
use Rattle.std.specs.Int.Digits.{number_from_digits_after}
use Rattle.std.proofs.lemmas.Bool.Decides.{nat_tests}
use Rattle.std.proofs.lemmas.Int.Digits.{number_after_append}
use Rattle.std.proofs.lemmas.List.{map-append}
use Rattle.flow_term.specs.Trees.{term_size, term_depth, deepest}
use Rattle.flow_term.specs.declared.term.Term.{Term}
use Rattle.flow_term.specs.declared.term.Kind.{Kind}
use Rattle.flow_term.specs.declared.term.Kind.TheVariants as kind
use Rattle.quoted_text.proofs.Escapes.{same_byte, low_high, low_is_octal, low_first, octal_long, octal_high, plain_byte}
use Rattle.quoted_text.specs.Escapes.{is_low_octal, is_octal, short_escape, IsEscape, short, octal}
use Rattle.quoted_text.specs.Quotes.{IsPiece, IsQuoted}
use Rattle.quoted_text.proofs.Insides.{piece_more}
use Rattle.aterm_text.specs.declared.class.ByteClass.{ByteClass}
use Rattle.aterm_text.specs.declared.class.ByteClass.TheVariants.{Letter, Digit, Minus, Sign, Blank, Quote, Comma, Parenthesis, Bracket, Brace, Closing, Exclamation, Less}
use Rattle.aterm_text.specs.declared.number.Number.{Number}
use Rattle.aterm_text.specs.declared.open.Open.{Open}
use Rattle.aterm_text.specs.declared.open.Opener.{Opener}
use Rattle.aterm_text.specs.declared.open.Opener.TheVariants.{Call, Tuple, Items, Annotations}
use Rattle.aterm_text.specs.declared.reader.state.Escape.{Escape}
use Rattle.aterm_text.specs.declared.reader.state.Last.{Last}
use Rattle.aterm_text.specs.declared.reader.state.Last.TheVariants as last
use Rattle.aterm_text.specs.declared.refusal.TermFaultKind.{TermFaultKind}
use Rattle.aterm_text.specs.declared.refusal.TermFaultKind.TheVariants.{NotUtf8, Unexpected, BadEscape}
use Rattle.aterm_text.specs.Bytes.{class_of, is_in_symbol, begins_term, misplaced, is_real_mark}
use Rattle.aterm_text.specs.Faults.{Begins, IsHead, item, IsDue, begun_in, is_digit, continues_number, NumberBetween, StandsBetween}
use Rattle.aterm_text.specs.Grammar.{term, IsBlank, IsSymbol, IsName, IsDigits, number_of, signed, sign_text, IsNumeral, IsI64, IsTerm, IsBody, symbol, text, number, none}
use Rattle.aterm_text.specs.inner.Machine.{state, Next, opened, begin_within, begin, closed_as, close, comma, close_after, after, after_body, at_start, at_opening, after_name, in_symbol, in_quotes, escaped, in_one_octal, in_two_octals, after_quotes, after_minus, after_integer, after_number, in_number, step_by}
use Rattle.aterm_text.specs.Numbers.{with_digit, integer_of}
use Rattle.aterm_text.specs.inner.Open.{closing_byte_of, with_item}
use Rattle.aterm_text.proofs.Classes.{is_byte_of}
use Rattle.aterm_text.proofs.Sizes.{parts_of, size_term, depth_term, parts_apply, parts_int, parts_text, deepest_more, size_more}
use Rattle.aterm_text.proofs.Runs.{IntegerIs, integer_is, capped_more}
use Rattle.aterm_text.proofs.Complete.{body_size}
use Rattle.aterm_text.proofs.Spelled.{Behind, AtHead, Quoting, Escaping, NumberAt, Spelled, Fits, Means, fits_as, due_blank, head_due, head_blank, behind_blank, behind_as, behind_at, closes_with, Closes, closed_spelled, closed_fits}
use Rattle.aterm_text.proofs.Lives.{as_bare, term_lives, due_lives, minus_lives}

-- a row stands behind a front of the bytes of this length
abbrev pub Between : TermFaultKind → ℕ → List ℕ → Type 0
Between k offset bytes = (front rest : List ℕ) × (bytes ≡ front ++ rest) × (length front ≡ offset) × StandsBetween k front rest

-- reading stopped behind p, at the byte c: a row stands there or before it, whatever follows; or p goes on
abbrev pub Stops : TermFaultKind → List ℕ → ℕ → ℕ → Type 0
Stops Unexpected p c offset = (offset ≡ length p) × (IsUtf8 p → Begins p)
Stops NotUtf8 p c offset = ⊥
Stops k p c offset = (offset ≤ length p) × ((rest : List ℕ) → Between k offset (p ++ c ∷ rest))

abbrev pub MeansNext : Next → List ℕ → ℕ → Type 0
MeansNext (Ok (state stack begun l)) p c = Means stack begun l (p ++ c ∷ [])
MeansNext (Err (offset, k)) p c = Stops k p c offset

chosen : (b : Bool) (x y : Next) (p : List ℕ) (c : ℕ) → (b ≡ true → MeansNext x p c) → (b ≡ false → MeansNext y p c) → MeansNext (if b then x else y) p c
chosen true x y p c h k = h refl
chosen false x y p c h k = k refl

-- a byte is that byte
at_byte : (p : List ℕ) (c n : ℕ) → c ≡ n → p ++ c ∷ [] ≡ p ++ n ∷ []
at_byte p c n h = ap (λ (d : ℕ). p ++ d ∷ []) h

is_byte : (c n : ℕ) → c ≡ n → (c == n) ≡ true
is_byte c n h = eq-eqb c n h

-- ** where a term is to begin

open_fits : (stack : List Open) (begun : ℕ) (opener : Opener) → Fits stack begun 1 1 → ((k : Kind) → opener ≡ Annotations k → ⊥) → Fits (record { opener = opener; items = [] } ∷ stack) begun 0 0
open_fits stack begun (Call name) h f = record { shallow = (omega (arith, h.deep), omega (arith, h.deep), h.shallow); deep = omega (arith, h.deep); counted = omega (arith, h.counted); few = h.few }
open_fits stack begun Tuple h f = record { shallow = (omega (arith, h.deep), omega (arith, h.deep), h.shallow); deep = omega (arith, h.deep); counted = omega (arith, h.counted); few = h.few }
open_fits stack begun Items h f = record { shallow = (omega (arith, h.deep), omega (arith, h.deep), h.shallow); deep = omega (arith, h.deep); counted = omega (arith, h.counted); few = h.few }
open_fits stack begun (Annotations k) h f = absurd (f k refl)

first_digit : (c : ℕ) → class_of c ≡ Digit → IsDigits (c ∷ [])
first_digit c is = record { digits = (is, tt); some = omega arith }

begin_within_means : (k : ByteClass) (stack : List Open) (begun c : ℕ) (p : List ℕ) → class_of c ≡ k → IsDue stack p → Fits stack begun 1 1 → begins_term k ≡ true → MeansNext (begin_within k stack begun (length p) c) p c
begin_within_means Letter stack begun c p is due fits h = record { spelled = (p, due, (is, tt), refl); fits = fits }
begin_within_means Digit stack begun c p is due fits h = record {
  spelled = record {
    front = p;
    digits = c ∷ [];
    due = due;
    are_digits = first_digit c is;
    is = record { sign = refl; capped = inl (sym (zero-add (c - 48))); place = refl };
    whole = refl;
  };
  fits = fits;
}
begin_within_means Minus stack begun c p is due fits h = record { spelled = (p, due, refl, at_byte p c 45 (is_byte_of c Minus is)); fits = fits }
begin_within_means Quote stack begun c p is due fits h = record {
  spelled = record { front = p; inside = []; due = due; is_inside = refl; whole = at_byte p c 34 (is_byte_of c Quote is) };
  fits = fits;
}
begin_within_means Parenthesis stack begun c p is due fits h = record {
  spelled = (p, 40 ∷ [], [], due, refl, tt, refl, at_byte p c 40 (is_byte_of c Parenthesis is));
  fits = open_fits stack begun Tuple fits (λ k e. cc);
}
begin_within_means Bracket stack begun c p is due fits h = record {
  spelled = (p, 91 ∷ [], [], due, refl, tt, refl, at_byte p c 91 (is_byte_of c Bracket is));
  fits = open_fits stack begun Items fits (λ k e. cc);
}
begin_within_means _ stack begun c p is due fits h = cc

misplaced_stops : (k : ByteClass) (stack : List Open) (c : ℕ) (p : List ℕ) → class_of c ≡ k → IsDue stack p → Stops (misplaced k) p c (length p)
misplaced_stops Exclamation stack c p is due = (omega arith, λ rest. (p, c ∷ rest, refl, refl, ((stack, due), is_byte c 33 (is_byte_of c Exclamation is))))
misplaced_stops Less stack c p is due = (omega arith, λ rest. (p, c ∷ rest, refl, refl, ((stack, due), is_byte c 60 (is_byte_of c Less is))))
misplaced_stops _ stack c p is due = (refl, λ u. due_lives stack p due u)

begin_fits : (stack : List Open) (begun : ℕ) → nat_le 512 (length stack) ≡ false → nat_le (2 ^ 20) begun ≡ false → Fits stack begun 0 0 → Fits stack (begun + 1) 1 1
begin_fits stack begun deep many h = record { shallow = h.shallow; deep = grind (arith, nat_tests); counted = omega (arith, h.counted); few = grind (arith, nat_tests) }

exactly_deep : (stack : List Open) (begun : ℕ) → nat_le 512 (length stack) ≡ true → Fits stack begun 0 0 → length stack ≡ 512
exactly_deep stack begun deep h = let low : 512 ≤ length stack = grind (arith, nat_tests) in omega (arith, h.deep)

exactly_many : (stack : List Open) (begun : ℕ) → nat_le (2 ^ 20) begun ≡ true → Fits stack begun 0 0 → begun_in stack ≡ 2 ^ 20
exactly_many stack begun many h = let low : 2 ^ 20 ≤ begun = grind (arith, nat_tests) in omega (arith, h.few, h.counted)

starts_term : (c : ℕ) (k : ByteClass) → class_of c ≡ k → begins_term k ≡ true → begins_term (class_of c) ≡ true
starts_term c k is h = ap begins_term is ∙ h

begin_means : (k : ByteClass) (stack : List Open) (begun c : ℕ) (p : List ℕ) → class_of c ≡ k → IsDue stack p → Fits stack begun 0 0 → MeansNext (begin true k stack begun (length p) c) p c
begin_means k stack begun c p is due fits =
    chosen (begins_term k) _ _ p c
    (λ h. chosen (nat_le 512 (length stack)) _ _ p c
    (λ deep. (omega arith, λ rest. (p, c ∷ rest, refl, refl, (stack, due, exactly_deep stack begun deep fits, starts_term c k is h))))
    (λ shallow. chosen (nat_le (2 ^ 20) begun) _ _ p c
    (λ many. (omega arith, λ rest. (p, c ∷ rest, refl, refl, (stack, due, exactly_many stack begun many fits, starts_term c k is h))))
    (λ few. begin_within_means k stack (begun + 1) c p is due (begin_fits stack begun shallow few fits) h)))
    (λ h. misplaced_stops k stack c p is due)

-- ** closing brackets and commas

close_means : (o : Open) (below : List Open) (begun c : ℕ) (p : List ℕ) → Closes o below p → Fits (o ∷ below) begun 0 0 → (IsUtf8 p → Begins p) → MeansNext (close (o ∷ below) begun (length p) c) p c
close_means o below begun c p h fits lives =
    chosen (c == closing_byte_of o.opener) _ _ p c
    (λ is. record {
      spelled = subst (λ (xs : List ℕ). Spelled (closed_as o.opener o.items) below xs) (sym (at_byte p c (closing_byte_of o.opener) (same_byte c _ is))) (closed_spelled o below p h);
      fits = closed_fits o.opener o.items below begun fits;
    })
    (λ _. (refl, lives))

add_fits : (o : Open) (below : List Open) (begun : ℕ) (t : Term) → Fits (o ∷ below) begun (term_depth t) (term_size t) → Fits (with_item o t ∷ below) begun 0 0
add_fits o below begun t h = record {
  shallow = (h.shallow.0, omega (arith, h.shallow.1, h.deep, deepest_more o.items t), h.shallow.2);
  deep = omega (arith, h.deep);
  counted = omega (arith, h.counted, size_more o.items t);
  few = h.few;
}

comma_means : (stack : List Open) (begun : ℕ) (t : Term) (c : ℕ) (p : List ℕ) → c ≡ 44 → Behind (λ s. IsTerm s t) stack p → Fits stack begun (term_depth t) (term_size t) → MeansNext (comma stack begun (length p) t) p c
comma_means [] begun t c p is b fits = (refl, λ u. term_lives [] t p b u)
comma_means (o ∷ below) begun t c p is b fits =
    let s : IsDue (o ∷ below) b.front = b.due in
    record {
      spelled = (
        s.0,
        s.1,
        s.2 ++ (b.spelling ++ (b.blank ++ 44 ∷ [])),
        s.3,
        s.4,
        item o.items t s.2 b.spelling b.blank [] s.5 b.spells b.blanks tt refl refl,
        at_byte p c 44 is ∙ ap (λ (xs : List ℕ). xs ++ 44 ∷ []) (b.whole ∙ ap (λ (xs : List ℕ). xs ++ (b.spelling ++ b.blank)) s.6) ∙ simp append_assoc,
      );
      fits = add_fits o below begun t fits;
    }

close_after_means : (stack : List Open) (begun : ℕ) (t : Term) (c : ℕ) (p : List ℕ) → Behind (λ s. IsTerm s t) stack p → Fits stack begun (term_depth t) (term_size t) → MeansNext (close_after stack begun (length p) t c) p c
close_after_means [] begun t c p b fits = (refl, λ u. term_lives [] t p b u)
close_after_means (o ∷ below) begun t c p b fits =
    close_means (with_item o t) below begun c p (closes_with o below t p b) (add_fits o below begun t fits) (λ u. term_lives (o ∷ below) t p b u)

-- ** behind a term

after_means : (k : ByteClass) (stack : List Open) (begun : ℕ) (t : Term) (c : ℕ) (p : List ℕ) → class_of c ≡ k → Behind (λ s. IsTerm s t) stack p → Fits stack begun (term_depth t) (term_size t)
    → MeansNext (after k stack begun (length p) t c) p c
after_means Blank stack begun t c p is b fits = record { spelled = behind_blank (λ s. IsTerm s t) stack p c is b; fits = fits }
after_means Comma stack begun t c p is b fits = comma_means stack begun t c p (is_byte_of c Comma is) b fits
after_means Closing stack begun t c p is b fits = close_after_means stack begun t c p b fits
after_means _ stack begun t c p is b fits = (refl, λ u. term_lives stack t p b u)

-- the head that a bracket behind a body or a name makes
head_open : (R : List ℕ → Type 0) (opener : Opener) (stack : List Open) (byte c : ℕ) (p : List ℕ) → ((s blank : List ℕ) → R s → IsBlank blank → IsHead opener (s ++ (blank ++ byte ∷ []))) → c ≡ byte → Behind R stack p
    → AtHead (record { opener = opener; items = [] } ∷ stack) (p ++ c ∷ [])
head_open R opener stack byte c p makes is b = (
  b.front,
  b.spelling ++ (b.blank ++ byte ∷ []),
  [],
  b.due,
  makes b.spelling b.blank b.spells b.blanks,
  tt,
  refl,
  at_byte p c byte is ∙ ap (λ (xs : List ℕ). xs ++ byte ∷ []) b.whole ∙ simp (append_assoc, append-nil),
)

annotations_open : (stack : List Open) (begun : ℕ) (k : Kind) (c : ℕ) (p : List ℕ) → c ≡ 123 → Behind (λ s. IsBody s k) stack p → Fits stack begun (1 + deepest (parts_of k)) (body_size k)
    → MeansNext (opened stack begun (Annotations k)) p c
annotations_open stack begun k c p is b fits = record {
  spelled = head_open (λ s. IsBody s k) (Annotations k) stack 123 c p (λ s blank h n. (s, blank, h, n, refl)) is b;
  fits = record { shallow = (omega (arith, fits.deep), omega (arith, fits.deep), fits.shallow); deep = omega (arith, fits.deep); counted = omega (arith, fits.counted); few = fits.few };
}

after_body_means : (class : ByteClass) (stack : List Open) (begun : ℕ) (k : Kind) (c : ℕ) (p : List ℕ) → class_of c ≡ class → Behind (λ s. IsBody s k) stack p → Fits stack begun (1 + deepest (parts_of k)) (body_size k)
    → MeansNext (after_body class stack begun (length p) k c) p c
after_body_means Blank stack begun k c p is b fits = record { spelled = behind_blank (λ s. IsBody s k) stack p c is b; fits = fits }
after_body_means Brace stack begun k c p is b fits = annotations_open stack begun k c p (is_byte_of c Brace is) b fits
after_body_means class stack begun k c p is b fits =
    after_means class stack begun (term k []) c p is (behind_as (λ s. IsBody s k) (λ s. IsTerm s (term k [])) (as_bare k) stack p b)
    (fits_as stack begun _ _ _ _ (omega (arith, depth_term k [])) (omega (arith, size_term k [])) fits)

-- ** names

call_open : (stack : List Open) (begun : ℕ) (name : List ℕ) (c : ℕ) (p : List ℕ) → c ≡ 40 → Behind (λ s. IsName s name) stack p → Fits stack begun 1 1 → MeansNext (opened stack begun (Call name)) p c
call_open stack begun name c p is b fits = record {
  spelled = head_open (λ s. IsName s name) (Call name) stack 40 c p (λ s blank h n. (s, blank, h, n, refl)) is b;
  fits = open_fits stack begun (Call name) fits (λ k e. cc);
}

size_none : (k : Kind) → parts_of k ≡ [] → 1 ≡ body_size k
size_none k e = sym (ap (λ (us : List Term). 1 + sum_by term_size us) e)

depth_none : (k : Kind) → parts_of k ≡ [] → 1 ≡ 1 + deepest (parts_of k)
depth_none k e = sym (ap (λ (us : List Term). 1 + deepest us) e)

pub leaf_fits : (stack : List Open) (begun : ℕ) (k : Kind) → parts_of k ≡ [] → Fits stack begun 1 1 → Fits stack begun (1 + deepest (parts_of k)) (body_size k)
leaf_fits stack begun k e fits = fits_as stack begun _ _ _ _ (depth_none k e) (size_none k e) fits

pub symbol_as_body : (name s : List ℕ) → (s ≡ name) × IsSymbol name → IsBody s (kind.Apply name [])
symbol_as_body name s h = symbol (subst IsSymbol (sym h.0) h.1) (ap (λ (xs : List ℕ). kind.Apply xs []) (sym h.0))

symbol_as_name : (name s : List ℕ) → (s ≡ name) × IsSymbol name → IsName s name
symbol_as_name name s h = inl (h.1, h.0)

name_means : (k : ByteClass) (stack : List Open) (begun : ℕ) (name : List ℕ) (c : ℕ) (p : List ℕ) → class_of c ≡ k → Behind (λ s. (s ≡ name) × IsSymbol name) stack p → Fits stack begun 1 1
    → MeansNext (after_name k stack begun (length p) name c) p c
name_means Blank stack begun name c p is b fits = record { spelled = behind_blank (λ s. (s ≡ name) × IsSymbol name) stack p c is b; fits = fits }
name_means Parenthesis stack begun name c p is b fits =
    call_open stack begun name c p (is_byte_of c Parenthesis is) (behind_as (λ s. (s ≡ name) × IsSymbol name) (λ s. IsName s name) (symbol_as_name name) stack p b) fits
name_means k stack begun name c p is b fits =
    after_body_means k stack begun (kind.Apply name []) c p is (behind_as (λ s. (s ≡ name) × IsSymbol name) (λ s. IsBody s (kind.Apply name [])) (symbol_as_body name) stack p b)
    (leaf_fits stack begun (kind.Apply name []) (parts_apply name []) fits)

symbol_more : (name : List ℕ) (c : ℕ) → IsSymbol name → IsTrue (is_in_symbol (class_of c)) → IsSymbol (name ++ c ∷ [])
symbol_more [] c h k = absurd h
symbol_more (d ∷ name) c h k = (h.0, go name h.1)
  where
    go : (xs : List ℕ) → AllByRecursion (λ x. IsTrue (is_in_symbol (class_of x))) xs → AllByRecursion (λ x. IsTrue (is_in_symbol (class_of x))) (xs ++ c ∷ [])
    go [] g = (k, tt)
    go (x ∷ xs) g = (g.0, go xs g.1)

abbrev SymbolAt : List Open → List ℕ → List ℕ → Type 0
SymbolAt stack name p = (front : List ℕ) × IsDue stack front × IsSymbol name × (p ≡ front ++ name)

symbol_goes_on : (stack : List Open) (begun : ℕ) (name : List ℕ) (c : ℕ) (p : List ℕ) → IsTrue (is_in_symbol (class_of c)) → SymbolAt stack name p → Fits stack begun 1 1 → Means stack begun (last.Symbol (name ++ c ∷ [])) (p ++ c ∷ [])
symbol_goes_on stack begun name c p is s fits = record { spelled = (s.0, s.1, symbol_more name c s.2 is, ap (λ (xs : List ℕ). xs ++ c ∷ []) s.3 ∙ append_assoc s.0 name (c ∷ [])); fits = fits }

symbol_means : (k : ByteClass) (stack : List Open) (begun : ℕ) (name : List ℕ) (c : ℕ) (p : List ℕ) → class_of c ≡ k → SymbolAt stack name p → Fits stack begun 1 1 → MeansNext (in_symbol k stack begun (length p) name c) p c
symbol_means Letter stack begun name c p is s fits = symbol_goes_on stack begun name c p (ap is_in_symbol is) s fits
symbol_means Digit stack begun name c p is s fits = symbol_goes_on stack begun name c p (ap is_in_symbol is) s fits
symbol_means Minus stack begun name c p is s fits = symbol_goes_on stack begun name c p (ap is_in_symbol is) s fits
symbol_means Sign stack begun name c p is s fits = symbol_goes_on stack begun name c p (ap is_in_symbol is) s fits
symbol_means k stack begun name c p is s fits = name_means k stack begun name c p is (behind_at (λ x. (x ≡ name) × IsSymbol name) stack p s.0 name s.1 (refl, s.2) s.3) fits

-- ** texts

quoted_as_name : (chars s : List ℕ) → IsQuoted s chars → IsName s chars
quoted_as_name chars s h = inr h

pub quoted_as_body : (chars s : List ℕ) → IsQuoted s chars → IsBody s (kind.Str chars)
quoted_as_body chars s h = text chars h refl

quoted_means : (k : ByteClass) (stack : List Open) (begun : ℕ) (chars : List ℕ) (c : ℕ) (p : List ℕ) → class_of c ≡ k → Behind (λ s. IsQuoted s chars) stack p → Fits stack begun 1 1
    → MeansNext (after_quotes k stack begun (length p) chars c) p c
quoted_means Blank stack begun chars c p is b fits = record { spelled = behind_blank (λ s. IsQuoted s chars) stack p c is b; fits = fits }
quoted_means Parenthesis stack begun chars c p is b fits =
    call_open stack begun chars c p (is_byte_of c Parenthesis is) (behind_as (λ s. IsQuoted s chars) (λ s. IsName s chars) (quoted_as_name chars) stack p b) fits
quoted_means k stack begun chars c p is b fits =
    after_body_means k stack begun (kind.Str chars) c p is (behind_as (λ s. IsQuoted s chars) (λ s. IsBody s (kind.Str chars)) (quoted_as_body chars) stack p b)
    (leaf_fits stack begun (kind.Str chars) (parts_text chars) fits)

-- one piece more inside quotes
pub quoting_more : (stack : List Open) (chars p piece : List ℕ) (value : ℕ) → Quoting stack chars p → IsPiece piece value → Quoting stack (chars ++ value ∷ []) (p ++ piece)
quoting_more stack chars p piece value h k = record {
  front = h.front;
  inside = h.inside ++ piece;
  due = h.due;
  is_inside = piece_more h.inside chars piece value h.is_inside k;
  whole = ap (λ (xs : List ℕ). xs ++ piece) h.whole ∙ simp append_assoc;
}

quotes_means : (stack : List Open) (begun : ℕ) (chars : List ℕ) (c : ℕ) (p : List ℕ) → Quoting stack chars p → Fits stack begun 1 1 → MeansNext (in_quotes stack begun (length p) chars c) p c
quotes_means stack begun chars c p q fits =
    chosen (c == 34) _ _ p c
    (λ is. record {
      spelled = behind_at (λ s. IsQuoted s chars) stack (p ++ c ∷ []) q.front (34 ∷ (q.inside ++ 34 ∷ [])) q.due (q.inside, q.is_inside, refl)
          (at_byte p c 34 (same_byte c 34 is) ∙ ap (λ (xs : List ℕ). xs ++ 34 ∷ []) q.whole ∙ append_assoc q.front (34 ∷ q.inside) (34 ∷ []));
      fits = fits;
    })
    (λ no_quote. chosen (c == 92) _ _ p c
    (λ is. record { spelled = record { outside = p; quoting = q; place = refl; whole = at_byte p c 92 (same_byte c 92 is) }; fits = fits })
    (λ no_backslash. record { spelled = quoting_more stack chars p (c ∷ []) c q (inl (refl, plain_byte c no_quote no_backslash)); fits = fits }))

-- ** escapes

escape_ends : (stack : List Open) (begun : ℕ) (e : Escape) (tail : List ℕ) (c value : ℕ) (p : List ℕ) → Escaping stack e tail p → Fits stack begun 1 1 → IsEscape (92 ∷ (tail ++ c ∷ [])) value
    → Means stack begun (last.Inside (e.chars ++ value ∷ [])) (p ++ c ∷ [])
escape_ends stack begun e tail c value p h fits is = record {
  spelled = subst (λ (xs : List ℕ). Quoting stack (e.chars ++ value ∷ []) xs) (sym (ap (λ (xs : List ℕ). xs ++ c ∷ []) h.whole ∙ append_assoc h.outside (92 ∷ tail) (c ∷ [])))
      (quoting_more stack e.chars h.outside (92 ∷ (tail ++ c ∷ [])) value h.quoting (inr is));
  fits = fits;
}

-- no escape begins with these bytes
abbrev NoEscape : List ℕ → Type 0
NoEscape bytes = (rest escape tail : List ℕ) (value : ℕ) → bytes ++ rest ≡ escape ++ tail → ¬ IsEscape escape value

bad_escape : (stack : List Open) (e : Escape) (tail : List ℕ) (c : ℕ) (p : List ℕ) → Escaping stack e tail p → NoEscape (92 ∷ (tail ++ c ∷ [])) → Stops BadEscape p c e.start
bad_escape stack e tail c p h none_there =
    let q : Quoting stack e.chars h.outside = h.quoting in (
      omega (arith, h.place, ap length h.whole, length-append h.outside (92 ∷ tail)),
      λ rest. (
        h.outside,
        92 ∷ (tail ++ c ∷ rest),
        ap (λ (xs : List ℕ). xs ++ c ∷ rest) h.whole ∙ append_assoc h.outside (92 ∷ tail) (c ∷ rest),
        sym h.place,
        record {
          stack = stack;
          outside = q.front;
          due = q.due;
          inside = q.inside;
          text = e.chars;
          is_inside = q.is_inside;
          place = q.whole;
          backslash = refl;
          no_escape = λ escape behind value same. none_there rest escape behind value (ap (λ (xs : List ℕ). 92 ∷ xs) (append_assoc tail (c ∷ []) rest) ∙ same);
        },
      ),
    )

-- what an escape begins with
escape_head : (bytes rest escape tail : List ℕ) (value c : ℕ) → 92 ∷ c ∷ rest ≡ escape ++ tail → IsEscape escape value → (short_escape c ≡ None) → is_low_octal c ≡ false → ⊥
escape_head bytes rest escape tail value c e (short d h f) long no_digit = let g : 92 ∷ c ∷ rest ≡ 92 ∷ d ∷ tail = e ∙ ap (λ (xs : List ℕ). xs ++ tail) f in let same : c ≡ d = cc in let k : short_escape c ≡ Some value = ap short_escape same ∙ h in cc
escape_head bytes rest escape tail value c e (octal x y z hx hy hz v small f) long no_digit = let g : 92 ∷ c ∷ rest ≡ 92 ∷ x ∷ y ∷ z ∷ tail = e ∙ ap (λ (xs : List ℕ). xs ++ tail) f in let same : c ≡ x = cc in let k : is_low_octal c ≡ true = ap is_low_octal same ∙ low_first x y z hx (omega (arith, v, small)) in cc

escape_means : (stack : List Open) (begun : ℕ) (e : Escape) (c : ℕ) (p : List ℕ) → Escaping stack e [] p → Fits stack begun 1 1 → (o : Option ℕ) → short_escape c ≡ o → MeansNext (escaped stack begun e c o) p c
escape_means stack begun e c p h fits None long =
    chosen (is_low_octal c) _ _ p c
    (λ is. record {
      spelled = (c, is, refl, record { outside = h.outside; quoting = h.quoting; place = h.place; whole = ap (λ (xs : List ℕ). xs ++ c ∷ []) h.whole ∙ append_assoc h.outside (92 ∷ []) (c ∷ []) });
      fits = fits;
    })
    (λ no_digit. bad_escape stack e [] c p h (λ rest escape tail value same is. escape_head [] rest escape tail value c same is long no_digit))
escape_means stack begun e c p h fits (Some value) is = escape_ends stack begun e [] c value p h fits (short c is refl)

escape_second : (rest escape tail : List ℕ) (value a c : ℕ) → 92 ∷ a ∷ c ∷ rest ≡ escape ++ tail → IsEscape escape value → short_escape a ≡ None → is_octal c ≡ false → ⊥
escape_second rest escape tail value a c e (short d h f) long no_digit =
    let g : 92 ∷ a ∷ c ∷ rest ≡ 92 ∷ d ∷ tail = e ∙ ap (λ (xs : List ℕ). xs ++ tail) f in let same : a ≡ d = cc in let k : short_escape a ≡ Some value = ap short_escape same ∙ h in cc
escape_second rest escape tail value a c e (octal x y z hx hy hz v small f) long no_digit =
    let g : 92 ∷ a ∷ c ∷ rest ≡ 92 ∷ x ∷ y ∷ z ∷ tail = e ∙ ap (λ (xs : List ℕ). xs ++ tail) f in let same : c ≡ y = cc in let k : is_octal c ≡ true = ap is_octal same ∙ hy in cc

abbrev OneAt : List Open → Escape → ℕ → List ℕ → Type 0
OneAt stack e value p = (a : ℕ) × IsTrue (is_low_octal a) × (value ≡ a - 48) × Escaping stack e (a ∷ []) p

one_octal_means : (stack : List Open) (begun : ℕ) (e : Escape) (value c : ℕ) (p : List ℕ) → OneAt stack e value p → Fits stack begun 1 1 → MeansNext (in_one_octal stack begun e value c) p c
one_octal_means stack begun e value c p h fits =
    let esc : Escaping stack e (h.0 ∷ []) p = h.3 in
    chosen (is_octal c) _ _ p c
    (λ is. record {
      spelled = (
        h.0,
        c,
        h.1,
        is,
        ap (λ (n : ℕ). n * 8 + (c - 48)) h.2,
        record { outside = esc.outside; quoting = esc.quoting; place = esc.place; whole = ap (λ (xs : List ℕ). xs ++ c ∷ []) esc.whole ∙ append_assoc esc.outside (92 ∷ h.0 ∷ []) (c ∷ []) },
      );
      fits = fits;
    })
    (λ no_digit. bad_escape stack e (h.0 ∷ []) c p esc (λ rest escape tail v same is. escape_second rest escape tail v h.0 c same is (octal_long h.0 (low_is_octal h.0 h.1)) no_digit))

escape_third : (rest escape tail : List ℕ) (v a d c : ℕ) → 92 ∷ a ∷ d ∷ c ∷ rest ≡ escape ++ tail → IsEscape escape v → short_escape a ≡ None → is_octal c ≡ false → ⊥
escape_third rest escape tail v a d c e (short x h f) long no_digit =
    let g : 92 ∷ a ∷ d ∷ c ∷ rest ≡ 92 ∷ x ∷ tail = e ∙ ap (λ (xs : List ℕ). xs ++ tail) f in let same : a ≡ x = cc in let k : short_escape a ≡ Some v = ap short_escape same ∙ h in cc
escape_third rest escape tail v a d c e (octal x y z hx hy hz w small f) long no_digit =
    let g : 92 ∷ a ∷ d ∷ c ∷ rest ≡ 92 ∷ x ∷ y ∷ z ∷ tail = e ∙ ap (λ (xs : List ℕ). xs ++ tail) f in let third : c ≡ z = cc in let digit : is_octal c ≡ true = ap is_octal third ∙ hz in cc

abbrev TwoAt : List Open → Escape → ℕ → List ℕ → Type 0
TwoAt stack e value p = (a b : ℕ) × IsTrue (is_low_octal a) × IsTrue (is_octal b) × (value ≡ (a - 48) * 8 + (b - 48)) × Escaping stack e (a ∷ b ∷ []) p

two_octals_means : (stack : List Open) (begun : ℕ) (e : Escape) (value c : ℕ) (p : List ℕ) → TwoAt stack e value p → Fits stack begun 1 1 → MeansNext (in_two_octals stack begun e value c) p c
two_octals_means stack begun e value c p h fits =
    chosen (is_octal c) _ _ p c
    (λ is.
    let low : h.0 ≤ 49 = low_high h.0 h.2 in
    let middle : h.1 ≤ 55 = octal_high h.1 h.3 in
    let high : c ≤ 55 = octal_high c is in
    escape_ends stack begun e (h.0 ∷ h.1 ∷ []) c (value * 8 + (c - 48)) p h.5 fits
    (octal h.0 h.1 c (low_is_octal h.0 h.2) h.3 is (ap (λ (n : ℕ). n * 8 + (c - 48)) h.4) (omega (arith, h.4)) refl))
    (λ no_digit. bad_escape stack e (h.0 ∷ h.1 ∷ []) c p h.5 (λ rest escape tail v same is. escape_third rest escape tail v h.0 h.1 c same is (octal_long h.0 (low_is_octal h.0 h.2)) no_digit))

-- ** numbers

abbrev MinusAt : List Open → ℕ → List ℕ → Type 0
MinusAt stack start p = (front : List ℕ) × IsDue stack front × (start ≡ length front) × (p ≡ front ++ 45 ∷ [])

minus_means : (k : ByteClass) (stack : List Open) (begun start c : ℕ) (p : List ℕ) → class_of c ≡ k → MinusAt stack start p → Fits stack begun 1 1 → MeansNext (after_minus k stack begun (length p) start c) p c
minus_means Digit stack begun start c p is h fits = record {
  spelled = record {
    front = h.0;
    digits = c ∷ [];
    due = h.1;
    are_digits = first_digit c is;
    is = record { sign = refl; capped = inl (sym (zero-add (c - 48))); place = h.2 };
    whole = ap (λ (xs : List ℕ). xs ++ c ∷ []) h.3 ∙ append_assoc h.0 (45 ∷ []) (c ∷ []);
  };
  fits = fits;
}
minus_means _ stack begun start c p is h fits = (refl, λ u. minus_lives stack p h.0 h.1 h.3 u)

digits_more : (digits : List ℕ) (c : ℕ) → AllByRecursion (λ x. class_of x ≡ Digit) digits → class_of c ≡ Digit → AllByRecursion (λ x. class_of x ≡ Digit) (digits ++ c ∷ [])
digits_more [] c h k = (k, tt)
digits_more (d ∷ digits) c h k = (h.0, digits_more digits c h.1 k)

are_more : (digits : List ℕ) (c : ℕ) → IsDigits digits → class_of c ≡ Digit → IsDigits (digits ++ c ∷ [])
are_more digits c h is = record { digits = digits_more digits c h.digits is; some = omega (arith, length-append digits (c ∷ []), h.some) }

value_more : (digits : List ℕ) (c : ℕ) → number_of digits * 10 + (c - 48) ≡ number_of (digits ++ c ∷ [])
value_more digits c = sym (ap (number_from_digits_after 10 0) (map-append (λ d. d - 48) digits (c ∷ [])) ∙ number_after_append 10 0 (map (λ d. d - 48) digits) ((c - 48) ∷ []))

digit_more : (n : Number) (stack : List Open) (c : ℕ) (p : List ℕ) → class_of c ≡ Digit → NumberAt n stack p → NumberAt (with_digit n c) stack (p ++ c ∷ [])
digit_more n stack c p is h = record {
  front = h.front;
  digits = h.digits ++ c ∷ [];
  due = h.due;
  are_digits = are_more h.digits c h.are_digits is;
  is = record {
    sign = refl;
    capped = subst (λ (v : ℕ). (with_digit n c).magnitude ≡ v ⊎ ((2 ^ 63 < (with_digit n c).magnitude) × (2 ^ 63 < v))) (value_more h.digits c) (capped_more n.magnitude (number_of h.digits) c h.is.capped);
    place = h.is.place;
  };
  whole = ap (λ (xs : List ℕ). xs ++ c ∷ []) h.whole ∙ simp append_assoc;
}

-- the number as a numeral
numeral_at : (n : Number) (stack : List Open) (p : List ℕ) (h : NumberAt n stack p) → IsNumeral (sign_text n.negative ++ h.digits) (signed n.negative (number_of h.digits))
numeral_at n stack p h = record { negative = n.negative; digits = h.digits; are_digits = h.are_digits; value = refl; whole = refl }

pub number_between : (n : Number) (stack : List Open) (p behind : List ℕ) (h : NumberAt n stack p) → NumberBetween h.front ((sign_text n.negative ++ h.digits) ++ behind) (signed n.negative (number_of h.digits)) behind
number_between n stack p behind h = record { stack = stack; due = h.due; numeral = sign_text n.negative ++ h.digits; is_numeral = numeral_at n stack p h; whole = refl }

number_bound : (n : Number) (stack : List Open) (p : List ℕ) → NumberAt n stack p → n.start ≤ length p
number_bound n stack p h = omega (arith, h.is.place, ap length h.whole, length-append h.front (sign_text n.negative ++ h.digits))

pub number_whole : (n : Number) (stack : List Open) (p behind : List ℕ) (h : NumberAt n stack p) → p ++ behind ≡ h.front ++ ((sign_text n.negative ++ h.digits) ++ behind)
number_whole n stack p behind h = ap (λ (xs : List ℕ). xs ++ behind) h.whole ∙ append_assoc h.front (sign_text n.negative ++ h.digits) behind

pub integer_body : (n : Number) (stack : List Open) (p : List ℕ) (m : ℤ) (h : NumberAt n stack p) → signed n.negative (number_of h.digits) ≡ m → IsI64 m → Behind (λ s. IsBody s (kind.Int m)) stack p
integer_body n stack p m h e small = behind_at (λ s. IsBody s (kind.Int m)) stack p h.front (sign_text n.negative ++ h.digits) h.due (number m (subst (IsNumeral (sign_text n.negative ++ h.digits)) e (numeral_at n stack p h)) small refl) h.whole

not_continued : (c : ℕ) (k : ByteClass) → class_of c ≡ k → is_digit k ≡ false → is_real_mark c ≡ false → (c == 58) ≡ false → continues_number c ≡ false
not_continued c k is digit real colon = rw (is, digit, real, colon) refl

integer_means : (k : ByteClass) (stack : List Open) (begun : ℕ) (n : Number) (c : ℕ) (p : List ℕ) (h : NumberAt n stack p) → class_of c ≡ k → continues_number c ≡ false → Fits stack begun 1 1 → (o : Option ℤ)
    → IntegerIs o (signed n.negative (number_of h.digits)) → MeansNext (after_integer o k stack begun (length p) n.start c) p c
integer_means k stack begun n c p h is ends fits None (inl g) = absurd (let e = g.0 in cc)
integer_means k stack begun n c p h is ends fits None (inr g) =
    (number_bound n stack p h, λ rest. (h.front, (sign_text n.negative ++ h.digits) ++ c ∷ rest, number_whole n stack p (c ∷ rest) h, sym h.is.place, (signed n.negative (number_of h.digits), c ∷ rest, number_between n stack p (c ∷ rest) h, ends, g.1)))
integer_means k stack begun n c p h is ends fits (Some m) (inl g) =
    let same : signed n.negative (number_of h.digits) ≡ m = (let e = g.0 in cc) in
    after_body_means k stack begun (kind.Int m) c p is (integer_body n stack p m h same (subst IsI64 same g.1)) (leaf_fits stack begun (kind.Int m) (parts_int m) fits)
integer_means k stack begun n c p h is ends fits (Some m) (inr g) = absurd (let e = g.0 in cc)

number_ends : (k : ByteClass) (stack : List Open) (begun : ℕ) (n : Number) (c : ℕ) (p : List ℕ) → class_of c ≡ k → is_digit k ≡ false → NumberAt n stack p → Fits stack begun 1 1 → MeansNext (after_number k stack begun (length p) n c) p c
number_ends k stack begun n c p is digit h fits =
    chosen (is_real_mark c) _ _ p c
    (λ real. (number_bound n stack p h, λ rest. (h.front, (sign_text n.negative ++ h.digits) ++ c ∷ rest, number_whole n stack p (c ∷ rest) h, sym h.is.place, (signed n.negative (number_of h.digits), c ∷ rest, number_between n stack p (c ∷ rest) h, real))))
    (λ no_real. chosen (c == 58) _ _ p c
    (λ colon. (number_bound n stack p h, λ rest. (h.front, (sign_text n.negative ++ h.digits) ++ c ∷ rest, number_whole n stack p (c ∷ rest) h, sym h.is.place, (signed n.negative (number_of h.digits), c ∷ rest, number_between n stack p (c ∷ rest) h, colon))))
    (λ no_colon. integer_means k stack begun n c p h is (not_continued c k is digit no_real no_colon) fits (integer_of n) (integer_is n n.negative (number_of h.digits) (length h.front) h.is)))

number_means : (k : ByteClass) (stack : List Open) (begun : ℕ) (n : Number) (c : ℕ) (p : List ℕ) → class_of c ≡ k → NumberAt n stack p → Fits stack begun 1 1 → MeansNext (in_number k stack begun (length p) n c) p c
number_means Digit stack begun n c p is h fits = record { spelled = digit_more n stack c p is h; fits = fits }
number_means k stack begun n c p is h fits = number_ends k stack begun n c p is refl h fits

-- ** each state

start_means : (k : ByteClass) (stack : List Open) (begun c : ℕ) (p : List ℕ) → class_of c ≡ k → Means stack begun last.Start p → MeansNext (at_start true k stack begun (length p) c) p c
start_means Blank stack begun c p is m = record { spelled = due_blank stack p c is m.spelled; fits = m.fits }
start_means k stack begun c p is m = begin_means k stack begun c p is m.spelled m.fits

opening_close : (stack : List Open) (begun c : ℕ) (p : List ℕ) → AtHead stack p → Fits stack begun 0 0 → MeansNext (close stack begun (length p) c) p c
opening_close [] begun c p h fits = absurd h
opening_close (o ∷ below) begun c p h fits =
    close_means o below begun c p (record { front = h.0; head = h.1; inside = h.2; due = h.3; is_head = h.4; terms = none h.5 h.6; whole = h.7 }) fits (λ u. due_lives (o ∷ below) p (head_due (o ∷ below) p h) u)

opening_means : (k : ByteClass) (stack : List Open) (begun c : ℕ) (p : List ℕ) → class_of c ≡ k → Means stack begun last.Opening p → MeansNext (at_opening true k stack begun (length p) c) p c
opening_means Blank stack begun c p is m = record { spelled = head_blank stack p c is m.spelled; fits = m.fits }
opening_means Closing stack begun c p is m = opening_close stack begun c p m.spelled m.fits
opening_means k stack begun c p is m = begin_means k stack begun c p is (head_due stack p m.spelled) m.fits

pub step_means : (l : Last) (stack : List Open) (begun c : ℕ) (p : List ℕ) → Means stack begun l p → MeansNext (step_by true l (class_of c) stack begun (length p) c) p c
step_means last.Start stack begun c p m = start_means (class_of c) stack begun c p refl m
step_means last.Opening stack begun c p m = opening_means (class_of c) stack begun c p refl m
step_means (last.Symbol name) stack begun c p m = symbol_means (class_of c) stack begun name c p refl m.spelled m.fits
step_means (last.Name name) stack begun c p m = name_means (class_of c) stack begun name c p refl m.spelled m.fits
step_means (last.Inside chars) stack begun c p m = quotes_means stack begun chars c p m.spelled m.fits
step_means (last.Backslash e) stack begun c p m = escape_means stack begun e c p m.spelled m.fits (short_escape c) refl
step_means (last.OneOctal e value) stack begun c p m = one_octal_means stack begun e value c p m.spelled m.fits
step_means (last.TwoOctals e value) stack begun c p m = two_octals_means stack begun e value c p m.spelled m.fits
step_means (last.Quoted chars) stack begun c p m = quoted_means (class_of c) stack begun chars c p refl m.spelled m.fits
step_means (last.Minus start) stack begun c p m = minus_means (class_of c) stack begun start c p refl m.spelled m.fits
step_means (last.Number n) stack begun c p m = number_means (class_of c) stack begun n c p refl m.spelled m.fits
step_means (last.Body k) stack begun c p m = after_body_means (class_of c) stack begun k c p refl m.spelled m.fits
step_means (last.Whole t) stack begun c p m = after_means (class_of c) stack begun t c p refl m.spelled m.fits
