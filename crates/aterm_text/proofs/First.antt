-- Where a row of the table of faults stands, reading stops there or before it.
use Rattle.std.proofs.Common.{◌≡◌, ℕ, zero, suc, ◌+◌, ◌-◌, ◌*◌, ◌<◌, ◌≤◌, ◌^◌, Bool, true, false, List, [], ◌∷◌, ◌++◌, length, Option, Some, None, Result, Ok, Err, refl, sym, ap, ◌∙◌, subst, inl, inr, append-nil, append_assoc, length-append, arith}
use Rattle.std.specs.Prelude.{ℤ, pos, negsuc, ◌⊎◌, ◌==◌, ◌||◌, IsUtf8, if◌then◌else◌, nat_le, nat_lt}
use Rattle.std.proofs.lemmas.Bool.Decides.{nat_tests}
use Rattle.std.specs.Str.{IsValidUpTo}
use Rattle.std.proofs.Math.Seq.{take-length}
use Rattle.flow_term.specs.declared.term.Term.{Term}
use Rattle.quoted_text.proofs.Escapes.{same_byte, low_high, low_is_octal, octal_high}
use Rattle.quoted_text.specs.Escapes.{is_low_octal, is_octal, octal_value, short_escape, IsEscape, short, octal}
use Rattle.aterm_text.specs.declared.class.ByteClass.{ByteClass}
use Rattle.aterm_text.specs.declared.class.ByteClass.TheVariants.{Letter, Digit, Exclamation, Less, Other}
use Rattle.aterm_text.specs.declared.number.Number.{Number}
use Rattle.aterm_text.specs.declared.open.Open.{Open}
use Rattle.aterm_text.specs.declared.reader.state.Escape.{Escape}
use Rattle.aterm_text.specs.declared.reader.state.Last.{Last}
use Rattle.aterm_text.specs.declared.reader.state.Last.TheVariants as last
use Rattle.aterm_text.specs.declared.refusal.TermFaultKind.{TermFaultKind}
use Rattle.aterm_text.specs.declared.refusal.TermFaultKind.TheVariants.{NotUtf8, Unexpected, Shared, Placeholder, Real, Blob, BadEscape, IntRange, TooDeep, TooMany}
use Rattle.aterm_text.specs.Bytes.{class_of, begins_term, misplaced, is_real_mark}
use Rattle.aterm_text.specs.Faults.{Begins, begun_in, StartsWith, is_digit, EndsNumber, NumberBetween, BadEscapeBetween, CannotGoOn, StandsBetween, IsFault, rank, ComesFirst}
use Rattle.aterm_text.specs.Grammar.{IsDigits, number_of, sign_text, IsNumeral, IsI64, IsText}
use Rattle.aterm_text.specs.inner.Machine.{State, state, Next, limited, begin_within, escaped, in_one_octal, in_two_octals, after_number, after_integer, in_number, step_by, step, run, ended_number, outermost, finish, nothing, reading, ◌>>=◌}
use Rattle.aterm_text.specs.Numbers.{with_digit, integer_within, integer_of}
use Rattle.aterm_text.proofs.Classes.{class_quote, class_minus, class_exclamation, class_less}
use Rattle.aterm_text.proofs.Runs.{lt_false, run_append, run_on, CanBegin, begins, ReadsNumeral, reads_numeral, reads_inside, IntegerIs, integer_is}
use Rattle.aterm_text.proofs.Limits.{IsLimit, MeetsLimit, bind_err}
use Rattle.aterm_text.proofs.Spelled.{NumberAt, Means}
use Rattle.aterm_text.proofs.Traces.{nothing_means, run_means, Stopped, run_stops, front_utf8, sound}
use Rattle.aterm_text.proofs.Reaches.{Reaches, due_reaches}
use Rattle.aterm_text.proofs.Rows.{faulted, stops_bound}
use Rattle.aterm_text.proofs.Alive.{inside_lives, IsDead, alive}

-- reading gives a fault that comes before a row, or is at its byte and of no higher rank
pub record Answered (bytes : List ℕ) (place : ℕ) (row : TermFaultKind) : Type 0 where
  pub offset : ℕ
  pub kind : TermFaultKind
  pub reads : reading bytes ≡ Err (offset, kind)
  pub first : ComesFirst offset kind place row

-- ** faults of a front

reading_err : (bytes : List ℕ) (e : ℕ × TermFaultKind) → run true nothing 0 bytes ≡ Err e → reading bytes ≡ Err e
reading_err bytes e h = ap (λ (o : Next). o >>= λ s. finish s (length bytes)) h

front_err : (front rest : List ℕ) (e : ℕ × TermFaultKind) → run true nothing 0 front ≡ Err e → run true nothing 0 (front ++ rest) ≡ Err e
front_err front rest e h = run_append true nothing 0 front rest ∙ ap (λ (o : Next). o >>= λ mid. run true mid (0 + length front) rest) h

step_err : (front tail : List ℕ) (c : ℕ) (s : State) (e : ℕ × TermFaultKind) → run true nothing 0 front ≡ Ok s → step true s (0 + length front) c ≡ Err e → run true nothing 0 (front ++ c ∷ tail) ≡ Err e
step_err front tail c s e h g = run_on true nothing s 0 front (c ∷ tail) h ∙ bind_err (step true s (0 + length front) c) (λ next. run true next (0 + length front + 1) tail) e g

limit_first : (bytes front rest : List ℕ) (place : ℕ) (row : TermFaultKind) → bytes ≡ front ++ rest → length front ≤ place → MeetsLimit nothing 0 front → Answered bytes place row
limit_first bytes front rest place row e bound m = record {
  offset = m.offset;
  kind = m.kind;
  reads = reading_err bytes (m.offset, m.kind) (ap (run true nothing 0) e ∙ front_err front rest (m.offset, m.kind) m.runs);
  first = inl (omega (arith, m.before));
}

at_place : (bytes front tail : List ℕ) (c place : ℕ) (row kind : TermFaultKind) (s : State) → bytes ≡ front ++ c ∷ tail → length front ≡ place → run true nothing 0 front ≡ Ok s → step true s (0 + length front) c ≡ Err (0 + length front, kind) → rank kind ≤ rank row
    → Answered bytes place row
at_place bytes front tail c place row kind s e there runs steps low = record {
  offset = 0 + length front;
  kind = kind;
  reads = reading_err bytes (0 + length front, kind) (ap (run true nothing 0) e ∙ step_err front tail c s (0 + length front, kind) runs steps);
  first = inr (omega (arith, there), low);
}

-- ** bytes that begin no term

misplaced_step : (k : ByteClass) (l : Last) (stack : List Open) (begun at c : ℕ) → (k ≡ Exclamation ⊎ k ≡ Less) → CanBegin l → step_by true l k stack begun at c ≡ Err (at, misplaced k)
misplaced_step Exclamation last.Start stack begun at c h can = refl
misplaced_step Exclamation last.Opening stack begun at c h can = refl
misplaced_step Less last.Start stack begun at c h can = refl
misplaced_step Less last.Opening stack begun at c h can = refl
misplaced_step Exclamation _ stack begun at c h can = absurd can
misplaced_step Less _ stack begun at c h can = absurd can
misplaced_step k l stack begun at c (inl h) can = cc
misplaced_step k l stack begun at c (inr h) can = cc

misplaced_at : (n : ℕ) (k : ByteClass) (row : TermFaultKind) → class_of n ≡ k → (k ≡ Exclamation ⊎ k ≡ Less) → misplaced k ≡ row → (bytes front tail : List ℕ) (c place : ℕ) (stack : List Open)
    → bytes ≡ front ++ c ∷ tail → length front ≡ place → c ≡ n → Reaches stack front ⊎ MeetsLimit nothing 0 front → Answered bytes place row
misplaced_at n k row is sort named bytes front tail c place stack e there same (inl r) =
    at_place bytes front tail c place row row (state stack (begun_in stack) r.latest) e there r.runs
    (ap (λ (j : ByteClass). step_by true r.latest j stack (begun_in stack) (0 + length front) c) (ap class_of same ∙ is)
    ∙ misplaced_step k r.latest stack (begun_in stack) (0 + length front) c sort r.can ∙ ap (λ (j : TermFaultKind). Err (0 + length front, j)) named)
    (omega arith)
misplaced_at n k row is sort named bytes front tail c place stack e there same (inr m) = limit_first bytes front (c ∷ tail) place row e (omega (arith, there)) m

-- ** limits

le_true : (m n : ℕ) → m ≤ n → nat_le m n ≡ true
le_true m n h = grind (arith, nat_tests)

limit_low : (k row : TermFaultKind) → IsLimit k → 2 ≤ rank row → rank k ≤ rank row
limit_low TooDeep row h low = omega arith
limit_low TooMany row h low = omega arith
limit_low _ row h low = absurd h

-- the first byte of a term is in the limits, or meets one
abbrev FirstByte : List Open → ℕ → ℕ → Next → Type 0
FirstByte stack begun at next = ((length stack < 512) × (begun < 2 ^ 20)) ⊎ ((k : TermFaultKind) × IsLimit k × (limited true stack begun at next ≡ Err (at, k)))

first_byte_at : (stack : List Open) (begun at : ℕ) (next : Next) (x y : Bool) → nat_le 512 (length stack) ≡ x → nat_le (2 ^ 20) begun ≡ y → FirstByte stack begun at next
first_byte_at stack begun at next true y e f = inr (TooDeep, tt, ap (λ (b : Bool). if b then Err (at, TooDeep) else (if nat_le (2 ^ 20) begun then Err (at, TooMany) else next)) e)
first_byte_at stack begun at next false true e f =
    inr (TooMany, tt, ap (λ (b : Bool). if b then Err (at, TooDeep) else (if nat_le (2 ^ 20) begun then Err (at, TooMany) else next)) e ∙ ap (λ (b : Bool). if b then Err (at, TooMany) else next) f)
first_byte_at stack begun at next false false e f = inl (grind (arith, nat_tests), grind (arith, nat_tests))

first_byte : (stack : List Open) (begun at : ℕ) (next : Next) → FirstByte stack begun at next
first_byte stack begun at next = first_byte_at stack begun at next (nat_le 512 (length stack)) (nat_le (2 ^ 20) begun) refl refl

-- a term begins
term_step : (l : Last) (stack : List Open) (begun at c : ℕ) → CanBegin l → begins_term (class_of c) ≡ true → step true (state stack begun l) at c ≡ limited true stack begun at (begin_within (class_of c) stack (begun + 1) at c)
term_step l stack begun at c can h =
    begins true l (class_of c) stack begun at c can h ∙ ap (λ (x : Bool). if x then limited true stack begun at (begin_within (class_of c) stack (begun + 1) at c) else Err (at, misplaced (class_of c))) h

deep_step : (stack : List Open) (begun at : ℕ) (next : Next) → length stack ≡ 512 → limited true stack begun at next ≡ Err (at, TooDeep)
deep_step stack begun at next h = ap (λ (b : Bool). if b then Err (at, TooDeep) else (if nat_le (2 ^ 20) begun then Err (at, TooMany) else next)) (le_true 512 (length stack) (omega (arith, h)))

many_step : (stack : List Open) (begun at : ℕ) (next : Next) → begun ≡ 2 ^ 20 → (x : Bool) → nat_le 512 (length stack) ≡ x → (k : TermFaultKind) × (rank k ≤ 2) × (limited true stack begun at next ≡ Err (at, k))
many_step stack begun at next h true e = (TooDeep, omega arith, ap (λ (b : Bool). if b then Err (at, TooDeep) else (if nat_le (2 ^ 20) begun then Err (at, TooMany) else next)) e)
many_step stack begun at next h false e =
    (TooMany, omega arith, ap (λ (b : Bool). if b then Err (at, TooDeep) else (if nat_le (2 ^ 20) begun then Err (at, TooMany) else next)) e ∙ ap (λ (b : Bool). if b then Err (at, TooMany) else next) (le_true (2 ^ 20) begun (omega (arith, h))))

deep_row : (bytes front tail : List ℕ) (c place : ℕ) (stack : List Open) → bytes ≡ front ++ c ∷ tail → length front ≡ place → length stack ≡ 512 → begins_term (class_of c) ≡ true → Reaches stack front ⊎ MeetsLimit nothing 0 front → Answered bytes place TooDeep
deep_row bytes front tail c place stack e there deep begins_it (inl r) =
    at_place bytes front tail c place TooDeep TooDeep (state stack (begun_in stack) r.latest) e there r.runs
    (term_step r.latest stack (begun_in stack) (0 + length front) c r.can begins_it ∙ deep_step stack (begun_in stack) (0 + length front) _ deep) (omega arith)
deep_row bytes front tail c place stack e there deep begins_it (inr m) = limit_first bytes front (c ∷ tail) place TooDeep e (omega (arith, there)) m

many_row : (bytes front tail : List ℕ) (c place : ℕ) (stack : List Open) → bytes ≡ front ++ c ∷ tail → length front ≡ place → begun_in stack ≡ 2 ^ 20 → begins_term (class_of c) ≡ true → Reaches stack front ⊎ MeetsLimit nothing 0 front → Answered bytes place TooMany
many_row bytes front tail c place stack e there many begins_it (inl r) =
    let stop : (k : TermFaultKind) × (rank k ≤ 2) × (limited true stack (begun_in stack) (0 + length front) (begin_within (class_of c) stack (begun_in stack + 1) (0 + length front) c) ≡ Err (0 + length front, k)) =
    many_step stack (begun_in stack) (0 + length front) (begin_within (class_of c) stack (begun_in stack + 1) (0 + length front) c) many (nat_le 512 (length stack)) refl in
    at_place bytes front tail c place TooMany stop.0 (state stack (begun_in stack) r.latest) e there r.runs (term_step r.latest stack (begun_in stack) (0 + length front) c r.can begins_it ∙ stop.2) stop.1
many_row bytes front tail c place stack e there many begins_it (inr m) = limit_first bytes front (c ∷ tail) place TooMany e (omega (arith, there)) m

-- ** numbers

-- the first byte of a numeral
record FirstOf (bytes : List ℕ) : Type 0 where
  byte : ℕ
  tail : List ℕ
  whole : bytes ≡ byte ∷ tail
  begins_it : begins_term (class_of byte) ≡ true

signed_first : (negative : Bool) (digits : List ℕ) → IsDigits digits → FirstOf (sign_text negative ++ digits)
signed_first false [] h = absurd (omega (arith, h.some))
signed_first false (c ∷ digits) h = record { byte = c; tail = digits; whole = refl; begins_it = ap begins_term h.digits.0 }
signed_first true digits h = record { byte = 45; tail = digits; whole = refl; begins_it = ap begins_term class_minus }

numeral_first : (bytes : List ℕ) (n : ℤ) → IsNumeral bytes n → FirstOf bytes
numeral_first bytes n h = subst FirstOf (sym h.whole) (signed_first h.negative h.digits h.are_digits)

not_digit_number : (k : ByteClass) (stack : List Open) (begun at : ℕ) (n : Number) (c : ℕ) → is_digit k ≡ false → in_number k stack begun at n c ≡ after_number k stack begun at n c
not_digit_number Digit stack begun at n c h = cc
not_digit_number _ stack begun at n c h = refl

real_number : (k : ByteClass) (stack : List Open) (begun at : ℕ) (n : Number) (c : ℕ) → is_real_mark c ≡ true → after_number k stack begun at n c ≡ Err (n.start, Real)
real_number k stack begun at n c h = ap (λ (x : Bool). if x then Err (n.start, Real) else (if c == 58 then Err (n.start, Blob) else after_integer (integer_of n) k stack begun at n.start c)) h

blob_number : (k : ByteClass) (stack : List Open) (begun at : ℕ) (n : Number) (c : ℕ) → is_real_mark c ≡ false → (c == 58) ≡ true → after_number k stack begun at n c ≡ Err (n.start, Blob)
blob_number k stack begun at n c h g =
    ap (λ (x : Bool). if x then Err (n.start, Real) else (if c == 58 then Err (n.start, Blob) else after_integer (integer_of n) k stack begun at n.start c)) h
    ∙ ap (λ (x : Bool). if x then Err (n.start, Blob) else after_integer (integer_of n) k stack begun at n.start c) g

range_number : (k : ByteClass) (stack : List Open) (begun at : ℕ) (n : Number) (c : ℕ) → is_real_mark c ≡ false → (c == 58) ≡ false → integer_of n ≡ None → after_number k stack begun at n c ≡ Err (n.start, IntRange)
range_number k stack begun at n c h g i =
    ap (λ (x : Bool). if x then Err (n.start, Real) else (if c == 58 then Err (n.start, Blob) else after_integer (integer_of n) k stack begun at n.start c)) h
    ∙ ap (λ (x : Bool). if x then Err (n.start, Blob) else after_integer (integer_of n) k stack begun at n.start c) g
    ∙ ap (λ (o : Option ℤ). after_integer o k stack begun at n.start c) i

class_46 : class_of 46 ≡ Other
unfolding class_of
class_46 = refl

class_69 : class_of 69 ≡ Letter
unfolding class_of
class_69 = refl

class_101 : class_of 101 ≡ Letter
unfolding class_of
class_101 = refl

class_58 : class_of 58 ≡ Other
unfolding class_of
class_58 = refl

either : (x y : Bool) → (x || y) ≡ true → (x ≡ true) ⊎ (y ≡ true)
either true y h = inl refl
either false y h = inr h

real_class : (c : ℕ) → is_real_mark c ≡ true → is_digit (class_of c) ≡ false
real_class c h = go (either (c == 46 || c == 101) (c == 69) h)
  where
    first : (c == 46) ≡ true ⊎ (c == 101) ≡ true → is_digit (class_of c) ≡ false
    first (inl e) = ap (λ (d : ℕ). is_digit (class_of d)) (same_byte c 46 e) ∙ ap is_digit class_46
    first (inr e) = ap (λ (d : ℕ). is_digit (class_of d)) (same_byte c 101 e) ∙ ap is_digit class_101

    go : (c == 46 || c == 101) ≡ true ⊎ (c == 69) ≡ true → is_digit (class_of c) ≡ false
    go (inl e) = first (either (c == 46) (c == 101) e)
    go (inr e) = ap (λ (d : ℕ). is_digit (class_of d)) (same_byte c 69 e) ∙ ap is_digit class_69

colon_class : (c : ℕ) → c ≡ 58 → is_digit (class_of c) ≡ false
colon_class c h = ap (λ (d : ℕ). is_digit (class_of d)) h ∙ ap is_digit class_58

colon_real : (c : ℕ) → c ≡ 58 → is_real_mark c ≡ false
colon_real c h = ap is_real_mark h

-- a number that has been read, and the bytes behind it
record AtNumber (front rest : List ℕ) (n : ℤ) (behind : List ℕ) : Type 0 where
  stack : List Open
  begun : ℕ
  number : Number
  at : ℕ
  place : number.start ≡ 0 + length front
  integer : IntegerIs (integer_of number) n
  runs : run true nothing 0 (front ++ rest) ≡ run true (state stack begun (last.Number number)) at behind

-- a number row's place: the number has been read, or a fault that comes first
abbrev NumberCases : List ℕ → List ℕ → ℤ → List ℕ → List ℕ → ℕ → TermFaultKind → Type 0
NumberCases front rest n behind bytes place row = AtNumber front rest n behind ⊎ Answered bytes place row

number_reached : (bytes front rest : List ℕ) (place : ℕ) (row : TermFaultKind) (n : ℤ) (behind : List ℕ) → bytes ≡ front ++ rest → length front ≡ place → 2 ≤ rank row → (h : NumberBetween front rest n behind) → Reaches h.stack front ⊎ MeetsLimit nothing 0 front
    → NumberCases front rest n behind bytes place row
number_reached bytes front rest place row n behind e there low h (inr m) = inr (limit_first bytes front rest place row e (omega (arith, there)) m)
number_reached bytes front rest place row n behind e there low h (inl r) =
    let f : FirstOf h.numeral = numeral_first h.numeral n h.is_numeral in
    let at : ℕ = 0 + length front in
    go f at (first_byte h.stack (begun_in h.stack) (0 + length front) (begin_within (class_of f.byte) h.stack (begun_in h.stack + 1) (0 + length front) f.byte))
  where
    go : (f : FirstOf h.numeral) (at : ℕ) → FirstByte h.stack (begun_in h.stack) (0 + length front) (begin_within (class_of f.byte) h.stack (begun_in h.stack + 1) (0 + length front) f.byte) → NumberCases front rest n behind bytes place row
    go f at (inr k) =
        inr (at_place bytes front (f.tail ++ behind) f.byte place row k.0 (state h.stack (begun_in h.stack) r.latest) (e ∙ ap (λ (xs : List ℕ). front ++ xs) (h.whole ∙ ap (λ (xs : List ℕ). xs ++ behind) f.whole)) there r.runs
        (term_step r.latest h.stack (begun_in h.stack) (0 + length front) f.byte r.can f.begins_it ∙ k.2) (limit_low k.0 row k.1 low))
    go f at (inl room) =
        let reads : ReadsNumeral true (state h.stack (begun_in h.stack) r.latest) (0 + length front) h.numeral h.stack (begun_in h.stack + 1) h.is_numeral.negative h.is_numeral.digits =
        reads_numeral true r.latest h.stack (begun_in h.stack) (0 + length front) h.numeral n h.is_numeral r.can (λ _. room) in
        inl (record {
          stack = h.stack;
          begun = begun_in h.stack + 1;
          number = reads.number;
          at = 0 + length front + length h.numeral;
          place = reads.is.place;
          integer = subst (λ (m : ℤ). IntegerIs (integer_of reads.number) m) (sym h.is_numeral.value) (integer_is reads.number h.is_numeral.negative (number_of h.is_numeral.digits) (0 + length front) reads.is);
          runs =
              run_on true nothing (state h.stack (begun_in h.stack) r.latest) 0 front rest r.runs
              ∙ ap (run true (state h.stack (begun_in h.stack) r.latest) (0 + length front)) h.whole
              ∙ run_on true (state h.stack (begun_in h.stack) r.latest) (state h.stack (begun_in h.stack + 1) (last.Number reads.number)) (0 + length front) h.numeral behind reads.runs;
        })

-- the fault of a number that has been read
number_fault : (bytes front rest : List ℕ) (place : ℕ) (row : TermFaultKind) (n : ℤ) (behind tail : List ℕ) (c : ℕ) → bytes ≡ front ++ rest → length front ≡ place → behind ≡ c ∷ tail → (h : AtNumber front rest n behind)
    → in_number (class_of c) h.stack h.begun h.at h.number c ≡ Err (h.number.start, row) → Answered bytes place row
number_fault bytes front rest place row n behind tail c e there same h stop = record {
  offset = h.number.start;
  kind = row;
  reads = reading_err bytes (h.number.start, row)
      (ap (run true nothing 0) e ∙ h.runs ∙ ap (run true (state h.stack h.begun (last.Number h.number)) h.at) same
      ∙ bind_err (in_number (class_of c) h.stack h.begun h.at h.number c) (λ next. run true next (h.at + 1) tail) (h.number.start, row) stop);
  first = inr (omega (arith, h.place, there), omega arith);
}

real_row : (bytes front rest : List ℕ) (place : ℕ) (n : ℤ) (behind : List ℕ) → bytes ≡ front ++ rest → length front ≡ place → StartsWith is_real_mark behind → NumberCases front rest n behind bytes place Real → Answered bytes place Real
real_row bytes front rest place n behind e there s (inr a) = a
real_row bytes front rest place n [] e there s (inl h) = absurd s
real_row bytes front rest place n (c ∷ tail) e there s (inl h) =
    number_fault bytes front rest place Real n (c ∷ tail) tail c e there refl h
    (not_digit_number (class_of c) h.stack h.begun h.at h.number c (real_class c s) ∙ real_number (class_of c) h.stack h.begun h.at h.number c s)

blob_row : (bytes front rest : List ℕ) (place : ℕ) (n : ℤ) (behind : List ℕ) → bytes ≡ front ++ rest → length front ≡ place → StartsWith (λ c. c == 58) behind → NumberCases front rest n behind bytes place Blob → Answered bytes place Blob
blob_row bytes front rest place n behind e there s (inr a) = a
blob_row bytes front rest place n [] e there s (inl h) = absurd s
blob_row bytes front rest place n (c ∷ tail) e there s (inl h) =
    number_fault bytes front rest place Blob n (c ∷ tail) tail c e there refl h
    (not_digit_number (class_of c) h.stack h.begun h.at h.number c (colon_class c (same_byte c 58 s)) ∙ blob_number (class_of c) h.stack h.begun h.at h.number c (colon_real c (same_byte c 58 s)) s)

no_integer : (o : Option ℤ) (n : ℤ) → IntegerIs o n → ¬ IsI64 n → o ≡ None
no_integer o n (inl h) large = absurd (large h.1)
no_integer o n (inr h) large = h.0

none_of : (x y z : Bool) → (x || y || z) ≡ false → (x ≡ false) × (y ≡ false) × (z ≡ false)
none_of false false false h = (refl, refl, refl)
none_of true y z h = cc
none_of false true z h = cc
none_of false false true h = cc

finish_number : (stack : List Open) (begun at : ℕ) (n : Number) → integer_of n ≡ None → finish (state stack begun (last.Number n)) at ≡ Err (n.start, IntRange)
finish_number stack begun at n h = ap (λ (o : Option ℤ). ended_number o n.start >>= outermost stack at) h

range_row : (bytes front rest : List ℕ) (place : ℕ) (n : ℤ) (behind : List ℕ) → bytes ≡ front ++ rest → length front ≡ place → EndsNumber behind → ¬ IsI64 n → NumberCases front rest n behind bytes place IntRange → Answered bytes place IntRange
range_row bytes front rest place n behind e there s large (inr a) = a
range_row bytes front rest place n [] e there s large (inl h) = record {
  offset = h.number.start;
  kind = IntRange;
  reads = ap (λ (o : Next). o >>= λ s. finish s (length bytes)) (ap (run true nothing 0) e ∙ h.runs) ∙ finish_number h.stack h.begun (length bytes) h.number (no_integer (integer_of h.number) n h.integer large);
  first = inr (omega (arith, h.place, there), omega arith);
}
range_row bytes front rest place n (c ∷ tail) e there s large (inl h) =
    let free : (is_digit (class_of c) ≡ false) × (is_real_mark c ≡ false) × ((c == 58) ≡ false) = none_of (is_digit (class_of c)) (is_real_mark c) (c == 58) s in
    number_fault bytes front rest place IntRange n (c ∷ tail) tail c e there refl h
    (not_digit_number (class_of c) h.stack h.begun h.at h.number c free.0 ∙ range_number (class_of c) h.stack h.begun h.at h.number c free.1 free.2 (no_integer (integer_of h.number) n h.integer large))

-- ** escapes

-- no escape begins with a backslash before these bytes
abbrev NoEscape : List ℕ → Type 0
NoEscape tail = (escape rest : List ℕ) (value : ℕ) → 92 ∷ tail ≡ escape ++ rest → ¬ IsEscape escape value

abbrev Reading : Type 0
Reading = Result Term (ℕ × TermFaultKind)

-- what is read from a state to the end of the text
abbrev read_from : State → ℕ → List ℕ → ℕ → Reading
read_from s at bytes end = run true s at bytes >>= λ q. finish q end

read_on : (s next : State) (at c : ℕ) (tail : List ℕ) (end : ℕ) (e : ℕ × TermFaultKind) → step true s at c ≡ Ok next → read_from next (at + 1) tail end ≡ Err e → read_from s at (c ∷ tail) end ≡ Err e
read_on s next at c tail end e h g = ap (λ (o : Next). (o >>= λ x. run true x (at + 1) tail) >>= λ q. finish q end) h ∙ g

read_stop : (s : State) (at c : ℕ) (tail : List ℕ) (end : ℕ) (e : ℕ × TermFaultKind) → step true s at c ≡ Err e → read_from s at (c ∷ tail) end ≡ Err e
read_stop s at c tail end e h = ap (λ (o : Next). (o >>= λ x. run true x (at + 1) tail) >>= λ q. finish q end) h

third_bad : (stack : List Open) (begun : ℕ) (e : Escape) (value c : ℕ) → is_octal c ≡ false → in_two_octals stack begun e value c ≡ Err (e.start, BadEscape)
third_bad stack begun e value c h = ap (λ (x : Bool). if x then Ok (state stack begun (last.Inside (e.chars ++ (value * 8 + (c - 48)) ∷ []))) else Err (e.start, BadEscape)) h

second_bad : (stack : List Open) (begun : ℕ) (e : Escape) (value c : ℕ) → is_octal c ≡ false → in_one_octal stack begun e value c ≡ Err (e.start, BadEscape)
second_bad stack begun e value c h = ap (λ (x : Bool). if x then Ok (state stack begun (last.TwoOctals e (value * 8 + (c - 48)))) else Err (e.start, BadEscape)) h

second_good : (stack : List Open) (begun : ℕ) (e : Escape) (value c : ℕ) → is_octal c ≡ true → in_one_octal stack begun e value c ≡ Ok (state stack begun (last.TwoOctals e (value * 8 + (c - 48))))
second_good stack begun e value c h = ap (λ (x : Bool). if x then Ok (state stack begun (last.TwoOctals e (value * 8 + (c - 48)))) else Err (e.start, BadEscape)) h

first_bad : (stack : List Open) (begun : ℕ) (e : Escape) (c : ℕ) → short_escape c ≡ None → is_low_octal c ≡ false → escaped stack begun e c (short_escape c) ≡ Err (e.start, BadEscape)
first_bad stack begun e c h g = ap (escaped stack begun e c) h ∙ ap (λ (x : Bool). if x then Ok (state stack begun (last.OneOctal e (c - 48))) else Err (e.start, BadEscape)) g

first_good : (stack : List Open) (begun : ℕ) (e : Escape) (c : ℕ) → short_escape c ≡ None → is_low_octal c ≡ true → escaped stack begun e c (short_escape c) ≡ Ok (state stack begun (last.OneOctal e (c - 48)))
first_good stack begun e c h g = ap (escaped stack begun e c) h ∙ ap (λ (x : Bool). if x then Ok (state stack begun (last.OneOctal e (c - 48))) else Err (e.start, BadEscape)) g

whole_escape : (a b c : ℕ) → is_low_octal a ≡ true → is_octal b ≡ true → is_octal c ≡ true → IsEscape (92 ∷ a ∷ b ∷ c ∷ []) (octal_value a b c)
whole_escape a b c h k j = let high : a ≤ 49 = low_high a h in let middle : b ≤ 55 = octal_high b k in let low : c ≤ 55 = octal_high c j in octal a b c (low_is_octal a h) k j refl (omega arith) refl

bad_three : (stack : List Open) (begun : ℕ) (e : Escape) (value at end a b c : ℕ) (tail : List ℕ) → is_low_octal a ≡ true → is_octal b ≡ true → NoEscape (a ∷ b ∷ c ∷ tail) → (x : Bool) → is_octal c ≡ x
    → read_from (state stack begun (last.TwoOctals e value)) at (c ∷ tail) end ≡ Err (e.start, BadEscape)
bad_three stack begun e value at end a b c tail ha hb none_there true h = absurd (none_there (92 ∷ a ∷ b ∷ c ∷ []) tail _ refl (whole_escape a b c ha hb h))
bad_three stack begun e value at end a b c tail ha hb none_there false h = read_stop (state stack begun (last.TwoOctals e value)) at c tail end (e.start, BadEscape) (third_bad stack begun e value c h)

bad_two : (stack : List Open) (begun : ℕ) (e : Escape) (value at end a b : ℕ) (tail : List ℕ) → is_low_octal a ≡ true → is_octal b ≡ true → NoEscape (a ∷ b ∷ tail)
    → read_from (state stack begun (last.TwoOctals e value)) at tail end ≡ Err (e.start, BadEscape)
bad_two stack begun e value at end a b [] ha hb none_there = refl
bad_two stack begun e value at end a b (c ∷ tail) ha hb none_there = bad_three stack begun e value at end a b c tail ha hb none_there (is_octal c) refl

bad_second : (stack : List Open) (begun : ℕ) (e : Escape) (value at end a b : ℕ) (tail : List ℕ) → is_low_octal a ≡ true → NoEscape (a ∷ b ∷ tail) → (x : Bool) → is_octal b ≡ x
    → read_from (state stack begun (last.OneOctal e value)) at (b ∷ tail) end ≡ Err (e.start, BadEscape)
bad_second stack begun e value at end a b tail ha none_there true h =
    read_on (state stack begun (last.OneOctal e value)) (state stack begun (last.TwoOctals e (value * 8 + (b - 48)))) at b tail end (e.start, BadEscape) (second_good stack begun e value b h)
    (bad_two stack begun e (value * 8 + (b - 48)) (at + 1) end a b tail ha h none_there)
bad_second stack begun e value at end a b tail ha none_there false h = read_stop (state stack begun (last.OneOctal e value)) at b tail end (e.start, BadEscape) (second_bad stack begun e value b h)

bad_one : (stack : List Open) (begun : ℕ) (e : Escape) (value at end a : ℕ) (tail : List ℕ) → is_low_octal a ≡ true → NoEscape (a ∷ tail) → read_from (state stack begun (last.OneOctal e value)) at tail end ≡ Err (e.start, BadEscape)
bad_one stack begun e value at end a [] ha none_there = refl
bad_one stack begun e value at end a (b ∷ tail) ha none_there = bad_second stack begun e value at end a b tail ha none_there (is_octal b) refl

bad_first : (stack : List Open) (begun : ℕ) (e : Escape) (at end c : ℕ) (tail : List ℕ) → NoEscape (c ∷ tail) → (o : Option ℕ) (x : Bool) → short_escape c ≡ o → is_low_octal c ≡ x
    → read_from (state stack begun (last.Backslash e)) at (c ∷ tail) end ≡ Err (e.start, BadEscape)
bad_first stack begun e at end c tail none_there (Some v) x h g = absurd (none_there (92 ∷ c ∷ []) tail v refl (short c h refl))
bad_first stack begun e at end c tail none_there None true h g =
    read_on (state stack begun (last.Backslash e)) (state stack begun (last.OneOctal e (c - 48))) at c tail end (e.start, BadEscape) (first_good stack begun e c h g)
    (bad_one stack begun e (c - 48) (at + 1) end c tail g none_there)
bad_first stack begun e at end c tail none_there None false h g = read_stop (state stack begun (last.Backslash e)) at c tail end (e.start, BadEscape) (first_bad stack begun e c h g)

bad_tail : (stack : List Open) (begun : ℕ) (e : Escape) (at end : ℕ) (tail : List ℕ) → NoEscape tail → read_from (state stack begun (last.Backslash e)) at tail end ≡ Err (e.start, BadEscape)
bad_tail stack begun e at end [] none_there = refl
bad_tail stack begun e at end (c ∷ tail) none_there = bad_first stack begun e at end c tail none_there (short_escape c) (is_low_octal c) refl refl

-- what is read of a text from a place on
from_front : (front rest : List ℕ) (s : State) (e : ℕ × TermFaultKind) (bytes : List ℕ) → bytes ≡ front ++ rest → run true nothing 0 front ≡ Ok s → read_from s (0 + length front) rest (length bytes) ≡ Err e → reading bytes ≡ Err e
from_front front rest s e bytes h runs stop = ap (λ (o : Next). o >>= λ q. finish q (length bytes)) (ap (run true nothing 0) h ∙ run_on true nothing s 0 front rest runs) ∙ stop

escape_at : (bytes front tail : List ℕ) (place : ℕ) (stack : List Open) (begun : ℕ) (text : List ℕ) → bytes ≡ front ++ 92 ∷ tail → length front ≡ place → NoEscape tail → run true nothing 0 front ≡ Ok (state stack begun (last.Inside text)) → Answered bytes place BadEscape
escape_at bytes front tail place stack begun text e there none_there runs = record {
  offset = 0 + length front;
  kind = BadEscape;
  reads = from_front front (92 ∷ tail) (state stack begun (last.Inside text)) (0 + length front, BadEscape) bytes e runs
      (bad_tail stack begun (record { chars = text; start = 0 + length front }) (0 + length front + 1) (length bytes) tail none_there);
  first = inr (omega (arith, there), omega arith);
}

-- a fault before the place
earlier : (bytes front tail : List ℕ) (c place : ℕ) (row kind : TermFaultKind) (s : State) → bytes ≡ front ++ c ∷ tail → length front < place → run true nothing 0 front ≡ Ok s → step true s (0 + length front) c ≡ Err (0 + length front, kind) → Answered bytes place row
earlier bytes front tail c place row kind s e there runs steps = record {
  offset = 0 + length front;
  kind = kind;
  reads = reading_err bytes (0 + length front, kind) (ap (run true nothing 0) e ∙ step_err front tail c s (0 + length front, kind) runs steps);
  first = inl (omega (arith, there));
}

escape_reached : (bytes front tail : List ℕ) (place : ℕ) (h : BadEscapeBetween front (92 ∷ tail)) → bytes ≡ front ++ 92 ∷ tail → length front ≡ place → Reaches h.stack h.outside ⊎ MeetsLimit nothing 0 h.outside → Answered bytes place BadEscape
escape_reached bytes front tail place h e there (inr m) =
    limit_first bytes h.outside ((34 ∷ h.inside) ++ 92 ∷ tail) place BadEscape (e ∙ ap (λ (xs : List ℕ). xs ++ 92 ∷ tail) h.place ∙ append_assoc h.outside (34 ∷ h.inside) (92 ∷ tail))
    (omega (arith, there, ap length h.place, length-append h.outside (34 ∷ h.inside))) m
escape_reached bytes front tail place h e there (inl r) = go (first_byte h.stack (begun_in h.stack) (0 + length h.outside) (begin_within (class_of 34) h.stack (begun_in h.stack + 1) (0 + length h.outside) 34))
  where
    go : FirstByte h.stack (begun_in h.stack) (0 + length h.outside) (begin_within (class_of 34) h.stack (begun_in h.stack + 1) (0 + length h.outside) 34) → Answered bytes place BadEscape
    go (inr k) =
        earlier bytes h.outside (h.inside ++ 92 ∷ tail) 34 place BadEscape k.0 (state h.stack (begun_in h.stack) r.latest)
        (e ∙ ap (λ (xs : List ℕ). xs ++ 92 ∷ tail) h.place ∙ append_assoc h.outside (34 ∷ h.inside) (92 ∷ tail))
        (omega (arith, there, ap length h.place, length-append h.outside (34 ∷ h.inside))) r.runs
        (term_step r.latest h.stack (begun_in h.stack) (0 + length h.outside) 34 r.can (ap begins_term class_quote) ∙ k.2)
    go (inl room) =
        escape_at bytes front tail place h.stack (begun_in h.stack + 1) h.text e there (λ escape rest value same. h.no_escape escape rest value same)
        (ap (run true nothing 0) h.place ∙ run_on true nothing (state h.stack (begun_in h.stack) r.latest) 0 h.outside (34 ∷ h.inside) r.runs
        ∙ reads_inside true r.latest h.stack (begun_in h.stack) (0 + length h.outside) h.inside h.text r.can h.is_inside (λ _. room))

escape_row : (bytes front rest : List ℕ) (place : ℕ) → bytes ≡ front ++ rest → length front ≡ place → BadEscapeBetween front rest → Answered bytes place BadEscape
escape_row bytes front [] place e there h = absurd h.backslash
escape_row bytes front (c ∷ tail) place e there h =
    let same : c ≡ 92 = same_byte c 92 h.backslash in
    let g : BadEscapeBetween front (92 ∷ tail) = subst (λ (d : ℕ). BadEscapeBetween front (d ∷ tail)) same h in
    escape_reached bytes front tail place g (e ∙ ap (λ (d : ℕ). front ++ d ∷ tail) same) there (due_reaches g.stack g.outside g.due)

-- ** a number that is no i64, whatever follows

none_large : (negative : Bool) (m : ℕ) → integer_within negative m ≡ None → 2 ^ 63 ≤ m
none_large false m h = go (nat_lt m (2 ^ 63)) refl h
  where
    go : (x : Bool) → nat_lt m (2 ^ 63) ≡ x → ◌≡◌ {A = Option ℤ} (if x then Some (pos m) else None) None → 2 ^ 63 ≤ m
    go true e g = cc
    go false e g = grind (arith, nat_tests)
none_large true zero h = cc
none_large true (suc m) h = go (nat_lt m (2 ^ 63)) refl h
  where
    go : (x : Bool) → nat_lt m (2 ^ 63) ≡ x → ◌≡◌ {A = Option ℤ} (if x then Some (negsuc m) else None) None → 2 ^ 63 ≤ suc m
    go true e g = cc
    go false e g = let low : 2 ^ 63 ≤ m = grind (arith, nat_tests) in omega arith

greatest_none : (negative : Bool) → integer_within negative (2 ^ 64 - 1) ≡ None
greatest_none false = refl
greatest_none true = refl

none_more : (n : Number) (c : ℕ) → integer_of n ≡ None → integer_of (with_digit n c) ≡ None
none_more n c h =
    let large : 2 ^ 63 ≤ n.magnitude = none_large n.negative n.magnitude h in
    ap (λ (x : Bool). integer_within n.negative (if x then n.magnitude * 10 + (c - 48) else 2 ^ 64 - 1)) (lt_false n.magnitude (2 ^ 60) (omega arith)) ∙ greatest_none n.negative

-- what is read from such a number on
record Dies (stack : List Open) (begun : ℕ) (n : Number) (at : ℕ) (rest : List ℕ) (end : ℕ) : Type 0 where
  kind : TermFaultKind
  reads : read_from (state stack begun (last.Number n)) at rest end ≡ Err (n.start, kind)

digit_is : (k : ByteClass) → is_digit k ≡ true → k ≡ Digit
digit_is Digit h = refl
digit_is _ h = cc

dies_at : (stack : List Open) (begun : ℕ) (n : Number) (at c : ℕ) (rest : List ℕ) (end : ℕ) → integer_of n ≡ None → Dies stack begun (with_digit n c) (at + 1) rest end → (x y z : Bool) → is_digit (class_of c) ≡ x → is_real_mark c ≡ y → (c == 58) ≡ z
    → Dies stack begun n at (c ∷ rest) end
dies_at stack begun n at c rest end none_there later true y z h f g = record {
  kind = later.kind;
  reads = read_on (state stack begun (last.Number n)) (state stack begun (last.Number (with_digit n c))) at c rest end (n.start, later.kind) (ap (λ (k : ByteClass). in_number k stack begun at n c) (digit_is (class_of c) h)) later.reads;
}
dies_at stack begun n at c rest end none_there later false true z h f g = record {
  kind = Real;
  reads = read_stop (state stack begun (last.Number n)) at c rest end (n.start, Real) (not_digit_number (class_of c) stack begun at n c h ∙ real_number (class_of c) stack begun at n c f);
}
dies_at stack begun n at c rest end none_there later false false true h f g = record {
  kind = Blob;
  reads = read_stop (state stack begun (last.Number n)) at c rest end (n.start, Blob) (not_digit_number (class_of c) stack begun at n c h ∙ blob_number (class_of c) stack begun at n c f g);
}
dies_at stack begun n at c rest end none_there later false false false h f g = record {
  kind = IntRange;
  reads = read_stop (state stack begun (last.Number n)) at c rest end (n.start, IntRange) (not_digit_number (class_of c) stack begun at n c h ∙ range_number (class_of c) stack begun at n c f g none_there);
}

number_dies : (stack : List Open) (begun : ℕ) (n : Number) (at : ℕ) (rest : List ℕ) (end : ℕ) → integer_of n ≡ None → Dies stack begun n at rest end
number_dies stack begun n at [] end h = record { kind = IntRange; reads = finish_number stack begun end n h }
number_dies stack begun n at (c ∷ rest) end h =
    dies_at stack begun n at c rest end h (number_dies stack begun (with_digit n c) (at + 1) rest end (none_more n c h)) (is_digit (class_of c)) (is_real_mark c) (c == 58) refl refl refl

-- ** where no text goes on

highest : (k : TermFaultKind) → rank k ≤ 9
highest NotUtf8 = omega arith
highest TooDeep = omega arith
highest TooMany = omega arith
highest Real = omega arith
highest Blob = omega arith
highest IntRange = omega arith
highest Shared = omega arith
highest Placeholder = omega arith
highest BadEscape = omega arith
highest Unexpected = omega arith

up_to_chosen : (offset place : ℕ) (k : TermFaultKind) (x : Bool) → nat_lt offset place ≡ x → offset ≤ place → ComesFirst offset k place Unexpected
up_to_chosen offset place k true e h = inl (grind (arith, nat_tests))
up_to_chosen offset place k false e h = let low : place ≤ offset = grind (arith, nat_tests) in inr (omega arith, highest k)

up_to : (offset place : ℕ) (k : TermFaultKind) → offset ≤ place → ComesFirst offset k place Unexpected
up_to offset place k h = up_to_chosen offset place k (nat_lt offset place) refl h

end_row : (bytes : List ℕ) (place : ℕ) → length bytes ≡ place → IsUtf8 bytes → ((t : Term) → ¬ IsText bytes t) → (o : Reading) → reading bytes ≡ o → Answered bytes place Unexpected
end_row bytes place there u no_text (Ok t) h = absurd (no_text t (sound bytes t u h).is_text)
end_row bytes place there u no_text (Err (offset, k)) h = record { offset = offset; kind = k; reads = h; first = up_to offset place k (omega (arith, there, (faulted bytes offset k h).bound)) }

stopped_row : (bytes front tail : List ℕ) (c place offset : ℕ) (k : TermFaultKind) → bytes ≡ (front ++ c ∷ []) ++ tail → length front ≡ place → run true nothing 0 (front ++ c ∷ []) ≡ Err (offset, k) → Answered bytes place Unexpected
stopped_row bytes front tail c place offset k e there h =
    let s : Stopped nothing 0 [] (front ++ c ∷ []) offset k = run_stops nothing 0 [] (front ++ c ∷ []) offset k refl nothing_means h in
    record {
      offset = offset;
      kind = k;
      reads = reading_err bytes (offset, k) (ap (run true nothing 0) e ∙ front_err (front ++ c ∷ []) tail (offset, k) h);
      first = up_to offset place k (omega (arith, there, stops_bound k s.passed s.byte offset s.stops, ap length s.whole, length-append s.passed (s.byte ∷ s.rest), length-append front (c ∷ [])));
    }

number_place : (front : List ℕ) (c : ℕ) (n : Number) (stack : List Open) → NumberAt n stack (front ++ c ∷ []) → n.start ≤ length front
number_place front c n stack h = omega (arith, h.is.place, h.are_digits.some, ap length h.whole, length-append front (c ∷ []), length-append h.front (sign_text n.negative ++ h.digits), length-append (sign_text n.negative) h.digits)

dead_row : (bytes front tail : List ℕ) (c place : ℕ) (l : Last) (stack : List Open) (begun : ℕ) → bytes ≡ (front ++ c ∷ []) ++ tail → length front ≡ place → run true nothing 0 (front ++ c ∷ []) ≡ Ok (state stack begun l) → Means stack begun l (front ++ c ∷ []) → IsDead l
    → Answered bytes place Unexpected
dead_row bytes front tail c place (last.Number n) stack begun e there runs m dead =
    let d : Dies stack begun n (0 + length (front ++ c ∷ [])) tail (length bytes) = number_dies stack begun n (0 + length (front ++ c ∷ [])) tail (length bytes) dead in
    record {
      offset = n.start;
      kind = d.kind;
      reads = from_front (front ++ c ∷ []) tail (state stack begun (last.Number n)) (n.start, d.kind) bytes e runs d.reads;
      first = up_to n.start place d.kind (omega (arith, there, number_place front c n stack m.spelled));
    }
dead_row bytes front tail c place _ stack begun e there runs m dead = absurd dead

outside_row : (bytes front tail : List ℕ) (c place : ℕ) (l : Last) (stack : List Open) (begun : ℕ) → bytes ≡ (front ++ c ∷ []) ++ tail → length front ≡ place → run true nothing 0 (front ++ c ∷ []) ≡ Ok (state stack begun l) → Means stack begun l (front ++ c ∷ [])
    → ¬ Begins (front ++ c ∷ []) → IsDead l ⊎ Begins (front ++ c ∷ []) → Answered bytes place Unexpected
outside_row bytes front tail c place l stack begun e there runs m stuck (inl dead) = dead_row bytes front tail c place l stack begun e there runs m dead
outside_row bytes front tail c place l stack begun e there runs m stuck (inr b) = absurd (stuck b)

last_row : (bytes front tail : List ℕ) (c place : ℕ) (l : Last) (stack : List Open) (begun : ℕ) → IsUtf8 bytes → bytes ≡ (front ++ c ∷ []) ++ tail → length front ≡ place → run true nothing 0 (front ++ c ∷ []) ≡ Ok (state stack begun l) → Means stack begun l (front ++ c ∷ [])
    → ¬ Begins (front ++ c ∷ []) → Answered bytes place Unexpected
last_row bytes front tail c place (last.Inside chars) stack begun u e there runs m stuck = absurd (stuck (inside_lives stack chars (front ++ c ∷ []) tail m.spelled (subst IsUtf8 e u)))
last_row bytes front tail c place l stack begun u e there runs m stuck =
    outside_row bytes front tail c place l stack begun e there runs m stuck
    (alive l stack begun (front ++ c ∷ []) tt m (front_utf8 (state stack begun l) (front ++ c ∷ []) tail runs tt (subst IsUtf8 e u)))

further_row : (bytes front tail : List ℕ) (c place : ℕ) → IsUtf8 bytes → bytes ≡ (front ++ c ∷ []) ++ tail → length front ≡ place → ¬ Begins (front ++ c ∷ []) → (o : Next) → run true nothing 0 (front ++ c ∷ []) ≡ o → Answered bytes place Unexpected
further_row bytes front tail c place u e there stuck (Err (offset, k)) h = stopped_row bytes front tail c place offset k e there h
further_row bytes front tail c place u e there stuck (Ok (state stack begun l)) h =
    last_row bytes front tail c place l stack begun u e there h (run_means nothing (state stack begun l) 0 [] (front ++ c ∷ []) refl nothing_means h) stuck

unexpected_row : (bytes front rest : List ℕ) (place : ℕ) → IsUtf8 bytes → bytes ≡ front ++ rest → length front ≡ place → CannotGoOn front rest → Answered bytes place Unexpected
unexpected_row bytes front [] place u e there stuck =
    let same : bytes ≡ front = e ∙ append-nil front in
    end_row bytes place (ap length same ∙ there) u (subst (λ (xs : List ℕ). (t : Term) → ¬ IsText xs t) (sym same) stuck) (reading bytes) refl
unexpected_row bytes front (c ∷ tail) place u e there stuck =
    further_row bytes front tail c place u (e ∙ sym (append_assoc front (c ∷ []) tail)) there stuck (run true nothing 0 (front ++ c ∷ [])) refl

-- ** each row

shared_row : (bytes front rest : List ℕ) (place : ℕ) → bytes ≡ front ++ rest → length front ≡ place → StandsBetween Shared front rest → Answered bytes place Shared
shared_row bytes front [] place e there h = absurd h.1
shared_row bytes front (c ∷ tail) place e there h =
    misplaced_at 33 Exclamation Shared class_exclamation (inl refl) refl bytes front tail c place h.0.0 e there (same_byte c 33 h.1) (due_reaches h.0.0 front h.0.1)

placeholder_row : (bytes front rest : List ℕ) (place : ℕ) → bytes ≡ front ++ rest → length front ≡ place → StandsBetween Placeholder front rest → Answered bytes place Placeholder
placeholder_row bytes front [] place e there h = absurd h.1
placeholder_row bytes front (c ∷ tail) place e there h =
    misplaced_at 60 Less Placeholder class_less (inr refl) refl bytes front tail c place h.0.0 e there (same_byte c 60 h.1) (due_reaches h.0.0 front h.0.1)

too_deep_row : (bytes front rest : List ℕ) (place : ℕ) → bytes ≡ front ++ rest → length front ≡ place → StandsBetween TooDeep front rest → Answered bytes place TooDeep
too_deep_row bytes front [] place e there h = absurd h.3
too_deep_row bytes front (c ∷ tail) place e there h = deep_row bytes front tail c place h.0 e there h.2 h.3 (due_reaches h.0 front h.1)

too_many_row : (bytes front rest : List ℕ) (place : ℕ) → bytes ≡ front ++ rest → length front ≡ place → StandsBetween TooMany front rest → Answered bytes place TooMany
too_many_row bytes front [] place e there h = absurd h.3
too_many_row bytes front (c ∷ tail) place e there h = many_row bytes front tail c place h.0 e there h.2 h.3 (due_reaches h.0 front h.1)

not_utf8_row : (bytes : List ℕ) (n : ℕ) → IsUtf8 bytes → IsValidUpTo bytes n → ⊥
not_utf8_row bytes n u h = h.longest (length bytes) h.short (subst IsUtf8 (sym (take-length bytes)) u)

-- where a row stands, reading gives a fault that comes first
pub answered : (row : TermFaultKind) (bytes : List ℕ) (place : ℕ) → IsUtf8 bytes → IsFault bytes place row → Answered bytes place row
answered NotUtf8 bytes place u h = absurd (not_utf8_row bytes (length h.front) u (subst (λ (xs : List ℕ). IsValidUpTo xs (length h.front)) (sym h.whole) h.stands))
answered Shared bytes place u h = shared_row bytes h.front h.rest place h.whole h.place h.stands
answered Placeholder bytes place u h = placeholder_row bytes h.front h.rest place h.whole h.place h.stands
answered Real bytes place u h = real_row bytes h.front h.rest place h.stands.0 h.stands.1 h.whole h.place h.stands.3
    (number_reached bytes h.front h.rest place Real h.stands.0 h.stands.1 h.whole h.place (omega arith) h.stands.2 (due_reaches h.stands.2.stack h.front h.stands.2.due))
answered Blob bytes place u h = blob_row bytes h.front h.rest place h.stands.0 h.stands.1 h.whole h.place h.stands.3
    (number_reached bytes h.front h.rest place Blob h.stands.0 h.stands.1 h.whole h.place (omega arith) h.stands.2 (due_reaches h.stands.2.stack h.front h.stands.2.due))
answered IntRange bytes place u h = range_row bytes h.front h.rest place h.stands.0 h.stands.1 h.whole h.place h.stands.3 h.stands.4
    (number_reached bytes h.front h.rest place IntRange h.stands.0 h.stands.1 h.whole h.place (omega arith) h.stands.2 (due_reaches h.stands.2.stack h.front h.stands.2.due))
answered BadEscape bytes place u h = escape_row bytes h.front h.rest place h.whole h.place h.stands
answered TooDeep bytes place u h = too_deep_row bytes h.front h.rest place h.whole h.place h.stands
answered TooMany bytes place u h = too_many_row bytes h.front h.rest place h.whole h.place h.stands
answered Unexpected bytes place u h = unexpected_row bytes h.front h.rest place u h.whole h.place h.stands.1
