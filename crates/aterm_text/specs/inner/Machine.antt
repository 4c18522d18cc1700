-- How the bytes of a term text are read one by one: what each of them makes of what has been read so far. Where `b` is false, the
-- limits of depth and size are left out.
use Rattle.std.specs.Prelude.{ℕ, ℤ, ◌+◌, ◌-◌, ◌*◌, ◌^◌, Bool, true, false, ◌==◌, ◌&&◌, nat_le, List, [], ◌∷◌, ◌++◌, length, Option, Some, None, Result, Ok, Err, if◌then◌else◌}
use Rattle.flow_term.specs.declared.term.Term.{Term}
use Rattle.flow_term.specs.declared.term.Kind.{Kind}
use Rattle.flow_term.specs.declared.term.Kind.TheVariants as kind
use Rattle.quoted_text.specs.Escapes.{is_low_octal, is_octal, short_escape}
use Rattle.aterm_text.specs.declared.class.ByteClass.{ByteClass}
use Rattle.aterm_text.specs.declared.class.ByteClass.TheVariants.{Letter, Digit, Minus, Sign, Blank, Quote, Comma, Parenthesis, Bracket, Brace, Closing}
use Rattle.aterm_text.specs.declared.number.Number.{Number}
use Rattle.aterm_text.specs.declared.open.Open.{Open}
use Rattle.aterm_text.specs.declared.open.Opener.{Opener}
use Rattle.aterm_text.specs.declared.open.Opener.TheVariants.{Call, Tuple, Items, Annotations}
use Rattle.aterm_text.specs.declared.reader.state.Escape.{Escape}
use Rattle.aterm_text.specs.declared.reader.state.Last.{Last}
use Rattle.aterm_text.specs.declared.reader.state.Last.TheVariants as last
use Rattle.aterm_text.specs.declared.refusal.TermFaultKind.{TermFaultKind}
use Rattle.aterm_text.specs.declared.refusal.TermFaultKind.TheVariants.{Unexpected, Real, Blob, BadEscape, IntRange, TooDeep, TooMany}
use Rattle.aterm_text.specs.Bytes.{class_of, begins_term, misplaced, is_real_mark}
use Rattle.aterm_text.specs.Grammar.{term}
use Rattle.aterm_text.specs.Numbers.{with_digit, integer_of}
use Rattle.aterm_text.specs.inner.Open.{closing_byte_of, with_item}

-- The open brackets, the innermost first; how many terms have begun; what was read last.
pub data State : Type 0 where
  state : List Open → ℕ → Last → State

-- what comes next, or the offset and the kind of a fault
abbrev pub Next : Type 0
Next = Result State (ℕ × TermFaultKind)

-- the next state where the limits allow that a term begins
abbrev pub limited : Bool → List Open → ℕ → ℕ → Next → Next
limited b stack begun at next =
    if b && nat_le 512 (length stack) then Err (at, TooDeep) else (
    if b && nat_le (2 ^ 20) begun then Err (at, TooMany) else next)

-- an opening bracket
abbrev pub opened : List Open → ℕ → Opener → Next
opened stack begun opener = Ok (state (record { opener = opener; items = [] } ∷ stack) begun last.Opening)

-- the first byte of a term
abbrev pub begin_within : ByteClass → List Open → ℕ → ℕ → ℕ → Next
begin_within Letter stack begun at c = Ok (state stack begun (last.Symbol (c ∷ [])))
begin_within Digit stack begun at c = Ok (state stack begun (last.Number (record { negative = false; magnitude = c - 48; start = at })))
begin_within Minus stack begun at c = Ok (state stack begun (last.Minus at))
begin_within Quote stack begun at c = Ok (state stack begun (last.Inside []))
begin_within Parenthesis stack begun at c = opened stack begun Tuple
begin_within Bracket stack begun at c = opened stack begun Items
begin_within k stack begun at c = Err (at, misplaced k)

-- a byte with which a term is to begin
abbrev pub begin : Bool → ByteClass → List Open → ℕ → ℕ → ℕ → Next
begin b k stack begun at c = if begins_term k then limited b stack begun at (begin_within k stack (begun + 1) at c) else Err (at, misplaced k)

-- what is whole behind a closing bracket
abbrev pub closed_as : Opener → List Term → Last
closed_as (Call name) items = last.Body (kind.Apply name items)
closed_as Tuple items = last.Body (kind.Tuple items)
closed_as Items items = last.Body (kind.Items items)
closed_as (Annotations k) items = last.Whole (term k items)

-- a closing bracket
abbrev pub close : List Open → ℕ → ℕ → ℕ → Next
close [] begun at c = Err (at, Unexpected)
close (o ∷ below) begun at c = if c == closing_byte_of o.opener then Ok (state below begun (closed_as o.opener o.items)) else Err (at, Unexpected)

-- a comma
abbrev pub comma : List Open → ℕ → ℕ → Term → Next
comma [] begun at t = Err (at, Unexpected)
comma (o ∷ below) begun at t = Ok (state (with_item o t ∷ below) begun last.Start)

-- a closing bracket behind one more item
abbrev pub close_after : List Open → ℕ → ℕ → Term → ℕ → Next
close_after [] begun at t c = Err (at, Unexpected)
close_after (o ∷ below) begun at t c = close (with_item o t ∷ below) begun at c

-- a byte behind a whole term
abbrev pub after : ByteClass → List Open → ℕ → ℕ → Term → ℕ → Next
after Blank stack begun at t c = Ok (state stack begun (last.Whole t))
after Comma stack begun at t c = comma stack begun at t
after Closing stack begun at t c = close_after stack begun at t c
after _ stack begun at t c = Err (at, Unexpected)

-- a byte behind a term that annotations may follow
abbrev pub after_body : ByteClass → List Open → ℕ → ℕ → Kind → ℕ → Next
after_body Blank stack begun at k c = Ok (state stack begun (last.Body k))
after_body Brace stack begun at k c = opened stack begun (Annotations k)
after_body class stack begun at k c = after class stack begun at (term k []) c

-- a byte behind nothing or a comma
abbrev pub at_start : Bool → ByteClass → List Open → ℕ → ℕ → ℕ → Next
at_start b Blank stack begun at c = Ok (state stack begun last.Start)
at_start b k stack begun at c = begin b k stack begun at c

-- a byte behind an opening bracket
abbrev pub at_opening : Bool → ByteClass → List Open → ℕ → ℕ → ℕ → Next
at_opening b Blank stack begun at c = Ok (state stack begun last.Opening)
at_opening b Closing stack begun at c = close stack begun at c
at_opening b k stack begun at c = begin b k stack begun at c

-- a byte behind a symbol
abbrev pub after_name : ByteClass → List Open → ℕ → ℕ → List ℕ → ℕ → Next
after_name Blank stack begun at name c = Ok (state stack begun (last.Name name))
after_name Parenthesis stack begun at name c = opened stack begun (Call name)
after_name k stack begun at name c = after_body k stack begun at (kind.Apply name []) c

-- a byte behind a part of a symbol
abbrev pub in_symbol : ByteClass → List Open → ℕ → ℕ → List ℕ → ℕ → Next
in_symbol Letter stack begun at name c = Ok (state stack begun (last.Symbol (name ++ c ∷ [])))
in_symbol Digit stack begun at name c = Ok (state stack begun (last.Symbol (name ++ c ∷ [])))
in_symbol Minus stack begun at name c = Ok (state stack begun (last.Symbol (name ++ c ∷ [])))
in_symbol Sign stack begun at name c = Ok (state stack begun (last.Symbol (name ++ c ∷ [])))
in_symbol k stack begun at name c = after_name k stack begun at name c

-- a byte inside quotes
abbrev pub in_quotes : List Open → ℕ → ℕ → List ℕ → ℕ → Next
in_quotes stack begun at chars c =
    if c == 34 then Ok (state stack begun (last.Quoted chars)) else (
    if c == 92 then Ok (state stack begun (last.Backslash (record { chars = chars; start = at }))) else
    Ok (state stack begun (last.Inside (chars ++ c ∷ []))))

-- a byte behind a backslash
abbrev pub escaped : List Open → ℕ → Escape → ℕ → Option ℕ → Next
escaped stack begun e c None = if is_low_octal c then Ok (state stack begun (last.OneOctal e (c - 48))) else Err (e.start, BadEscape)
escaped stack begun e c (Some value) = Ok (state stack begun (last.Inside (e.chars ++ value ∷ [])))

abbrev pub in_escape : List Open → ℕ → Escape → ℕ → Next
in_escape stack begun e c = escaped stack begun e c (short_escape c)

-- a byte behind one octal digit, and behind two
abbrev pub in_one_octal : List Open → ℕ → Escape → ℕ → ℕ → Next
in_one_octal stack begun e value c = if is_octal c then Ok (state stack begun (last.TwoOctals e (value * 8 + (c - 48)))) else Err (e.start, BadEscape)

abbrev pub in_two_octals : List Open → ℕ → Escape → ℕ → ℕ → Next
in_two_octals stack begun e value c =
    if is_octal c then Ok (state stack begun (last.Inside (e.chars ++ (value * 8 + (c - 48)) ∷ []))) else Err (e.start, BadEscape)

-- a byte behind a closing quote
abbrev pub after_quotes : ByteClass → List Open → ℕ → ℕ → List ℕ → ℕ → Next
after_quotes Blank stack begun at chars c = Ok (state stack begun (last.Quoted chars))
after_quotes Parenthesis stack begun at chars c = opened stack begun (Call chars)
after_quotes k stack begun at chars c = after_body k stack begun at (kind.Str chars) c

-- a byte behind the sign of a number
abbrev pub after_minus : ByteClass → List Open → ℕ → ℕ → ℕ → ℕ → Next
after_minus Digit stack begun at start c = Ok (state stack begun (last.Number (record { negative = true; magnitude = c - 48; start = start })))
after_minus _ stack begun at start c = Err (at, Unexpected)

-- a byte behind a number that goes on no further
abbrev pub after_integer : Option ℤ → ByteClass → List Open → ℕ → ℕ → ℕ → ℕ → Next
after_integer None k stack begun at start c = Err (start, IntRange)
after_integer (Some n) k stack begun at start c = after_body k stack begun at (kind.Int n) c

abbrev pub after_number : ByteClass → List Open → ℕ → ℕ → Number → ℕ → Next
after_number k stack begun at n c =
    if is_real_mark c then Err (n.start, Real) else (
    if c == 58 then Err (n.start, Blob) else after_integer (integer_of n) k stack begun at n.start c)

-- a byte behind digits
abbrev pub in_number : ByteClass → List Open → ℕ → ℕ → Number → ℕ → Next
in_number Digit stack begun at n c = Ok (state stack begun (last.Number (with_digit n c)))
in_number k stack begun at n c = after_number k stack begun at n c

-- one byte of this class
abbrev pub step_by : Bool → Last → ByteClass → List Open → ℕ → ℕ → ℕ → Next
step_by b last.Start k stack begun at c = at_start b k stack begun at c
step_by b last.Opening k stack begun at c = at_opening b k stack begun at c
step_by b (last.Symbol name) k stack begun at c = in_symbol k stack begun at name c
step_by b (last.Name name) k stack begun at c = after_name k stack begun at name c
step_by b (last.Inside chars) k stack begun at c = in_quotes stack begun at chars c
step_by b (last.Backslash e) k stack begun at c = in_escape stack begun e c
step_by b (last.OneOctal e value) k stack begun at c = in_one_octal stack begun e value c
step_by b (last.TwoOctals e value) k stack begun at c = in_two_octals stack begun e value c
step_by b (last.Quoted chars) k stack begun at c = after_quotes k stack begun at chars c
step_by b (last.Minus start) k stack begun at c = after_minus k stack begun at start c
step_by b (last.Number n) k stack begun at c = in_number k stack begun at n c
step_by b (last.Body body) k stack begun at c = after_body k stack begun at body c
step_by b (last.Whole t) k stack begun at c = after k stack begun at t c

-- one byte, at an offset
abbrev pub step : Bool → State → ℕ → ℕ → Next
step b (state stack begun l) at c = step_by b l (class_of c) stack begun at c

-- what comes after the next state
infixl 10 ◌>>=◌
abbrev pub ◌>>=◌ : {A B E : Type 0} → Result A E → (A → Result B E) → Result B E
(Ok x) >>= f = f x
(Err e) >>= f = Err e

-- all bytes, from a state and an offset on
abbrev pub run : Bool → State → ℕ → List ℕ → Next
run b s at [] = Ok s
run b s at (c ∷ bytes) = step b s at c >>= λ next. run b next (at + 1) bytes

-- the term that was read last, at the end of the text
abbrev pub ended_number : Option ℤ → ℕ → Result Term (ℕ × TermFaultKind)
ended_number None start = Err (start, IntRange)
ended_number (Some n) start = Ok (term (kind.Int n) [])

abbrev pub ended : Last → ℕ → Result Term (ℕ × TermFaultKind)
ended (last.Symbol name) at = Ok (term (kind.Apply name []) [])
ended (last.Name name) at = Ok (term (kind.Apply name []) [])
ended (last.Backslash e) at = Err (e.start, BadEscape)
ended (last.OneOctal e value) at = Err (e.start, BadEscape)
ended (last.TwoOctals e value) at = Err (e.start, BadEscape)
ended (last.Quoted chars) at = Ok (term (kind.Str chars) [])
ended (last.Number n) at = ended_number (integer_of n) n.start
ended (last.Body k) at = Ok (term k [])
ended (last.Whole t) at = Ok t
ended _ at = Err (at, Unexpected)

-- the term, where no bracket is open
abbrev pub outermost : List Open → ℕ → Term → Result Term (ℕ × TermFaultKind)
outermost [] at t = Ok t
outermost (o ∷ below) at t = Err (at, Unexpected)

abbrev pub finish : State → ℕ → Result Term (ℕ × TermFaultKind)
finish (state stack begun l) at = ended l at >>= outermost stack at

-- nothing has been read
abbrev pub nothing : State
nothing = state [] 0 last.Start

-- what the bytes give, with the limits
abbrev pub reading : List ℕ → Result Term (ℕ × TermFaultKind)
reading bytes = run true nothing 0 bytes >>= λ s. finish s (length bytes)
