-- Runs over blanks, symbols, texts and numbers.
use Rattle.std.proofs.Common.{◌≡◌, ℕ, ◌+◌, ◌-◌, ◌*◌, ◌<◌, ◌≤◌, ◌^◌, Bool, true, false, List, [], ◌∷◌, ◌++◌, length, map, Option, Some, None, Ok, Err, pos, refl, sym, ap, ◌∙◌, subst, inl, inr, append-nil, append_assoc, arith, zero, suc}
use Rattle.std.proofs.lemmas.Bool.Decides.{nat_tests}
use Rattle.std.proofs.lemmas.Option.{same_Some}
use Rattle.std.specs.List.{AllByRecursion}
use Rattle.std.specs.Int.Digits.{number_from_digits_after}
use Rattle.std.specs.Prelude.{ℤ, negsuc, ◌⊎◌, ◌&&◌, ◌==◌, not, IsTrue, if◌then◌else◌, nat_lt, nat_le, option_map}
use Rattle.flow_term.specs.declared.term.Term.{Term}
use Rattle.flow_term.specs.declared.term.Kind.{Kind}
use Rattle.flow_term.specs.declared.term.Kind.TheVariants as kind
use Rattle.quoted_text.specs.Escapes.{is_low_octal, is_octal, octal_value, short_escape, IsEscape, short, octal}
use Rattle.quoted_text.specs.Quotes.{is_plain, IsPiece, IsInside, IsQuoted}
use Rattle.quoted_text.proofs.Escapes.{low_first, low_is_octal, octal_long}
use Rattle.aterm_text.specs.declared.class.ByteClass.{ByteClass}
use Rattle.aterm_text.specs.declared.class.ByteClass.TheVariants.{Letter, Digit, Minus, Sign, Blank, Quote, Comma, Parenthesis, Bracket, Brace, Closing}
use Rattle.aterm_text.specs.declared.number.Number.{Number}
use Rattle.aterm_text.specs.declared.open.Open.{Open}
use Rattle.aterm_text.specs.declared.open.Opener.{Opener}
use Rattle.aterm_text.specs.declared.open.Opener.TheVariants.{Call, Annotations}
use Rattle.aterm_text.specs.declared.reader.state.Escape.{Escape}
use Rattle.aterm_text.specs.declared.reader.state.Last.{Last}
use Rattle.aterm_text.specs.declared.reader.state.Last.TheVariants as last
use Rattle.aterm_text.specs.declared.refusal.TermFaultKind.TheVariants.{Real, Blob, TooDeep, TooMany, BadEscape}
use Rattle.aterm_text.specs.Bytes.{class_of, is_in_symbol, begins_term, misplaced}
use Rattle.aterm_text.specs.Grammar.{term, IsBlank, IsSymbol, IsDigits, number_of, signed, sign_text, IsNumeral, IsI64}
use Rattle.aterm_text.specs.inner.Machine.{State, state, Next, limited, begin_within, begin, after_body, comma, close_after, after_number, after_integer, in_quotes, escaped, in_one_octal, in_two_octals, step, step_by, run, ◌>>=◌}
use Rattle.aterm_text.specs.Numbers.{more_digits, with_digit, integer_within, integer_of}
use Rattle.aterm_text.proofs.Classes.{class_quote, class_minus, class_parenthesis, class_brace, ends_number, not_real, not_colon}

-- ** runs over two pieces

after_both : (b : Bool) (at n m : ℕ) (xs ys : List ℕ) → n ≡ m → ((next : State) → run b next at (xs ++ ys) ≡ (run b next at xs >>= λ mid. run b mid n ys)) → (o : Next)
    → (o >>= λ next. run b next at (xs ++ ys)) ≡ ((o >>= λ next. run b next at xs) >>= λ mid. run b mid m ys)
after_both b at n m xs ys e h (Err f) = refl
after_both b at n m xs ys e h (Ok next) = h next ∙ ap (λ (k : ℕ). run b next at xs >>= λ mid. run b mid k ys) e

pub run_append : (b : Bool) (s : State) (at : ℕ) (xs ys : List ℕ) → run b s at (xs ++ ys) ≡ (run b s at xs >>= λ mid. run b mid (at + length xs) ys)
run_append b s at [] ys = ap (λ (k : ℕ). run b s k ys) (omega arith)
run_append b s at (c ∷ xs) ys = after_both b (at + 1) (at + 1 + length xs) (at + length (c ∷ xs)) xs ys (omega arith) (λ next. run_append b next (at + 1) xs ys) (step b s at c)

-- the same where the first piece leads to a state
pub run_on : (b : Bool) (s mid : State) (at : ℕ) (xs ys : List ℕ) → run b s at xs ≡ Ok mid → run b s at (xs ++ ys) ≡ run b mid (at + length xs) ys
run_on b s mid at xs ys h = run_append b s at xs ys ∙ ap (λ (o : Next). o >>= λ next. run b next (at + length xs) ys) h

-- a run whose first byte has this class
pub byte_on : (b : Bool) (stack : List Open) (begun : ℕ) (l : Last) (at c : ℕ) (k : ByteClass) (o : Next) (bytes : List ℕ) → class_of c ≡ k → step_by b l k stack begun at c ≡ o
    → run b (state stack begun l) at (c ∷ bytes) ≡ (o >>= λ next. run b next (at + 1) bytes)
byte_on b stack begun l at c k o bytes h e = ap (λ (x : Next). x >>= λ next. run b next (at + 1) bytes) (ap (λ (j : ByteClass). step_by b l j stack begun at c) h ∙ e)

-- ** blanks

-- Blanks lead from states of a kind to states of that kind, and the byte behind them to one answer.
pub record Skips (b : Bool) (P : Last → Type 0) (stack : List Open) (begun : ℕ) (m : Last) (at c : ℕ) : Type 0 where
  pub next : Last
  pub steps : step_by b m Blank stack begun at c ≡ Ok (state stack begun next)
  pub kept : P next

pub skip_then : (b : Bool) (P : Last → Type 0) (stack : List Open) (begun : ℕ) → ((m : Last) (at c : ℕ) → class_of c ≡ Blank → P m → Skips b P stack begun m at c) → (c : ℕ) (tail : List ℕ) (o : Next)
    → ((m : Last) (at : ℕ) → P m → step b (state stack begun m) at c ≡ o) → (blank : List ℕ) → IsBlank blank → (l : Last) → P l → (at : ℕ)
    → run b (state stack begun l) at (blank ++ c ∷ tail) ≡ (o >>= λ next. run b next (at + length blank + 1) tail)
skip_then b P stack begun skips c tail o ends [] h l p at = ap (λ (x : Next). x >>= λ next. run b next (at + 1) tail) (ends l at p) ∙ ap (λ (k : ℕ). o >>= λ next. run b next k tail) (omega arith)
skip_then b P stack begun skips c tail o ends (d ∷ blank) h l p at =
    let s : Skips b P stack begun l at d = skips l at d h.0 p in
    byte_on b stack begun l at d Blank (Ok (state stack begun s.next)) (blank ++ c ∷ tail) h.0 s.steps
    ∙ skip_then b P stack begun skips c tail o ends blank h.1 s.next s.kept (at + 1)
    ∙ ap (λ (k : ℕ). o >>= λ next. run b next k tail) (omega arith)

-- blanks to the end
pub record SkipsAll (b : Bool) (P : Last → Type 0) (stack : List Open) (begun : ℕ) (l : Last) (at : ℕ) (blank : List ℕ) : Type 0 where
  pub next : Last
  pub runs : run b (state stack begun l) at blank ≡ Ok (state stack begun next)
  pub kept : P next

pub skip_all : (b : Bool) (P : Last → Type 0) (stack : List Open) (begun : ℕ) → ((m : Last) (at c : ℕ) → class_of c ≡ Blank → P m → Skips b P stack begun m at c)
    → (blank : List ℕ) → IsBlank blank → (l : Last) → P l → (at : ℕ) → SkipsAll b P stack begun l at blank
skip_all b P stack begun skips [] h l p at = record { next = l; runs = refl; kept = p }
skip_all b P stack begun skips (d ∷ blank) h l p at =
    let s : Skips b P stack begun l at d = skips l at d h.0 p in
    let tail : SkipsAll b P stack begun s.next (at + 1) blank = skip_all b P stack begun skips blank h.1 s.next s.kept (at + 1) in
    record { next = tail.next; runs = byte_on b stack begun l at d Blank (Ok (state stack begun s.next)) blank h.0 s.steps ∙ tail.runs; kept = tail.kept }

-- where a term may begin
abbrev pub CanBegin : Last → Type 0
CanBegin last.Start = Unit {0}
CanBegin last.Opening = Unit {0}
CanBegin _ = ⊥

blank_begin : (b : Bool) (l : Last) (stack : List Open) (begun at c : ℕ) → CanBegin l → step_by b l Blank stack begun at c ≡ Ok (state stack begun l)
blank_begin b last.Start stack begun at c h = refl
blank_begin b last.Opening stack begun at c h = refl
blank_begin b _ stack begun at c h = absurd h

-- blanks before a term change nothing
pub skip_before : (b : Bool) (l : Last) (stack : List Open) (begun at : ℕ) (blank bytes : List ℕ) → CanBegin l → IsBlank blank
    → run b (state stack begun l) at (blank ++ bytes) ≡ run b (state stack begun l) (at + length blank) bytes
skip_before b l stack begun at [] bytes h k = ap (λ (n : ℕ). run b (state stack begun l) n bytes) (omega arith)
skip_before b l stack begun at (c ∷ blank) bytes h k =
    byte_on b stack begun l at c Blank (Ok (state stack begun l)) (blank ++ bytes) k.0 (blank_begin b l stack begun at c h)
    ∙ skip_before b l stack begun (at + 1) blank bytes h k.1
    ∙ ap (λ (n : ℕ). run b (state stack begun l) n bytes) (omega arith)

-- ** the first byte of a term

pub begins : (b : Bool) (l : Last) (k : ByteClass) (stack : List Open) (begun at c : ℕ) → CanBegin l → begins_term k ≡ true → step_by b l k stack begun at c ≡ begin b k stack begun at c
begins b last.Start Letter stack begun at c h g = refl
begins b last.Start Digit stack begun at c h g = refl
begins b last.Start Minus stack begun at c h g = refl
begins b last.Start Quote stack begun at c h g = refl
begins b last.Start Parenthesis stack begun at c h g = refl
begins b last.Start Bracket stack begun at c h g = refl
begins b last.Opening Letter stack begun at c h g = refl
begins b last.Opening Digit stack begun at c h g = refl
begins b last.Opening Minus stack begun at c h g = refl
begins b last.Opening Quote stack begun at c h g = refl
begins b last.Opening Parenthesis stack begun at c h g = refl
begins b last.Opening Bracket stack begun at c h g = refl
begins b last.Start _ stack begun at c h g = cc
begins b last.Opening _ stack begun at c h g = cc
begins b _ k stack begun at c h g = absurd h

-- the limits, where they are kept, allow one more term
abbrev pub HasRoom : Bool → List Open → ℕ → Type 0
HasRoom b stack begun = b ≡ true → (length stack < 512) × (begun < 2 ^ 20)

not_le : (m n : ℕ) → n < m → nat_le m n ≡ false
not_le m n h = grind (arith, nat_tests)

pub limited_room : (b : Bool) (stack : List Open) (begun at : ℕ) (next : Next) → HasRoom b stack begun → limited b stack begun at next ≡ next
limited_room false stack begun at next h = refl
limited_room true stack begun at next h =
    ap (λ (x : Bool). if x then Err (at, TooDeep) else (if nat_le (2 ^ 20) begun then Err (at, TooMany) else next)) (not_le 512 (length stack) (h refl).0)
    ∙ ap (λ (x : Bool). if x then Err (at, TooMany) else next) (not_le (2 ^ 20) begun (h refl).1)

pub begins_with : (b : Bool) (l : Last) (k : ByteClass) (stack : List Open) (begun at c : ℕ) (bytes : List ℕ) → CanBegin l → begins_term k ≡ true → class_of c ≡ k → HasRoom b stack begun
    → run b (state stack begun l) at (c ∷ bytes) ≡ (begin_within k stack (begun + 1) at c >>= λ next. run b next (at + 1) bytes)
begins_with b l k stack begun at c bytes h g is room =
    byte_on b stack begun l at c k (begin_within k stack (begun + 1) at c) bytes is
    (begins b l k stack begun at c h g ∙ ap (λ (x : Bool). if x then limited b stack begun at (begin_within k stack (begun + 1) at c) else Err (at, misplaced k)) g ∙ limited_room b stack begun at (begin_within k stack (begun + 1) at c) room)

-- ** symbols

symbol_step : (b : Bool) (k : ByteClass) (stack : List Open) (begun at c : ℕ) (name : List ℕ) → IsTrue (is_in_symbol k) → step_by b (last.Symbol name) k stack begun at c ≡ Ok (state stack begun (last.Symbol (name ++ c ∷ [])))
symbol_step b Letter stack begun at c name h = refl
symbol_step b Digit stack begun at c name h = refl
symbol_step b Minus stack begun at c name h = refl
symbol_step b Sign stack begun at c name h = refl
symbol_step b _ stack begun at c name h = cc

symbol_on : (b : Bool) (stack : List Open) (begun at : ℕ) (name more : List ℕ) → AllByRecursion (λ d. IsTrue (is_in_symbol (class_of d))) more
    → run b (state stack begun (last.Symbol name)) at more ≡ Ok (state stack begun (last.Symbol (name ++ more)))
symbol_on b stack begun at name [] h = ap (λ (x : List ℕ). Ok (state stack begun (last.Symbol x))) (sym (append-nil name))
symbol_on b stack begun at name (c ∷ more) h =
    byte_on b stack begun (last.Symbol name) at c (class_of c) (Ok (state stack begun (last.Symbol (name ++ c ∷ [])))) more refl (symbol_step b (class_of c) stack begun at c name h.0)
    ∙ symbol_on b stack begun (at + 1) (name ++ c ∷ []) more h.1
    ∙ ap (λ (x : List ℕ). Ok (state stack begun (last.Symbol x))) (append_assoc name (c ∷ []) more)

pub reads_symbol : (b : Bool) (l : Last) (stack : List Open) (begun at : ℕ) (name : List ℕ) → CanBegin l → IsSymbol name → HasRoom b stack begun
    → run b (state stack begun l) at name ≡ Ok (state stack (begun + 1) (last.Symbol name))
reads_symbol b l stack begun at [] h is room = absurd is
reads_symbol b l stack begun at (c ∷ more) h is room =
    begins_with b l Letter stack begun at c more h refl is.0 room ∙ symbol_on b stack (begun + 1) (at + 1) (c ∷ []) more is.1

-- ** texts

plain_chosen : (x y : Bool) (A B C : Next) → (not x && not y) ≡ true → (if x then A else (if y then B else C)) ≡ C
plain_chosen true y A B C h = cc
plain_chosen false true A B C h = cc
plain_chosen false false A B C h = refl

pub plain_step : (stack : List Open) (begun at : ℕ) (chars : List ℕ) (c : ℕ) → is_plain c ≡ true → in_quotes stack begun at chars c ≡ Ok (state stack begun (last.Inside (chars ++ c ∷ [])))
plain_step stack begun at chars c h = plain_chosen (c == 34) (c == 92) _ _ _ h

first_octal : (stack : List Open) (begun : ℕ) (e : Escape) (a : ℕ) → is_low_octal a ≡ true → escaped stack begun e a (short_escape a) ≡ Ok (state stack begun (last.OneOctal e (a - 48)))
first_octal stack begun e a h = ap (escaped stack begun e a) (octal_long a (low_is_octal a h)) ∙ ap (λ (x : Bool). if x then Ok (state stack begun (last.OneOctal e (a - 48))) else Err (e.start, BadEscape)) h

second_octal : (stack : List Open) (begun : ℕ) (e : Escape) (value c : ℕ) → is_octal c ≡ true → in_one_octal stack begun e value c ≡ Ok (state stack begun (last.TwoOctals e (value * 8 + (c - 48))))
second_octal stack begun e value c h = ap (λ (x : Bool). if x then Ok (state stack begun (last.TwoOctals e (value * 8 + (c - 48)))) else Err (e.start, BadEscape)) h

third_octal : (stack : List Open) (begun : ℕ) (e : Escape) (value c : ℕ) → is_octal c ≡ true → in_two_octals stack begun e value c ≡ Ok (state stack begun (last.Inside (e.chars ++ (value * 8 + (c - 48)) ∷ [])))
third_octal stack begun e value c h =
    ap (λ (x : Bool). if x then Ok (state stack begun (last.Inside (e.chars ++ (value * 8 + (c - 48)) ∷ []))) else Err (e.start, BadEscape)) h

pub bound_ok : (o : Next) (f : State → Next) (q : State) → (o >>= f) ≡ Ok q → (s : State) × (o ≡ Ok s) × (f s ≡ Ok q)
bound_ok (Ok s) f q h = (s, refl, h)
bound_ok (Err e) f q h = cc

pub bind_is : (o : Next) (s : State) (f : State → Next) (p : Next) → o ≡ Ok s → f s ≡ p → (o >>= f) ≡ p
bind_is o s f p e h = ap (λ (x : Next). x >>= f) e ∙ h

escape_on : (b : Bool) (stack : List Open) (begun at : ℕ) (chars : List ℕ) (value : ℕ) (bytes : List ℕ) → IsEscape bytes value
    → run b (state stack begun (last.Inside chars)) at bytes ≡ Ok (state stack begun (last.Inside (chars ++ value ∷ [])))
escape_on b stack begun at chars value bytes (short c is e) =
    ap (run b (state stack begun (last.Inside chars)) at) e
    ∙ bind_is (escaped stack begun (record { chars = chars; start = at }) c (short_escape c)) (state stack begun (last.Inside (chars ++ value ∷ []))) (λ next. Ok next) (Ok (state stack begun (last.Inside (chars ++ value ∷ []))))
    (ap (escaped stack begun (record { chars = chars; start = at }) c) is) refl
escape_on b stack begun at chars value bytes (octal x y z hx hy hz v small e) =
    let esc : Escape = record { chars = chars; start = at } in
    ap (run b (state stack begun (last.Inside chars)) at) e
    ∙ bind_is (escaped stack begun esc x (short_escape x)) (state stack begun (last.OneOctal esc (x - 48))) (λ next. run b next (at + 1 + 1) (y ∷ z ∷ [])) (Ok (state stack begun (last.Inside (chars ++ value ∷ []))))
    (first_octal stack begun esc x (low_first x y z hx (omega (arith, v, small))))
    (bind_is (in_one_octal stack begun esc (x - 48) y) (state stack begun (last.TwoOctals esc ((x - 48) * 8 + (y - 48)))) (λ next. run b next (at + 1 + 1 + 1) (z ∷ [])) (Ok (state stack begun (last.Inside (chars ++ value ∷ []))))
    (second_octal stack begun esc (x - 48) y hy)
    (bind_is (in_two_octals stack begun esc ((x - 48) * 8 + (y - 48)) z) (state stack begun (last.Inside (chars ++ octal_value x y z ∷ []))) (λ next. Ok next) (Ok (state stack begun (last.Inside (chars ++ value ∷ []))))
    (third_octal stack begun esc ((x - 48) * 8 + (y - 48)) z hz)
    (ap (λ (n : ℕ). Ok (state stack begun (last.Inside (chars ++ n ∷ [])))) (sym v))))

piece_on : (b : Bool) (stack : List Open) (begun at : ℕ) (chars : List ℕ) (value : ℕ) (bytes : List ℕ) → IsPiece bytes value
    → run b (state stack begun (last.Inside chars)) at bytes ≡ Ok (state stack begun (last.Inside (chars ++ value ∷ [])))
piece_on b stack begun at chars value bytes (inl h) =
    ap (run b (state stack begun (last.Inside chars)) at) h.0
    ∙ bind_is (in_quotes stack begun at chars value) (state stack begun (last.Inside (chars ++ value ∷ []))) (λ next. Ok next) (Ok (state stack begun (last.Inside (chars ++ value ∷ [])))) (plain_step stack begun at chars value h.1) refl
piece_on b stack begun at chars value bytes (inr h) = escape_on b stack begun at chars value bytes h

pub inside_on : (b : Bool) (stack : List Open) (begun at : ℕ) (chars text bytes : List ℕ) → IsInside bytes text
    → run b (state stack begun (last.Inside chars)) at bytes ≡ Ok (state stack begun (last.Inside (chars ++ text)))
inside_on b stack begun at chars [] bytes h =
    ap (run b (state stack begun (last.Inside chars)) at) h ∙ ap (λ (x : List ℕ). Ok (state stack begun (last.Inside x))) (sym (append-nil chars))
inside_on b stack begun at chars (c ∷ text) bytes h =
    ap (run b (state stack begun (last.Inside chars)) at) h.4
    ∙ run_on b (state stack begun (last.Inside chars)) (state stack begun (last.Inside (chars ++ c ∷ []))) at h.0 h.1 (piece_on b stack begun at chars c h.0 h.2)
    ∙ inside_on b stack begun (at + length h.0) (chars ++ c ∷ []) text h.1 h.3
    ∙ ap (λ (x : List ℕ). Ok (state stack begun (last.Inside x))) (append_assoc chars (c ∷ []) text)

-- a quote, and then what stands inside
pub reads_inside : (b : Bool) (l : Last) (stack : List Open) (begun at : ℕ) (inside text : List ℕ) → CanBegin l → IsInside inside text → HasRoom b stack begun
    → run b (state stack begun l) at (34 ∷ inside) ≡ Ok (state stack (begun + 1) (last.Inside text))
reads_inside b l stack begun at inside text h is room =
    begins_with b l Quote stack begun at 34 inside h refl class_quote room ∙ inside_on b stack (begun + 1) (at + 1) [] text inside is

pub reads_quoted : (b : Bool) (l : Last) (stack : List Open) (begun at : ℕ) (bytes text : List ℕ) → CanBegin l → IsQuoted bytes text → HasRoom b stack begun
    → run b (state stack begun l) at bytes ≡ Ok (state stack (begun + 1) (last.Quoted text))
reads_quoted b l stack begun at bytes text h is room =
    ap (run b (state stack begun l) at) is.2
    ∙ run_on b (state stack begun l) (state stack (begun + 1) (last.Inside text)) at (34 ∷ is.0) (34 ∷ []) (reads_inside b l stack begun at is.0 text h is.1 room)

-- ** numbers

-- a capped value: exact, or both are no i64
abbrev pub Capped : ℕ → ℕ → Type 0
Capped m v = (m ≡ v) ⊎ ((2 ^ 63 < m) × (2 ^ 63 < v))

abbrev more_chosen : Bool → ℕ → ℕ → ℕ
more_chosen x m d = if x then m * 10 + d else 2 ^ 64 - 1

capped_chosen : (x : Bool) (m v d : ℕ) → nat_lt m (2 ^ 60) ≡ x → Capped m v → Capped (more_chosen x m d) (v * 10 + d)
capped_chosen true m v d h (inl e) = inl (ap (λ (n : ℕ). n * 10 + d) e)
capped_chosen true m v d h (inr g) = absurd (let small : m < 2 ^ 60 = grind (arith, nat_tests) in omega arith)
capped_chosen false m v d h (inl e) = let large : 2 ^ 60 ≤ m = grind (arith, nat_tests) in inr (omega arith, omega arith)
capped_chosen false m v d h (inr g) = inr (omega arith, omega arith)

pub capped_more : (m v c : ℕ) → Capped m v → Capped (more_digits m c) (v * 10 + (c - 48))
capped_more m v c h = capped_chosen (nat_lt m (2 ^ 60)) m v (c - 48) refl h

abbrev pub number_after : Number → List ℕ → Number
number_after n [] = n
number_after n (c ∷ more) = number_after (with_digit n c) more

number_on : (b : Bool) (stack : List Open) (begun at : ℕ) (n : Number) (more : List ℕ) → AllByRecursion (λ c. class_of c ≡ Digit) more
    → run b (state stack begun (last.Number n)) at more ≡ Ok (state stack begun (last.Number (number_after n more)))
number_on b stack begun at n [] h = refl
number_on b stack begun at n (c ∷ more) h =
    byte_on b stack begun (last.Number n) at c Digit (Ok (state stack begun (last.Number (with_digit n c)))) more h.0 refl ∙ number_on b stack begun (at + 1) (with_digit n c) more h.1

-- what is known of a number that has been read
pub record NumberIs (n : Number) (negative : Bool) (value start : ℕ) : Type 0 where
  pub sign : n.negative ≡ negative
  pub capped : Capped n.magnitude value
  pub place : n.start ≡ start

pub number_after_is : (n : Number) (negative : Bool) (value start : ℕ) (more : List ℕ) → NumberIs n negative value start → NumberIs (number_after n more) negative (number_from_digits_after 10 value (map (λ c. c - 48) more)) start
number_after_is n negative value start [] h = h
number_after_is n negative value start (c ∷ more) h =
    number_after_is (with_digit n c) negative (value * 10 + (c - 48)) start more (record { sign = h.sign; capped = capped_more n.magnitude value c h.capped; place = h.place })

pub record ReadsNumeral (b : Bool) (s : State) (at : ℕ) (bytes : List ℕ) (stack : List Open) (begun : ℕ) (negative : Bool) (digits : List ℕ) : Type 0 where
  pub number : Number
  pub runs : run b s at bytes ≡ Ok (state stack begun (last.Number number))
  pub is : NumberIs number negative (number_of digits) at

zero_more : (n : ℕ) → n ≡ 0 * 10 + n
zero_more n = omega arith

reads_signed : (b : Bool) (l : Last) (stack : List Open) (begun at : ℕ) (negative : Bool) (digits : List ℕ) → CanBegin l → IsDigits digits → HasRoom b stack begun
    → ReadsNumeral b (state stack begun l) at (sign_text negative ++ digits) stack (begun + 1) negative digits
reads_signed b l stack begun at negative [] h is room = absurd (omega (arith, is.some))
reads_signed b l stack begun at false (c ∷ more) h is room =
    let first : Number = record { negative = false; magnitude = c - 48; start = at } in
    record {
      number = number_after first more;
      runs = begins_with b l Digit stack begun at c more h refl is.digits.0 room ∙ number_on b stack (begun + 1) (at + 1) first more is.digits.1;
      is = number_after_is first false (0 * 10 + (c - 48)) at more (record { sign = refl; capped = inl (zero_more (c - 48)); place = refl });
    }
reads_signed b l stack begun at true (c ∷ more) h is room =
    let first : Number = record { negative = true; magnitude = c - 48; start = at } in
    record {
      number = number_after first more;
      runs =
          begins_with b l Minus stack begun at 45 (c ∷ more) h refl class_minus room
          ∙ byte_on b stack (begun + 1) (last.Minus at) (at + 1) c Digit (Ok (state stack (begun + 1) (last.Number first))) more is.digits.0 refl
          ∙ number_on b stack (begun + 1) (at + 1 + 1) first more is.digits.1;
      is = number_after_is first true (0 * 10 + (c - 48)) at more (record { sign = refl; capped = inl (zero_more (c - 48)); place = refl });
    }

pub reads_numeral : (b : Bool) (l : Last) (stack : List Open) (begun at : ℕ) (bytes : List ℕ) (n : ℤ) (is : IsNumeral bytes n) → CanBegin l → HasRoom b stack begun
    → ReadsNumeral b (state stack begun l) at bytes stack (begun + 1) is.negative is.digits
reads_numeral b l stack begun at bytes n is h room =
    subst (λ (xs : List ℕ). ReadsNumeral b (state stack begun l) at xs stack (begun + 1) is.negative is.digits) (sym is.whole) (reads_signed b l stack begun at is.negative is.digits h is.are_digits room)

-- the integer of a number, where it is one
abbrev pub IntegerIs : Option ℤ → ℤ → Type 0
IntegerIs o n = ((o ≡ Some n) × IsI64 n) ⊎ ((o ≡ None) × ¬ IsI64 n)

lt_true : (m n : ℕ) → m < n → nat_lt m n ≡ true
lt_true m n h = grind (arith, nat_tests)

pub lt_false : (m n : ℕ) → n ≤ m → nat_lt m n ≡ false
lt_false m n h = grind (arith, nat_tests)

chosen_true : (x : Bool) (n : ℤ) → x ≡ true → (if x then Some n else None) ≡ Some n
chosen_true x n h = rw h refl

chosen_false : (x : Bool) (n : ℤ) → x ≡ false → (if x then Some n else None) ≡ None
chosen_false x n h = rw h refl

exact_integer : (negative : Bool) (m : ℕ) (x : Bool) → nat_lt m (2 ^ 63) ≡ x → IntegerIs (integer_within negative m) (signed negative m)
exact_integer false m true h = inl (chosen_true (nat_lt m (2 ^ 63)) (pos m) h, grind (arith, nat_tests))
exact_integer false m false h = inr (chosen_false (nat_lt m (2 ^ 63)) (pos m) h, λ g. let k = lt_true m (2 ^ 63) g in cc)
exact_integer true zero x h = inl (refl, omega arith)
exact_integer true (suc m) x h = below m (nat_lt m (2 ^ 63)) refl
  where
    below : (m : ℕ) (y : Bool) → nat_lt m (2 ^ 63) ≡ y → IntegerIs (integer_within true (suc m)) (signed true (suc m))
    below m true h = inl (chosen_true (nat_lt m (2 ^ 63)) (negsuc m) h, grind (arith, nat_tests))
    below m false h = inr (chosen_false (nat_lt m (2 ^ 63)) (negsuc m) h, λ g. let k = lt_true m (2 ^ 63) g in cc)

large_none : (negative : Bool) (m : ℕ) → 2 ^ 63 < m → integer_within negative m ≡ None
large_none false m h = chosen_false (nat_lt m (2 ^ 63)) (pos m) (lt_false m (2 ^ 63) (omega arith))
large_none true zero h = absurd (omega arith)
large_none true (suc m) h = chosen_false (nat_lt m (2 ^ 63)) (negsuc m) (lt_false m (2 ^ 63) (omega arith))

large_integer : (negative : Bool) (v : ℕ) → 2 ^ 63 < v → ¬ IsI64 (signed negative v)
large_integer false v h = λ g. omega arith
large_integer true zero h = absurd (omega arith)
large_integer true (suc v) h = λ g. omega arith

within_is : (negative : Bool) (m v : ℕ) → Capped m v → IntegerIs (integer_within negative m) (signed negative v)
within_is negative m v (inl e) = subst (λ (n : ℕ). IntegerIs (integer_within negative m) (signed negative n)) e (exact_integer negative m (nat_lt m (2 ^ 63)) refl)
within_is negative m v (inr h) = inr (large_none negative m h.0, large_integer negative v h.1)

pub integer_is : (n : Number) (negative : Bool) (value start : ℕ) → NumberIs n negative value start → IntegerIs (integer_of n) (signed negative value)
integer_is n negative value start h = subst (λ (x : Bool). IntegerIs (integer_within x n.magnitude) (signed negative value)) (sym h.sign) (within_is negative n.magnitude value h.capped)

-- ** what stands before annotations, a comma or a closing bracket

-- the body that was read last, and the whole term
abbrev pub body_of : Last → Option Kind
body_of (last.Symbol name) = Some (kind.Apply name [])
body_of (last.Name name) = Some (kind.Apply name [])
body_of (last.Quoted chars) = Some (kind.Str chars)
body_of (last.Number n) = option_map kind.Int (integer_of n)
body_of (last.Body k) = Some k
body_of _ = None

abbrev pub whole_of : Last → Option Term
whole_of (last.Whole t) = Some t
whole_of l = option_map (λ k. term k []) (body_of l)

abbrev pub HasBody : Kind → Last → Type 0
HasBody k l = body_of l ≡ Some k

abbrev pub IsWhole : Term → Last → Type 0
IsWhole t l = whole_of l ≡ Some t

integer_end : (o : Option ℤ) (k : Kind) (class : ByteClass) (stack : List Open) (begun at start c : ℕ) → option_map kind.Int o ≡ Some k → after_integer o class stack begun at start c ≡ after_body class stack begun at k c
integer_end None k class stack begun at start c h = cc
integer_end (Some n) k class stack begun at start c h = ap (λ (j : Kind). after_body class stack begun at j c) (same_Some _ _ h)

pub number_end : (n : Number) (k : Kind) (class : ByteClass) (stack : List Open) (begun at c : ℕ) → class_of c ≡ class → ends_number class ≡ true → HasBody k (last.Number n)
    → after_number class stack begun at n c ≡ after_body class stack begun at k c
number_end n k class stack begun at c is ends h =
    ap (λ (x : Bool). if x then Err (n.start, Real) else (if c == 58 then Err (n.start, Blob) else after_integer (integer_of n) class stack begun at n.start c)) (not_real c class is ends)
    ∙ ap (λ (x : Bool). if x then Err (n.start, Blob) else after_integer (integer_of n) class stack begun at n.start c) (not_colon c class is ends)
    ∙ integer_end (integer_of n) k class stack begun at n.start c h

blank_body : (b : Bool) (k : Kind) (stack : List Open) (begun : ℕ) (m : Last) (at c : ℕ) → class_of c ≡ Blank → HasBody k m → Skips b (HasBody k) stack begun m at c
blank_body b k stack begun (last.Symbol n) at c is h = record { next = last.Name n; steps = refl; kept = h }
blank_body b k stack begun (last.Name n) at c is h = record { next = last.Name n; steps = refl; kept = h }
blank_body b k stack begun (last.Quoted n) at c is h = record { next = last.Quoted n; steps = refl; kept = h }
blank_body b k stack begun (last.Number n) at c is h = record { next = last.Body k; steps = number_end n k Blank stack begun at c is refl h; kept = refl }
blank_body b k stack begun (last.Body j) at c is h = record { next = last.Body j; steps = refl; kept = h }
blank_body b k stack begun _ at c is h = cc

body_step : (b : Bool) (k : Kind) (class : ByteClass) (stack : List Open) (begun : ℕ) (m : Last) (at c : ℕ) → class_of c ≡ class → HasBody k m → (ends_number class ≡ true) × (class ≡ Comma ⊎ (class ≡ Brace ⊎ class ≡ Closing))
    → step_by b m class stack begun at c ≡ after_body class stack begun at k c
body_step b k Comma stack begun (last.Symbol n) at c is h e = ap (λ (j : Kind). after_body Comma stack begun at j c) (same_Some _ _ h)
body_step b k Comma stack begun (last.Name n) at c is h e = ap (λ (j : Kind). after_body Comma stack begun at j c) (same_Some _ _ h)
body_step b k Comma stack begun (last.Quoted n) at c is h e = ap (λ (j : Kind). after_body Comma stack begun at j c) (same_Some _ _ h)
body_step b k Comma stack begun (last.Number n) at c is h e = number_end n k Comma stack begun at c is refl h
body_step b k Comma stack begun (last.Body n) at c is h e = ap (λ (j : Kind). after_body Comma stack begun at j c) (same_Some _ _ h)
body_step b k Brace stack begun (last.Symbol n) at c is h e = ap (λ (j : Kind). after_body Brace stack begun at j c) (same_Some _ _ h)
body_step b k Brace stack begun (last.Name n) at c is h e = ap (λ (j : Kind). after_body Brace stack begun at j c) (same_Some _ _ h)
body_step b k Brace stack begun (last.Quoted n) at c is h e = ap (λ (j : Kind). after_body Brace stack begun at j c) (same_Some _ _ h)
body_step b k Brace stack begun (last.Number n) at c is h e = number_end n k Brace stack begun at c is refl h
body_step b k Brace stack begun (last.Body n) at c is h e = ap (λ (j : Kind). after_body Brace stack begun at j c) (same_Some _ _ h)
body_step b k Closing stack begun (last.Symbol n) at c is h e = ap (λ (j : Kind). after_body Closing stack begun at j c) (same_Some _ _ h)
body_step b k Closing stack begun (last.Name n) at c is h e = ap (λ (j : Kind). after_body Closing stack begun at j c) (same_Some _ _ h)
body_step b k Closing stack begun (last.Quoted n) at c is h e = ap (λ (j : Kind). after_body Closing stack begun at j c) (same_Some _ _ h)
body_step b k Closing stack begun (last.Number n) at c is h e = number_end n k Closing stack begun at c is refl h
body_step b k Closing stack begun (last.Body n) at c is h e = ap (λ (j : Kind). after_body Closing stack begun at j c) (same_Some _ _ h)
body_step b k Comma stack begun _ at c is h e = cc
body_step b k Brace stack begun _ at c is h e = cc
body_step b k Closing stack begun _ at c is h e = cc
body_step b k _ stack begun m at c is h e = elim (e.1) [ inl x ↦ cc | inr x ↦ elim x [ inl y ↦ cc | inr y ↦ cc ] ]

-- a whole term is one with annotations, or a body
pub whole_from_body : (m : Last) (k : Kind) → HasBody k m → IsWhole (term k []) m
whole_from_body (last.Symbol n) k h = ap (option_map (λ j. term j [])) h
whole_from_body (last.Name n) k h = ap (option_map (λ j. term j [])) h
whole_from_body (last.Quoted n) k h = ap (option_map (λ j. term j [])) h
whole_from_body (last.Number n) k h = ap (option_map (λ j. term j [])) h
whole_from_body (last.Body n) k h = ap (option_map (λ j. term j [])) h
whole_from_body _ k h = cc

abbrev pub WholeCases : Last → Term → Type 0
WholeCases m t = (m ≡ last.Whole t) ⊎ ((k : Kind) × HasBody k m × (term k [] ≡ t))

from_option : (o : Option Kind) (t : Term) → option_map (λ k. term k []) o ≡ Some t → (k : Kind) × (o ≡ Some k) × (term k [] ≡ t)
from_option None t h = cc
from_option (Some k) t h = (k, refl, same_Some _ _ h)

pub whole_cases : (m : Last) (t : Term) → IsWhole t m → WholeCases m t
whole_cases (last.Whole u) t h = inl (ap last.Whole (same_Some u t h))
whole_cases (last.Symbol n) t h = inr (from_option (Some (kind.Apply n [])) t h)
whole_cases (last.Name n) t h = inr (from_option (Some (kind.Apply n [])) t h)
whole_cases (last.Quoted n) t h = inr (from_option (Some (kind.Str n)) t h)
whole_cases (last.Number n) t h = inr (from_option (option_map kind.Int (integer_of n)) t h)
whole_cases (last.Body k) t h = inr (from_option (Some k) t h)
whole_cases _ t h = cc

blank_whole_at : (b : Bool) (t : Term) (stack : List Open) (begun : ℕ) (m : Last) (at c : ℕ) → class_of c ≡ Blank → WholeCases m t → Skips b (IsWhole t) stack begun m at c
blank_whole_at b t stack begun m at c is (inl e) = subst (λ (l : Last). Skips b (IsWhole t) stack begun l at c) (sym e) (record { next = last.Whole t; steps = refl; kept = refl })
blank_whole_at b t stack begun m at c is (inr h) =
    let s : Skips b (HasBody h.0) stack begun m at c = blank_body b h.0 stack begun m at c is h.1 in
    record { next = s.next; steps = s.steps; kept = whole_from_body s.next h.0 s.kept ∙ ap (λ (u : Term). Some u) h.2 }

pub blank_whole : (b : Bool) (t : Term) (stack : List Open) (begun : ℕ) (m : Last) (at c : ℕ) → class_of c ≡ Blank → IsWhole t m → Skips b (IsWhole t) stack begun m at c
blank_whole b t stack begun m at c is h = blank_whole_at b t stack begun m at c is (whole_cases m t h)

comma_at : (b : Bool) (t : Term) (stack : List Open) (begun at c : ℕ) (m : Last) → class_of c ≡ Comma → WholeCases m t → step_by b m Comma stack begun at c ≡ comma stack begun at t
comma_at b t stack begun at c m is (inl e) = ap (λ (l : Last). step_by b l Comma stack begun at c) e
comma_at b t stack begun at c m is (inr h) = body_step b h.0 Comma stack begun m at c is h.1 (refl, inl refl) ∙ ap (comma stack begun at) h.2

pub ends_comma : (b : Bool) (t : Term) (stack : List Open) (begun at c : ℕ) (m : Last) → class_of c ≡ Comma → IsWhole t m → step_by b m Comma stack begun at c ≡ comma stack begun at t
ends_comma b t stack begun at c m is h = comma_at b t stack begun at c m is (whole_cases m t h)

closing_at : (b : Bool) (t : Term) (stack : List Open) (begun at c : ℕ) (m : Last) → class_of c ≡ Closing → WholeCases m t → step_by b m Closing stack begun at c ≡ close_after stack begun at t c
closing_at b t stack begun at c m is (inl e) = ap (λ (l : Last). step_by b l Closing stack begun at c) e
closing_at b t stack begun at c m is (inr h) = body_step b h.0 Closing stack begun m at c is h.1 (refl, inr (inr refl)) ∙ ap (λ (u : Term). close_after stack begun at u c) h.2

pub ends_closing : (b : Bool) (t : Term) (stack : List Open) (begun at c : ℕ) (m : Last) → class_of c ≡ Closing → IsWhole t m → step_by b m Closing stack begun at c ≡ close_after stack begun at t c
ends_closing b t stack begun at c m is h = closing_at b t stack begun at c m is (whole_cases m t h)

-- ** brackets behind a name or a body

abbrev pub opens : List Open → ℕ → Opener → State
opens stack begun opener = state (record { opener = opener; items = [] } ∷ stack) begun last.Opening

-- a name that was read last
abbrev pub Named : List ℕ → Last → Type 0
Named name (last.Symbol n) = n ≡ name
Named name (last.Name n) = n ≡ name
Named name (last.Quoted n) = n ≡ name
Named name _ = ⊥

blank_named : (b : Bool) (name : List ℕ) (stack : List Open) (begun : ℕ) (m : Last) (at c : ℕ) → class_of c ≡ Blank → Named name m → Skips b (Named name) stack begun m at c
blank_named b name stack begun (last.Symbol n) at c is h = record { next = last.Name n; steps = refl; kept = h }
blank_named b name stack begun (last.Name n) at c is h = record { next = last.Name n; steps = refl; kept = h }
blank_named b name stack begun (last.Quoted n) at c is h = record { next = last.Quoted n; steps = refl; kept = h }
blank_named b name stack begun _ at c is h = absurd h

parenthesis_named : (b : Bool) (name : List ℕ) (stack : List Open) (begun : ℕ) (m : Last) (at : ℕ) → Named name m → step_by b m Parenthesis stack begun at 40 ≡ Ok (opens stack begun (Call name))
parenthesis_named b name stack begun (last.Symbol n) at h = ap (λ (x : List ℕ). Ok (opens stack begun (Call x))) h
parenthesis_named b name stack begun (last.Name n) at h = ap (λ (x : List ℕ). Ok (opens stack begun (Call x))) h
parenthesis_named b name stack begun (last.Quoted n) at h = ap (λ (x : List ℕ). Ok (opens stack begun (Call x))) h
parenthesis_named b name stack begun _ at h = absurd h

-- a name, blanks and a parenthesis
pub opens_call : (b : Bool) (stack : List Open) (begun at : ℕ) (name blank tail : List ℕ) (l : Last) → Named name l → IsBlank blank
    → run b (state stack begun l) at (blank ++ 40 ∷ tail) ≡ run b (opens stack begun (Call name)) (at + length blank + 1) tail
opens_call b stack begun at name blank tail l h k =
    skip_then b (Named name) stack begun (blank_named b name stack begun) 40 tail (Ok (opens stack begun (Call name)))
    (λ m n g. ap (λ (j : ByteClass). step_by b m j stack begun n 40) class_parenthesis ∙ parenthesis_named b name stack begun m n g) blank k l h at

-- a body, blanks and a brace
pub opens_annotations : (b : Bool) (stack : List Open) (begun at : ℕ) (k : Kind) (blank tail : List ℕ) (l : Last) → HasBody k l → IsBlank blank
    → run b (state stack begun l) at (blank ++ 123 ∷ tail) ≡ run b (opens stack begun (Annotations k)) (at + length blank + 1) tail
opens_annotations b stack begun at k blank tail l h is =
    skip_then b (HasBody k) stack begun (blank_body b k stack begun) 123 tail (Ok (opens stack begun (Annotations k)))
    (λ m n g. ap (λ (j : ByteClass). step_by b m j stack begun n 123) class_brace ∙ body_step b k Brace stack begun m n 123 class_brace g (refl, inr (inl refl))) blank is l h at
