-- What is a term text is read, where the limits, if they are kept, allow it.
use Rattle.std.proofs.Common.{◌≡◌, ℕ, ◌+◌, ◌≤◌, ◌^◌, Bool, true, List, [], ◌∷◌, ◌++◌, length, max, Option, Some, Ok, Err, refl, sym, ap, ◌∙◌, subst, inl, inr, append-nil, append_assoc, arith, eq-eqb}
use Rattle.std.specs.Prelude.{ℤ, if◌then◌else◌, sum_by, option_map}
use Rattle.flow_term.specs.Trees.{term_size, term_depth, deepest}
use Rattle.flow_term.specs.declared.term.Term.{Term}
use Rattle.flow_term.specs.declared.term.Kind.{Kind}
use Rattle.flow_term.specs.declared.term.Kind.TheVariants as kind
use Rattle.quoted_text.specs.Quotes.{IsQuoted}
use Rattle.aterm_text.specs.declared.class.ByteClass.{ByteClass}
use Rattle.aterm_text.specs.declared.class.ByteClass.TheVariants.{Parenthesis, Bracket, Closing}
use Rattle.aterm_text.specs.declared.open.Open.{Open}
use Rattle.aterm_text.specs.declared.open.Opener.{Opener}
use Rattle.aterm_text.specs.declared.open.Opener.TheVariants.{Call, Tuple, Items, Annotations}
use Rattle.aterm_text.specs.declared.reader.state.Last.{Last}
use Rattle.aterm_text.specs.declared.reader.state.Last.TheVariants as last
use Rattle.aterm_text.specs.declared.refusal.TermFaultKind.TheVariants.{Unexpected}
use Rattle.aterm_text.specs.Bytes.{class_of}
use Rattle.aterm_text.specs.Grammar.{term, IsBlank, IsSymbol, IsName, number_of, IsNumeral, IsI64, IsTerm, bare, annotated, IsBody, symbol, application, text, tuple, items, number, AreTerms, none, some, AreItems, single, further}
use Rattle.aterm_text.specs.inner.Machine.{State, state, close, closed_as, step_by, run}
use Rattle.aterm_text.specs.Numbers.{integer_of}
use Rattle.aterm_text.specs.inner.Open.{closing_byte_of, with_item}
use Rattle.aterm_text.proofs.Classes.{class_bracket, class_comma, class_parenthesis, class_closing_list, class_closing_call, class_closing_annotations}
use Rattle.aterm_text.proofs.Sizes.{parts_of, size_term, depth_term, parts_apply, parts_tuple, parts_items, parts_int, parts_text, sizes_cons}
use Rattle.aterm_text.proofs.Runs.{run_on, byte_on, skip_then, CanBegin, skip_before, HasRoom, begins_with, reads_symbol, reads_quoted, ReadsNumeral, reads_numeral, IntegerIs, integer_is, HasBody, IsWhole, whole_from_body, blank_whole, ends_comma, ends_closing, opens, opens_call, opens_annotations}

-- how many terms a body has with its own
abbrev pub body_size : Kind → ℕ
body_size k = 1 + sum_by term_size (parts_of k)

-- the limits, where they are kept, allow the term here
abbrev pub Room : Bool → List Open → ℕ → Term → Type 0
Room b stack begun t = b ≡ true → (length stack + term_depth t ≤ 512) × (begun + term_size t ≤ 2 ^ 20)

abbrev pub RoomBody : Bool → List Open → ℕ → Kind → Type 0
RoomBody b stack begun k = b ≡ true → (length stack + (1 + deepest (parts_of k)) ≤ 512) × (begun + body_size k ≤ 2 ^ 20)

abbrev pub RoomFor : Bool → List Open → ℕ → List Term → Type 0
RoomFor b stack begun ts = b ≡ true → (length stack + deepest ts ≤ 512) × (begun + sum_by term_size ts ≤ 2 ^ 20)

-- a run that ends with the body, and with the whole term
pub record ReadsBody (b : Bool) (s : State) (at : ℕ) (bytes : List ℕ) (stack : List Open) (begun : ℕ) (k : Kind) : Type 0 where
  pub latest : Last
  pub runs : run b s at bytes ≡ Ok (state stack begun latest)
  pub body : HasBody k latest

pub record Reads (b : Bool) (s : State) (at : ℕ) (bytes : List ℕ) (stack : List Open) (begun : ℕ) (t : Term) : Type 0 where
  pub latest : Last
  pub runs : run b s at bytes ≡ Ok (state stack begun latest)
  pub whole : IsWhole t latest

deepest_cons : (t : Term) (ts : List Term) → deepest (t ∷ ts) ≡ max (term_depth t) (deepest ts)
deepest_cons t ts = refl

size_with : (k : Kind) (ts : List Term) → parts_of k ≡ ts → body_size k ≡ 1 + sum_by term_size ts
size_with k ts e = ap (λ (us : List Term). 1 + sum_by term_size us) e

depth_with : (k : Kind) (ts : List Term) → parts_of k ≡ ts → deepest (parts_of k) ≡ deepest ts
depth_with k ts e = ap deepest e

-- a closing bracket
pub class_closing : (o : Opener) → class_of (closing_byte_of o) ≡ Closing
class_closing (Call name) = class_closing_call
class_closing Tuple = class_closing_call
class_closing Items = class_closing_list
class_closing (Annotations k) = class_closing_annotations

abbrev pub ended : Open → List Term → List Open → ℕ → State
ended o ts stack begun = state stack begun (closed_as o.opener (o.items ++ ts))

closes : (o : Open) (stack : List Open) (begun at : ℕ) → close (o ∷ stack) begun at (closing_byte_of o.opener) ≡ Ok (state stack begun (closed_as o.opener o.items))
closes o stack begun at =
    ap (λ (x : Bool). if x then Ok (state stack begun (closed_as o.opener o.items)) else Err (at, Unexpected)) (eq-eqb (closing_byte_of o.opener) (closing_byte_of o.opener) refl)

module _ (b : Bool) where
  -- behind an opening bracket and blanks
  closes_empty : (o : Open) (stack : List Open) (begun at : ℕ) (blank : List ℕ) → IsBlank blank
      → run b (state (o ∷ stack) begun last.Opening) at (blank ++ closing_byte_of o.opener ∷ []) ≡ Ok (ended o [] stack (begun + 0))
  closes_empty o stack begun at blank is =
      skip_before b last.Opening (o ∷ stack) begun at blank (closing_byte_of o.opener ∷ []) tt is
      ∙ byte_on b (o ∷ stack) begun last.Opening (at + length blank) (closing_byte_of o.opener) Closing (Ok (state stack begun (closed_as o.opener o.items))) [] (class_closing o.opener)
      (closes o stack begun (at + length blank))
      ∙ ap (λ (us : List Term). Ok (state stack begun (closed_as o.opener us))) (sym (append-nil o.items))
      ∙ ap (λ (n : ℕ). Ok (ended o [] stack n)) (omega arith)

  -- behind a whole term and blanks
  closes_behind : (o : Open) (stack : List Open) (begun at : ℕ) (t : Term) (blank : List ℕ) (l : Last) → IsWhole t l → IsBlank blank
      → run b (state (o ∷ stack) begun l) at (blank ++ closing_byte_of o.opener ∷ []) ≡ Ok (ended o (t ∷ []) stack begun)
  closes_behind o stack begun at t blank l h is =
      skip_then b (IsWhole t) (o ∷ stack) begun (blank_whole b t (o ∷ stack) begun) (closing_byte_of o.opener) [] (Ok (ended o (t ∷ []) stack begun))
      (λ m n g. ap (λ (k : ByteClass). step_by b m k (o ∷ stack) begun n (closing_byte_of o.opener)) (class_closing o.opener)
      ∙ ends_closing b t (o ∷ stack) begun n (closing_byte_of o.opener) m (class_closing o.opener) g
      ∙ closes (with_item o t) stack begun n) blank is l h at

  comma_behind : (o : Open) (stack : List Open) (begun at : ℕ) (t : Term) (blank tail : List ℕ) (l : Last) → IsWhole t l → IsBlank blank
      → run b (state (o ∷ stack) begun l) at (blank ++ 44 ∷ tail) ≡ run b (state (with_item o t ∷ stack) begun last.Start) (at + length blank + 1) tail
  comma_behind o stack begun at t blank tail l h is =
      skip_then b (IsWhole t) (o ∷ stack) begun (blank_whole b t (o ∷ stack) begun) 44 tail (Ok (state (with_item o t ∷ stack) begun last.Start))
      (λ m n g. ap (λ (k : ByteClass). step_by b m k (o ∷ stack) begun n 44) class_comma ∙ ends_comma b t (o ∷ stack) begun n 44 m class_comma g) blank is l h at

  -- one item before a comma
  pub item_on : (o : Open) (stack : List Open) (begun at : ℕ) (l : Last) (before spelling behind rest : List ℕ) (t : Term) → CanBegin l → IsBlank before → IsBlank behind
      → Reads b (state (o ∷ stack) begun l) (at + length before) spelling (o ∷ stack) (begun + term_size t) t
      → run b (state (o ∷ stack) begun l) at (before ++ (spelling ++ (behind ++ 44 ∷ rest)))
      ≡ run b (state (with_item o t ∷ stack) (begun + term_size t) last.Start) (at + length before + length spelling + length behind + 1) rest
  item_on o stack begun at l before spelling behind rest t h is js reads =
      skip_before b l (o ∷ stack) begun at before (spelling ++ (behind ++ 44 ∷ rest)) h is
      ∙ run_on b (state (o ∷ stack) begun l) (state (o ∷ stack) (begun + term_size t) reads.latest) (at + length before) spelling (behind ++ 44 ∷ rest) reads.runs
      ∙ comma_behind o stack (begun + term_size t) (at + length before + length spelling) t behind rest reads.latest reads.whole js

  -- the last item, and one before a comma
  last_item : (o : Open) (stack : List Open) (begun at : ℕ) (l : Last) (before spelling behind : List ℕ) (t : Term) (bytes : List ℕ) (ts : List Term)
      → CanBegin l → IsBlank before → IsBlank behind → ts ≡ t ∷ [] → bytes ≡ before ++ (spelling ++ behind) → Reads b (state (o ∷ stack) begun l) (at + length before) spelling (o ∷ stack) (begun + term_size t) t
      → run b (state (o ∷ stack) begun l) at (bytes ++ closing_byte_of o.opener ∷ []) ≡ Ok (ended o ts stack (begun + sum_by term_size ts))
  last_item o stack begun at l before spelling behind t bytes ts h is js e spelled reads =
      ap (λ (xs : List ℕ). run b (state (o ∷ stack) begun l) at (xs ++ closing_byte_of o.opener ∷ [])) spelled
      ∙ ap (run b (state (o ∷ stack) begun l) at) (simp append_assoc)
      ∙ skip_before b l (o ∷ stack) begun at before (spelling ++ (behind ++ closing_byte_of o.opener ∷ [])) h is
      ∙ run_on b (state (o ∷ stack) begun l) (state (o ∷ stack) (begun + term_size t) reads.latest) (at + length before) spelling (behind ++ closing_byte_of o.opener ∷ []) reads.runs
      ∙ closes_behind o stack (begun + term_size t) (at + length before + length spelling) t behind reads.latest reads.whole js
      ∙ ap (λ (n : ℕ). Ok (ended o (t ∷ []) stack n)) (omega arith)
      ∙ ap (λ (us : List Term). Ok (ended o us stack (begun + sum_by term_size us))) (sym e)

  next_item : (o : Open) (stack : List Open) (begun at : ℕ) (l : Last) (before spelling behind rest : List ℕ) (t : Term) (others : List Term) (bytes : List ℕ) (ts : List Term)
      → CanBegin l → IsBlank before → IsBlank behind → ts ≡ t ∷ others → bytes ≡ before ++ (spelling ++ (behind ++ 44 ∷ rest)) → Reads b (state (o ∷ stack) begun l) (at + length before) spelling (o ∷ stack) (begun + term_size t) t
      → ((n : ℕ) → run b (state (with_item o t ∷ stack) (begun + term_size t) last.Start) n (rest ++ closing_byte_of o.opener ∷ []) ≡ Ok (ended (with_item o t) others stack (begun + term_size t + sum_by term_size others)))
      → run b (state (o ∷ stack) begun l) at (bytes ++ closing_byte_of o.opener ∷ []) ≡ Ok (ended o ts stack (begun + sum_by term_size ts))
  next_item o stack begun at l before spelling behind rest t others bytes ts h is js e spelled reads later =
      ap (λ (xs : List ℕ). run b (state (o ∷ stack) begun l) at (xs ++ closing_byte_of o.opener ∷ [])) spelled
      ∙ ap (run b (state (o ∷ stack) begun l) at) (simp append_assoc)
      ∙ item_on o stack begun at l before spelling behind (rest ++ closing_byte_of o.opener ∷ []) t h is js reads
      ∙ later (at + length before + length spelling + length behind + 1)
      ∙ ap (λ (us : List Term). Ok (state stack (begun + term_size t + sum_by term_size others) (closed_as o.opener us))) (append_assoc o.items (t ∷ []) others)
      ∙ ap (λ (n : ℕ). Ok (ended o (t ∷ others) stack n)) (omega (arith, sizes_cons t others))
      ∙ ap (λ (us : List Term). Ok (ended o us stack (begun + sum_by term_size us))) (sym e)

  -- the room for the first item and for the others
  first_room : (stack : List Open) (begun : ℕ) (t : Term) (others ts : List Term) → ts ≡ t ∷ others → RoomFor b stack begun ts → Room b stack begun t
  first_room stack begun t others ts is room = λ e.
      let r : (length stack + deepest (t ∷ others) ≤ 512) × (begun + sum_by term_size (t ∷ others) ≤ 2 ^ 20) = subst (λ (us : List Term). (length stack + deepest us ≤ 512) × (begun + sum_by term_size us ≤ 2 ^ 20)) is (room e) in
      (omega (arith, r.0, deepest_cons t others), omega (arith, r.1, sizes_cons t others))

  later_room : (o new : Open) (stack : List Open) (begun : ℕ) (t : Term) (others ts : List Term) → ts ≡ t ∷ others → RoomFor b (o ∷ stack) begun ts → RoomFor b (new ∷ stack) (begun + term_size t) others
  later_room o new stack begun t others ts is room = λ e.
      let r : (length (o ∷ stack) + deepest (t ∷ others) ≤ 512) × (begun + sum_by term_size (t ∷ others) ≤ 2 ^ 20) = subst (λ (us : List Term). (length (o ∷ stack) + deepest us ≤ 512) × (begun + sum_by term_size us ≤ 2 ^ 20)) is (room e) in
      (omega (arith, r.0, deepest_cons t others), omega (arith, r.1, sizes_cons t others))

  -- there is room for the term that begins
  body_room : (stack : List Open) (begun : ℕ) (k : Kind) → RoomBody b stack begun k → HasRoom b stack begun
  body_room stack begun k room = λ e. let r = room e in (omega (arith, r.0), omega (arith, r.1))

  -- the room behind its bracket
  inside_room : (o : Open) (stack : List Open) (begun : ℕ) (k : Kind) (ts : List Term) → parts_of k ≡ ts → RoomBody b stack begun k → RoomFor b (o ∷ stack) (begun + 1) ts
  inside_room o stack begun k ts e room = λ f. let r = room f in (omega (arith, r.0, depth_with k ts e), omega (arith, r.1, size_with k ts e))

  -- the room for the body of a term, and for its annotations
  term_room : (stack : List Open) (begun : ℕ) (k : Kind) (annos : List Term) → Room b stack begun (term k annos) → RoomBody b stack begun k
  term_room stack begun k annos room = λ e. let r = room e in (omega (arith, r.0, depth_term k annos), omega (arith, r.1, size_term k annos))

  annos_room : (o : Open) (stack : List Open) (begun : ℕ) (k : Kind) (annos : List Term) → Room b stack begun (term k annos) → RoomFor b (o ∷ stack) (begun + body_size k) annos
  annos_room o stack begun k annos room = λ e. let r = room e in (omega (arith, r.0, depth_term k annos), omega (arith, r.1, size_term k annos))

  -- a symbol, a text and a number are bodies
  symbol_body : (stack : List Open) (begun at : ℕ) (l : Last) (bytes : List ℕ) → CanBegin l → RoomBody b stack begun (kind.Apply bytes []) → IsSymbol bytes
      → ReadsBody b (state stack begun l) at bytes stack (begun + body_size (kind.Apply bytes [])) (kind.Apply bytes [])
  symbol_body stack begun at l bytes h room is = record {
    latest = last.Symbol bytes;
    runs = reads_symbol b l stack begun at bytes h is (body_room stack begun _ room) ∙ ap (λ (n : ℕ). Ok (state stack (begun + n) (last.Symbol bytes))) (sym (size_with (kind.Apply bytes []) [] (parts_apply bytes [])));
    body = refl;
  }

  text_body : (stack : List Open) (begun at : ℕ) (l : Last) (bytes chars : List ℕ) → CanBegin l → RoomBody b stack begun (kind.Str chars) → IsQuoted bytes chars
      → ReadsBody b (state stack begun l) at bytes stack (begun + body_size (kind.Str chars)) (kind.Str chars)
  text_body stack begun at l bytes chars h room is = record {
    latest = last.Quoted chars;
    runs = reads_quoted b l stack begun at bytes chars h is (body_room stack begun _ room) ∙ ap (λ (n : ℕ). Ok (state stack (begun + n) (last.Quoted chars))) (sym (size_with (kind.Str chars) [] (parts_text chars)));
    body = refl;
  }

  pub some_integer : (o : Option ℤ) (n : ℤ) → IntegerIs o n → IsI64 n → option_map kind.Int o ≡ Some (kind.Int n)
  some_integer o n (inl h) small = ap (option_map kind.Int) h.0
  some_integer o n (inr h) small = absurd (h.1 small)

  number_body : (stack : List Open) (begun at : ℕ) (l : Last) (bytes : List ℕ) (n : ℤ) → CanBegin l → RoomBody b stack begun (kind.Int n) → IsNumeral bytes n → IsI64 n
      → ReadsBody b (state stack begun l) at bytes stack (begun + body_size (kind.Int n)) (kind.Int n)
  number_body stack begun at l bytes n h room is small =
      let reads : ReadsNumeral b (state stack begun l) at bytes stack (begun + 1) is.negative is.digits = reads_numeral b l stack begun at bytes n is h (body_room stack begun _ room) in
      record {
        latest = last.Number reads.number;
        runs = reads.runs ∙ ap (λ (m : ℕ). Ok (state stack (begun + m) (last.Number reads.number))) (sym (size_with (kind.Int n) [] (parts_int n)));
        body = some_integer (integer_of reads.number) n (subst (λ (m : ℤ). IntegerIs (integer_of reads.number) m) (sym is.value) (integer_is reads.number is.negative (number_of is.digits) at reads.is)) small;
      }

  -- a name and a parenthesis
  pub name_opens : (stack : List Open) (begun at : ℕ) (l : Last) (spelled name blank tail : List ℕ) → CanBegin l → HasRoom b stack begun → IsName spelled name → IsBlank blank
      → run b (state stack begun l) at (spelled ++ (blank ++ 40 ∷ tail)) ≡ run b (opens stack (begun + 1) (Call name)) (at + length spelled + length blank + 1) tail
  name_opens stack begun at l spelled name blank tail h room (inl is) j =
      run_on b (state stack begun l) (state stack (begun + 1) (last.Symbol name)) at spelled (blank ++ 40 ∷ tail) (ap (run b (state stack begun l) at) is.1 ∙ reads_symbol b l stack begun at name h is.0 room)
      ∙ opens_call b stack (begun + 1) (at + length spelled) name blank tail (last.Symbol name) refl j
  name_opens stack begun at l spelled name blank tail h room (inr is) j =
      run_on b (state stack begun l) (state stack (begun + 1) (last.Quoted name)) at spelled (blank ++ 40 ∷ tail) (reads_quoted b l stack begun at spelled name h is room)
      ∙ opens_call b stack (begun + 1) (at + length spelled) name blank tail (last.Quoted name) refl j

  -- what stands between brackets is read from each offset
  abbrev pub ReadsTerms : List ℕ → List Term → Open → List Open → ℕ → Type 0
  ReadsTerms bytes ts o stack begun = (n : ℕ) → run b (state (o ∷ stack) begun last.Opening) n (bytes ++ closing_byte_of o.opener ∷ []) ≡ Ok (ended o ts stack (begun + sum_by term_size ts))

  call_body : (stack : List Open) (begun at : ℕ) (l : Last) (spelled name blank inside : List ℕ) (args : List Term) (bytes : List ℕ) → CanBegin l → RoomBody b stack begun (kind.Apply name args) → IsName spelled name → IsBlank blank
      → bytes ≡ spelled ++ (blank ++ 40 ∷ (inside ++ 41 ∷ [])) → ReadsTerms inside args (record { opener = Call name; items = [] }) stack (begun + 1)
      → ReadsBody b (state stack begun l) at bytes stack (begun + body_size (kind.Apply name args)) (kind.Apply name args)
  call_body stack begun at l spelled name blank inside args bytes h room is j e reads = record {
    latest = last.Body (kind.Apply name args);
    runs =
        ap (run b (state stack begun l) at) e
        ∙ name_opens stack begun at l spelled name blank (inside ++ 41 ∷ []) h (body_room stack begun _ room) is j
        ∙ reads (at + length spelled + length blank + 1)
        ∙ ap (λ (n : ℕ). Ok (state stack n (last.Body (kind.Apply name args)))) (omega (arith, size_with (kind.Apply name args) args (parts_apply name args)));
    body = refl;
  }

  bracket_body : (opener : Opener) (class : ByteClass) (k : Kind) (stack : List Open) (begun at c : ℕ) (l : Last) (inside : List ℕ) (ts : List Term) (bytes : List ℕ) → CanBegin l → RoomBody b stack begun k
      → ((tail : List ℕ) → run b (state stack begun l) at (c ∷ tail) ≡ run b (opens stack (begun + 1) opener) (at + 1) tail) → closed_as opener ts ≡ last.Body k → parts_of k ≡ ts
      → bytes ≡ c ∷ (inside ++ closing_byte_of opener ∷ []) → ReadsTerms inside ts (record { opener = opener; items = [] }) stack (begun + 1)
      → ReadsBody b (state stack begun l) at bytes stack (begun + body_size k) k
  bracket_body opener class k stack begun at c l inside ts bytes h room opening closing has e reads = record {
    latest = last.Body k;
    runs =
        ap (run b (state stack begun l) at) e
        ∙ opening (inside ++ closing_byte_of opener ∷ [])
        ∙ reads (at + 1)
        ∙ ap (λ (m : Last). Ok (state stack (begun + 1 + sum_by term_size ts) m)) closing
        ∙ ap (λ (n : ℕ). Ok (state stack n (last.Body k))) (omega (arith, size_with k ts has));
    body = refl;
  }

  -- a body that is another is read where that one is
  abbrev pub ReadsAsBody : List ℕ → Kind → Type 0
  ReadsAsBody bytes k = (stack : List Open) (begun at : ℕ) (l : Last) → CanBegin l → RoomBody b stack begun k → ReadsBody b (state stack begun l) at bytes stack (begun + body_size k) k

  as_body : (bytes : List ℕ) (k j : Kind) → k ≡ j → ReadsAsBody bytes j → ReadsAsBody bytes k
  as_body bytes k j is reads = subst (λ (i : Kind). ReadsAsBody bytes i) (sym is) reads

  abbrev pub ReadsAs : List ℕ → Term → Type 0
  ReadsAs bytes t = (stack : List Open) (begun at : ℕ) (l : Last) → CanBegin l → Room b stack begun t → Reads b (state stack begun l) at bytes stack (begun + term_size t) t

  as_term : (bytes : List ℕ) (t u : Term) → t ≡ u → ReadsAs bytes u → ReadsAs bytes t
  as_term bytes t u is reads = subst (λ (v : Term). ReadsAs bytes v) (sym is) reads

  -- a term without annotations, and one with them
  bare_term : (bytes : List ℕ) (k : Kind) → ReadsAsBody bytes k → ReadsAs bytes (term k [])
  bare_term bytes k reads stack begun at l h room =
      let r : ReadsBody b (state stack begun l) at bytes stack (begun + body_size k) k = reads stack begun at l h (term_room stack begun k [] room) in
      record {
        latest = r.latest;
        runs = r.runs ∙ ap (λ (n : ℕ). Ok (state stack n r.latest)) (omega (arith, size_term k []));
        whole = whole_from_body r.latest k r.body;
      }

  annotated_term : (bytes body blank inside : List ℕ) (k : Kind) (annos : List Term) → ReadsAsBody body k → IsBlank blank
      → ((stack : List Open) (begun : ℕ) → RoomFor b (record { opener = Annotations k; items = [] } ∷ stack) begun annos → ReadsTerms inside annos (record { opener = Annotations k; items = [] }) stack begun)
      → bytes ≡ body ++ (blank ++ 123 ∷ (inside ++ 125 ∷ [])) → ReadsAs bytes (term k annos)
  annotated_term bytes body blank inside k annos reads is behind e stack begun at l h room =
      let r : ReadsBody b (state stack begun l) at body stack (begun + body_size k) k = reads stack begun at l h (term_room stack begun k annos room) in
      record {
        latest = last.Whole (term k annos);
        runs =
            ap (run b (state stack begun l) at) e
            ∙ run_on b (state stack begun l) (state stack (begun + body_size k) r.latest) at body (blank ++ 123 ∷ (inside ++ 125 ∷ [])) r.runs
            ∙ opens_annotations b stack (begun + body_size k) (at + length body) k blank (inside ++ 125 ∷ []) r.latest r.body is
            ∙ behind stack (begun + body_size k) (annos_room (record { opener = Annotations k; items = [] }) stack begun k annos room) (at + length body + length blank + 1)
            ∙ ap (λ (n : ℕ). Ok (state stack n (last.Whole (term k annos)))) (omega (arith, size_term k annos));
        whole = refl;
      }

  mutual
    pub reads_term : (bytes : List ℕ) (t : Term) → IsTerm bytes t → ReadsAs bytes t
    reads_term bytes t (bare k is e) = as_term bytes t _ e (bare_term bytes k (reads_body bytes k is))
    reads_term bytes t (annotated body blank inside k annos is j terms e f) = as_term bytes t _ e
        (annotated_term bytes body blank inside k annos (reads_body body k is) j (λ stack begun room. reads_terms inside annos terms (record { opener = Annotations k; items = [] }) stack begun room) f)

    pub reads_body : (bytes : List ℕ) (k : Kind) → IsBody bytes k → ReadsAsBody bytes k
    reads_body bytes k (symbol is e) = as_body bytes k _ e (λ stack begun at l h room. symbol_body stack begun at l bytes h room is)
    reads_body bytes k (application spelled name blank inside args is j terms e f) = as_body bytes k _ e (λ stack begun at l h room.
        call_body stack begun at l spelled name blank inside args bytes h room is j f
        (reads_terms inside args terms (record { opener = Call name; items = [] }) stack (begun + 1) (inside_room (record { opener = Call name; items = [] }) stack begun (kind.Apply name args) args (parts_apply name args) room)))
    reads_body bytes k (text chars is e) = as_body bytes k _ e (λ stack begun at l h room. text_body stack begun at l bytes chars h room is)
    reads_body bytes k (tuple inside ts terms e f) = as_body bytes k _ e (λ stack begun at l h room.
        bracket_body Tuple Parenthesis (kind.Tuple ts) stack begun at 40 l inside ts bytes h room
        (λ tail. begins_with b l Parenthesis stack begun at 40 tail h refl class_parenthesis (body_room stack begun _ room)) refl (parts_tuple ts) f
        (reads_terms inside ts terms (record { opener = Tuple; items = [] }) stack (begun + 1) (inside_room (record { opener = Tuple; items = [] }) stack begun (kind.Tuple ts) ts (parts_tuple ts) room)))
    reads_body bytes k (items inside ts terms e f) = as_body bytes k _ e (λ stack begun at l h room.
        bracket_body Items Bracket (kind.Items ts) stack begun at 91 l inside ts bytes h room
        (λ tail. begins_with b l Bracket stack begun at 91 tail h refl class_bracket (body_room stack begun _ room)) refl (parts_items ts) f
        (reads_terms inside ts terms (record { opener = Items; items = [] }) stack (begun + 1) (inside_room (record { opener = Items; items = [] }) stack begun (kind.Items ts) ts (parts_items ts) room)))
    reads_body bytes k (number n is small e) = as_body bytes k _ e (λ stack begun at l h room. number_body stack begun at l bytes n h room is small)

    pub reads_terms : (bytes : List ℕ) (ts : List Term) → AreTerms bytes ts → (o : Open) (stack : List Open) (begun : ℕ) → RoomFor b (o ∷ stack) begun ts → ReadsTerms bytes ts o stack begun
    reads_terms bytes ts (none is e) o stack begun room n =
        closes_empty o stack begun n bytes is ∙ ap (λ (us : List Term). Ok (ended o us stack (begun + sum_by term_size us))) (sym e)
    reads_terms bytes ts (some terms) o stack begun room n = reads_items bytes ts terms o stack begun last.Opening n tt room

    pub reads_items : (bytes : List ℕ) (ts : List Term) → AreItems bytes ts → (o : Open) (stack : List Open) (begun : ℕ) (l : Last) (at : ℕ) → CanBegin l → RoomFor b (o ∷ stack) begun ts
        → run b (state (o ∷ stack) begun l) at (bytes ++ closing_byte_of o.opener ∷ []) ≡ Ok (ended o ts stack (begun + sum_by term_size ts))
    reads_items bytes ts (single before spelling behind t is tree js e f) o stack begun l at h room =
        last_item o stack begun at l before spelling behind t bytes ts h is js e f
        (reads_term spelling t tree (o ∷ stack) begun (at + length before) l h (first_room (o ∷ stack) begun t [] ts e room))
    reads_items bytes ts (further before spelling behind rest t others is tree js later e f) o stack begun l at h room =
        next_item o stack begun at l before spelling behind rest t others bytes ts h is js e f
        (reads_term spelling t tree (o ∷ stack) begun (at + length before) l h (first_room (o ∷ stack) begun t others ts e room))
        (λ n. reads_items rest others later (with_item o t) stack (begun + term_size t) last.Start n tt (later_room o (with_item o t) stack begun t others ts e room))
