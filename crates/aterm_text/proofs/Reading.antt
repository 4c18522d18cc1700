-- What the answers of the reader say of terms and faults.
use Rattle.std.proofs.Common.{◌≡◌, ℕ, ◌+◌, ◌-◌, ◌<◌, ◌≤◌, ◌*◌, Bool, true, false, List, [], ◌∷◌, ◌++◌, length, reverse, take, drop, get_or, Result, Ok, Err, refl, sym, ap, ◌∙◌, subst, inl, inr, add-one, drop-cons, arith}
use Rattle.std.specs.Prelude.{IfOk, IsUtf8, nat_lt}
use Rattle.std.specs.Str.{IsValidUpTo}
use Rattle.std.proofs.Math.Seq.{take-suc}
use Rattle.std.proofs.lemmas.List.{take-append-drop, length-take-le}
use Rattle.std.proofs.lemmas.Bool.Decides.{nat_tests}
use Rattle.flow_term.specs.declared.term.Term.{Term}
use Rattle.quoted_text.proofs.Insides.{inside_utf8}
use Rattle.quoted_text.specs.Escapes.{is_low_octal, is_octal}
use Rattle.aterm_text.specs.declared.open.Open.{Open}
use Rattle.aterm_text.specs.declared.reader.state.Last.{Last}
use Rattle.aterm_text.specs.declared.reader.state.Last.TheVariants as last
use Rattle.aterm_text.specs.declared.reader.state.Reader.{Reader}
use Rattle.aterm_text.specs.declared.refusal.TermFaultKind.{TermFaultKind}
use Rattle.aterm_text.specs.declared.refusal.TermFaultKind.TheVariants.{NotUtf8, Unexpected, Shared, Placeholder, Real, Blob, BadEscape, IntRange, TooDeep, TooMany}
use Rattle.aterm_text.specs.declared.refusal.TermRefusal.{TermRefusal}
use Rattle.aterm_text.specs.declared.refusal.TermRefusal.TheVariants.{Fault, NoMemory}
use Rattle.aterm_text.specs.inner.Answers.{state_of, AnswersTerm, IsReady, IfFault, UnlessNoMemory}
use Rattle.aterm_text.specs.Faults.{IsFault, rank, ComesFirst, TermFaulty}
use Rattle.aterm_text.specs.Grammar.{TermText}
use Rattle.aterm_text.specs.Laws.{HasOneAnswer}
use Rattle.aterm_text.specs.inner.Machine.{State, state, Next, step, run, nothing, reading, ◌>>=◌}
use Rattle.aterm_text.proofs.Runs.{run_on}
use Rattle.aterm_text.proofs.Spelled.{Quoting, Means}
use Rattle.aterm_text.proofs.Traces.{nothing_means, run_means, complete, sound}
use Rattle.aterm_text.proofs.Rows.{faulted}
use Rattle.aterm_text.proofs.First.{Answered, answered}

-- ** a byte may be met where it is

low_small : (a value : ℕ) → is_low_octal a ≡ true → value ≡ a - 48 → value < 2
low_small a value h e = let high : a ≤ 49 = grind (arith, nat_tests) in omega arith

two_small : (a b value : ℕ) → is_low_octal a ≡ true → is_octal b ≡ true → value ≡ (a - 48) * 8 + (b - 48) → value < 16
two_small a b value h k e = let high : a ≤ 49 = grind (arith, nat_tests) in let middle : b ≤ 55 = grind (arith, nat_tests) in omega arith

ready_means : (l : Last) (stack : List Open) (begun : ℕ) (p rest : List ℕ) (c : ℕ) → Means stack begun l p → IsUtf8 (p ++ c ∷ rest) → IsReady l c
ready_means (last.Inside chars) stack begun p rest c m u = λ e.
    let q : Quoting stack chars p = m.spelled in
    inside_utf8 q.front q.inside rest chars q.is_inside (subst IsUtf8 (ap (λ (xs : List ℕ). xs ++ c ∷ rest) q.whole ∙ ap (λ (d : ℕ). (q.front ++ 34 ∷ q.inside) ++ d ∷ rest) e) u)
ready_means (last.OneOctal e value) stack begun p rest c m u = low_small m.spelled.0 value m.spelled.1 m.spelled.2
ready_means (last.TwoOctals e value) stack begun p rest c m u = two_small m.spelled.0 m.spelled.1 value m.spelled.2 m.spelled.3 m.spelled.4
ready_means _ stack begun p rest c m u = tt

pub ready : (l : Last) (stack : List Open) (begun : ℕ) (bytes p rest : List ℕ) (c : ℕ) → IsUtf8 bytes → bytes ≡ p ++ c ∷ rest → run true nothing 0 p ≡ Ok (state stack begun l) → IsReady l c
ready l stack begun bytes p rest c u e h = ready_means l stack begun p rest c (run_means nothing (state stack begun l) 0 [] p refl nothing_means h) (subst IsUtf8 e u)

-- ** the order of faults

-- each kind by its rank
abbrev kinds : List TermFaultKind
kinds = NotUtf8 ∷ TooDeep ∷ TooMany ∷ Real ∷ Blob ∷ IntRange ∷ Shared ∷ Placeholder ∷ BadEscape ∷ Unexpected ∷ []

by_rank : (k : TermFaultKind) → get_or kinds (rank k) NotUtf8 ≡ k
by_rank NotUtf8 = refl
by_rank TooDeep = refl
by_rank TooMany = refl
by_rank Real = refl
by_rank Blob = refl
by_rank IntRange = refl
by_rank Shared = refl
by_rank Placeholder = refl
by_rank BadEscape = refl
by_rank Unexpected = refl

same_rank : (k j : TermFaultKind) → rank k ≡ rank j → k ≡ j
same_rank k j e = sym (by_rank k) ∙ ap (λ (n : ℕ). get_or kinds n NotUtf8) e ∙ by_rank j

pub record Same (offset : ℕ) (k : TermFaultKind) (place : ℕ) (j : TermFaultKind) : Type 0 where
  pub where_both : offset ≡ place
  pub what_both : k ≡ j

pub both_first : (offset place : ℕ) (k j : TermFaultKind) → ComesFirst offset k place j → ComesFirst place j offset k → Same offset k place j
both_first offset place k j (inl h) (inl g) = absurd (omega arith)
both_first offset place k j (inl h) (inr g) = absurd (omega (arith, g.0))
both_first offset place k j (inr h) (inl g) = absurd (omega (arith, h.0))
both_first offset place k j (inr h) (inr g) = record { where_both = h.0; what_both = same_rank k j (omega (arith, h.1, g.1)) }

-- ** a text in UTF-8

fault_is : (a b : ℕ × TermFaultKind) → ◌≡◌ {A = Result Term (ℕ × TermFaultKind)} (Err a) (Err b) → a ≡ b
fault_is a b h = cc

faulty : (bytes : List ℕ) (offset : ℕ) (k : TermFaultKind) → IsUtf8 bytes → reading bytes ≡ Err (offset, k) → TermFaulty bytes offset k
faulty bytes offset k u h = record {
  stands = (faulted bytes offset k h).stands u;
  first = λ place j row.
      let a : Answered bytes place j = answered j bytes place u row in
      let same : (a.offset, a.kind) ≡ (offset, k) = fault_is (a.offset, a.kind) (offset, k) (sym a.reads ∙ h) in
      subst (λ (x : ℕ × TermFaultKind). ComesFirst x.0 x.1 place j) same a.first;
}

faulty_reads : (bytes : List ℕ) (place : ℕ) (j : TermFaultKind) → IsUtf8 bytes → TermFaulty bytes place j → reading bytes ≡ Err (place, j)
faulty_reads bytes place j u f =
    let a : Answered bytes place j = answered j bytes place u f.stands in
    let same : Same a.offset a.kind place j = both_first a.offset place a.kind j a.first (f.first a.offset a.kind ((faulted bytes a.offset a.kind a.reads).stands u)) in
    a.reads ∙ ap (λ (n : ℕ). Err (n, a.kind)) same.where_both ∙ ap (λ (k : TermFaultKind). Err (place, k)) same.what_both

pub found_by : (r : Result Term TermRefusal) (bytes : List ℕ) → IsUtf8 bytes → AnswersTerm r (reading bytes) → IfOk r (λ t. TermText bytes t)
found_by (Ok t) bytes u h = sound bytes t u h
found_by (Err e) bytes u h = tt

pub only_by : (r : Result Term TermRefusal) (bytes : List ℕ) → AnswersTerm r (reading bytes) → (t : Term) → TermText bytes t → UnlessNoMemory r (r ≡ Ok t)
only_by (Ok v) bytes h t k = ap Ok (let e : reading bytes ≡ Ok t = complete bytes t k in let same : v ≡ t = cc in same)
only_by (Err (Fault offset kind)) bytes h t k = absurd (let e : reading bytes ≡ Ok t = complete bytes t k in cc)
only_by (Err NoMemory) bytes h t k = tt

pub fault_by : (r : Result Term TermRefusal) (bytes : List ℕ) → IsUtf8 bytes → AnswersTerm r (reading bytes) → IfFault r (λ offset kind. TermFaulty bytes offset kind)
fault_by (Ok t) bytes u h = tt
fault_by (Err (Fault offset kind)) bytes u h = faulty bytes offset kind u h
fault_by (Err NoMemory) bytes u h = tt

same_fault : (offset place : ℕ) (k j : TermFaultKind) → (let a : ℕ × TermFaultKind = (offset, k) in a) ≡ (place, j) → ◌≡◌ {A = Result Term TermRefusal} (Err (Fault offset k)) (Err (Fault place j))
same_fault offset place k j e = ap (λ (x : ℕ × TermFaultKind). Err (Fault x.0 x.1)) e

pub first_by : (r : Result Term TermRefusal) (bytes : List ℕ) → IsUtf8 bytes → AnswersTerm r (reading bytes) → (offset : ℕ) (kind : TermFaultKind) → TermFaulty bytes offset kind → UnlessNoMemory r (r ≡ Err (Fault offset kind))
first_by (Ok t) bytes u h offset kind f = absurd (let e : reading bytes ≡ Err (offset, kind) = faulty_reads bytes offset kind u f in cc)
first_by (Err (Fault place j)) bytes u h offset kind f = same_fault place offset j kind (fault_is (place, j) (offset, kind) (sym h ∙ faulty_reads bytes offset kind u f))
first_by (Err NoMemory) bytes u h offset kind f = tt

-- ** another text

only_not_utf8 : (k : TermFaultKind) (bytes : List ℕ) (place : ℕ) → ¬ IsUtf8 bytes → IsFault bytes place k → (k ≡ NotUtf8) × IsValidUpTo bytes place
only_not_utf8 NotUtf8 bytes place n f = (refl, subst (λ (i : ℕ). IsValidUpTo bytes i) f.place (subst (λ (xs : List ℕ). IsValidUpTo xs (length f.front)) (sym f.whole) f.stands))
only_not_utf8 k bytes place n f = absurd (n f.readable)

same_length : (bytes : List ℕ) (n m : ℕ) → IsValidUpTo bytes n → IsValidUpTo bytes m → (x y : Bool) → nat_lt n m ≡ x → nat_lt m n ≡ y → n ≡ m
same_length bytes n m h k true y e f = absurd (h.longest m (grind (arith, nat_tests)) k.front)
same_length bytes n m h k false true e f = absurd (k.longest n (grind (arith, nat_tests)) h.front)
same_length bytes n m h k false false e f = let low : m ≤ n = grind (arith, nat_tests) in let high : n ≤ m = grind (arith, nat_tests) in omega arith

pub no_text : (bytes : List ℕ) → ¬ IsUtf8 bytes → (t : Term) → ¬ TermText bytes t
no_text bytes n t h = n h.is_text.utf8

pub not_utf8_faulty : (bytes : List ℕ) (n : ℕ) → ¬ IsUtf8 bytes → IsValidUpTo bytes n → TermFaulty bytes n NotUtf8
not_utf8_faulty bytes n no_utf8 h = record {
  stands = record {
    readable = tt;
    front = take n bytes;
    rest = drop n bytes;
    whole = sym (take-append-drop n bytes);
    place = length-take-le n bytes (omega (arith, h.short));
    stands = subst (λ (xs : List ℕ). IsValidUpTo xs (length (take n bytes))) (sym (take-append-drop n bytes)) (subst (λ (i : ℕ). IsValidUpTo bytes i) (sym (length-take-le n bytes (omega (arith, h.short)))) h);
  };
  first = λ other k row.
      let r : (k ≡ NotUtf8) × IsValidUpTo bytes other = only_not_utf8 k bytes other no_utf8 row in
      inr (same_length bytes n other h r.1 _ _ refl refl, omega arith);
}

pub not_utf8_only : (bytes : List ℕ) (n offset : ℕ) (kind : TermFaultKind) → ¬ IsUtf8 bytes → IsValidUpTo bytes n → TermFaulty bytes offset kind → (offset ≡ n) × (kind ≡ NotUtf8)
not_utf8_only bytes n offset kind no_utf8 h f =
    let r : (kind ≡ NotUtf8) × IsValidUpTo bytes offset = only_not_utf8 kind bytes offset no_utf8 f.stands in
    (same_length bytes offset n r.1 h _ _ refl refl, r.0)

-- ** the loop over the bytes

split_at : (bytes : List ℕ) (i : ℕ) → i < length bytes → bytes ≡ take i bytes ++ get_or bytes i 0 ∷ drop (i + 1) bytes
split_at bytes i h = sym (take-append-drop i bytes) ∙ ap (λ (xs : List ℕ). take i bytes ++ xs) (rw (add-one, drop-cons bytes i 0) refl)

pub ready_at : (r : Reader) (bytes : List ℕ) (i : ℕ) → IsUtf8 bytes → i < length bytes → run true nothing 0 (take i bytes) ≡ Ok (state_of r) → IsReady r.last (get_or bytes i 0)
ready_at r bytes i u small h = ready r.last (reverse r.levels.open) r.levels.begun bytes (take i bytes) (drop (i + 1) bytes) (get_or bytes i 0) u (split_at bytes i small) h

pub behind_more : (s next : State) (bytes : List ℕ) (i : ℕ) → i < length bytes → run true nothing 0 (take i bytes) ≡ Ok s → step true s i (get_or bytes i 0) ≡ Ok next → run true nothing 0 (take (i + 1) bytes) ≡ Ok next
behind_more s next bytes i small h e =
    ap (run true nothing 0) (rw (add-one, take-suc bytes i 0) refl)
    ∙ run_on true nothing s 0 (take i bytes) (get_or bytes i 0 ∷ []) h
    ∙ ap (λ (n : ℕ). run true s n (get_or bytes i 0 ∷ [])) (let len : length (take i bytes) ≡ i = length-take-le i bytes (omega arith) in omega arith)
    ∙ ap (λ (o : Next). o >>= λ q. Ok q) e

pub ahead_more : (s next : State) (bytes : List ℕ) (i : ℕ) (o : Next) → i < length bytes → run true s i (drop i bytes) ≡ o → step true s i (get_or bytes i 0) ≡ Ok next → run true next (i + 1) (drop (i + 1) bytes) ≡ o
ahead_more s next bytes i o small h e =
    sym (ap (λ (x : Next). x >>= λ q. run true q (i + 1) (drop (i + 1) bytes)) e)
    ∙ ap (run true s i) (sym (drop_one bytes i small)) ∙ h
  where
    drop_one : (bytes : List ℕ) (i : ℕ) → i < length bytes → drop i bytes ≡ get_or bytes i 0 ∷ drop (i + 1) bytes
    drop_one bytes i small = rw (add-one, drop-cons bytes i 0) refl

-- ** the answer for a text that isn't UTF-8

abbrev at_fault : ℕ → TermRefusal
at_fault n = Fault n NotUtf8

pub utf8_fault : (e : TermRefusal) (bytes : List ℕ) (n m : ℕ) → e ≡ Fault n NotUtf8 → n ≡ m → ¬ IsUtf8 bytes → IsValidUpTo bytes m → IfFault (Err e) (λ offset kind. TermFaulty bytes offset kind)
utf8_fault e bytes n m h g no_utf8 valid = subst (λ (x : TermRefusal). IfFault (Err x) (λ offset kind. TermFaulty bytes offset kind)) (sym (h ∙ ap at_fault g)) (not_utf8_faulty bytes m no_utf8 valid)

same_answer : (m offset : ℕ) (kind : TermFaultKind) → offset ≡ m → kind ≡ NotUtf8 → ◌≡◌ {A = Result Term TermRefusal} (Err (at_fault m)) (Err (Fault offset kind))
same_answer m offset kind h g = sym (ap (λ (x : ℕ). Err (Fault x kind)) h ∙ ap (λ (k : TermFaultKind). Err (Fault m k)) g)

pub utf8_first : (e : TermRefusal) (bytes : List ℕ) (n m : ℕ) → e ≡ Fault n NotUtf8 → n ≡ m → ¬ IsUtf8 bytes → IsValidUpTo bytes m → (offset : ℕ) (kind : TermFaultKind) → TermFaulty bytes offset kind
    → UnlessNoMemory (Err e) (◌≡◌ {A = Result Term TermRefusal} (Err e) (Err (Fault offset kind)))
utf8_first e bytes n m h g no_utf8 valid offset kind f =
    let only : (offset ≡ m) × (kind ≡ NotUtf8) = not_utf8_only bytes m offset kind no_utf8 valid f in
    subst (λ (x : TermRefusal). UnlessNoMemory (Err x) (◌≡◌ {A = Result Term TermRefusal} (Err x) (Err (Fault offset kind)))) (sym (h ∙ ap at_fault g)) (same_answer m offset kind only.0 only.1)

-- ** one answer

same_term : (t u : Term) → ◌≡◌ {A = Result Term (ℕ × TermFaultKind)} (Ok t) (Ok u) → t ≡ u
same_term t u h = cc

answered_text : (bytes : List ℕ) (t : Term) (offset : ℕ) (kind : TermFaultKind) → TermText bytes t → Answered bytes offset kind → ⊥
answered_text bytes t offset kind h a = let e : reading bytes ≡ Ok t = complete bytes t h in let f : reading bytes ≡ Err (a.offset, a.kind) = a.reads in cc

pub one_answer : (bytes : List ℕ) → HasOneAnswer bytes
one_answer bytes = record {
  one_term = λ t u h k. same_term t u (sym (complete bytes t h) ∙ complete bytes u k);
  one_fault = λ offset place kind row f g.
      let s : Same offset kind place row = both_first offset place kind row (f.first place row g.stands) (g.first offset kind f.stands) in (s.where_both, s.what_both);
  not_both = λ t offset kind h f. answered_text bytes t offset kind h (answered kind bytes offset h.is_text.utf8 f.stands);
}
