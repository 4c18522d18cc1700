-- What a whole run stands for: the state it ends in, or the place where it stops.
use Rattle.std.proofs.Common.{◌≡◌, ℕ, ◌+◌, ◌<◌, Bool, true, false, List, [], ◌∷◌, ◌++◌, length, Option, Some, None, Result, Ok, Err, refl, sym, ap, ◌∙◌, subst, inl, inr, append-nil, append_assoc, length-append, arith}
use Rattle.std.specs.Prelude.{ℤ, ◌⊎◌, ◌==◌, IsUtf8, if◌then◌else◌, option_map}
use Rattle.std.proofs.lemmas.Option.{same_Some}
use Rattle.std.proofs.lemmas.Str.{IsUtf8-nil}
use Rattle.flow_term.specs.Trees.{term_size}
use Rattle.flow_term.specs.declared.term.Term.{Term}
use Rattle.flow_term.specs.declared.term.Kind.TheVariants as kind
use Rattle.quoted_text.proofs.Cuts.{with_byte, utf8_before}
use Rattle.aterm_text.specs.declared.open.Open.{Open}
use Rattle.aterm_text.specs.declared.reader.state.Last.{Last}
use Rattle.aterm_text.specs.declared.reader.state.Last.TheVariants as last
use Rattle.aterm_text.specs.declared.refusal.TermFaultKind.{TermFaultKind}
use Rattle.aterm_text.specs.Bytes.{class_of}
use Rattle.aterm_text.specs.Grammar.{term, IsText, TermText}
use Rattle.aterm_text.specs.inner.Machine.{State, state, Next, step_by, step, run, ended_number, ended, outermost, finish, nothing, reading, ◌>>=◌}
use Rattle.aterm_text.specs.Numbers.{integer_of}
use Rattle.aterm_text.proofs.Runs.{bound_ok, run_on, skip_before, skip_all, SkipsAll, IsWhole, blank_whole}
use Rattle.aterm_text.proofs.Complete.{Room, Reads, reads_term}
use Rattle.aterm_text.proofs.Spelled.{Means}
use Rattle.aterm_text.proofs.Sound.{Stops, MeansNext, step_means}
use Rattle.aterm_text.proofs.Ends.{Whole, MeansEnd, end_means}
use Rattle.aterm_text.proofs.Utf8.{IsOutside, NextOutside, outside_ascii}

abbrev pub MeansState : State → List ℕ → Type 0
MeansState (state stack begun l) p = Means stack begun l p

pub nothing_means : MeansState nothing []
nothing_means = record { spelled = tt; fits = record { shallow = tt; deep = omega arith; counted = refl; few = omega arith } }

pub state_means : (s : State) (at c : ℕ) (p : List ℕ) → length p ≡ at → MeansState s p → MeansNext (step true s at c) p c
state_means (state stack begun l) at c p e m = subst (λ (n : ℕ). MeansNext (step_by true l (class_of c) stack begun n c) p c) e (step_means l stack begun c p m)

next_means : (o : Next) (q : State) (p : List ℕ) (c : ℕ) → o ≡ Ok q → MeansNext o p c → MeansState q (p ++ c ∷ [])
next_means o (state stack begun l) p c e m = subst (λ (x : Next). MeansNext x p c) e m

next_stops : (o : Next) (offset : ℕ) (k : TermFaultKind) (p : List ℕ) (c : ℕ) → o ≡ Err (offset, k) → MeansNext o p c → Stops k p c offset
next_stops o offset k p c e m = subst (λ (x : Next). MeansNext x p c) e m

length_more : (p : List ℕ) (c at : ℕ) → length p ≡ at → length (p ++ c ∷ []) ≡ at + 1
length_more p c at e = omega (arith, e, length-append p (c ∷ []))

-- the state that a run ends in
pub run_means : (s q : State) (at : ℕ) (p bytes : List ℕ) → length p ≡ at → MeansState s p → run true s at bytes ≡ Ok q → MeansState q (p ++ bytes)
run_means s q at p [] e m h = subst (λ (x : State). MeansState x (p ++ [])) (let same : s ≡ q = cc in same) (subst (λ (xs : List ℕ). MeansState s xs) (sym (append-nil p)) m)
run_means s q at p (c ∷ bytes) e m h =
    let parts : (next : State) × (step true s at c ≡ Ok next) × (run true next (at + 1) bytes ≡ Ok q) = bound_ok (step true s at c) (λ next. run true next (at + 1) bytes) q h in
    subst (λ (xs : List ℕ). MeansState q xs) (append_assoc p (c ∷ []) bytes)
    (run_means parts.0 q (at + 1) (p ++ c ∷ []) bytes (length_more p c at e) (next_means (step true s at c) parts.0 p c parts.1 (state_means s at c p e m)) parts.2)

-- the place where a run stops
pub record Stopped (s : State) (at : ℕ) (p bytes : List ℕ) (offset : ℕ) (k : TermFaultKind) : Type 0 where
  pub passed : List ℕ
  pub byte : ℕ
  pub rest : List ℕ
  pub mid : State
  pub whole : bytes ≡ passed ++ byte ∷ rest
  pub runs : run true s at passed ≡ Ok mid
  pub steps : step true mid (at + length passed) byte ≡ Err (offset, k)
  pub stops : Stops k (p ++ passed) byte offset

stopped_later : (s next : State) (at c : ℕ) (p bytes : List ℕ) (offset : ℕ) (k : TermFaultKind) → step true s at c ≡ Ok next → Stopped next (at + 1) (p ++ c ∷ []) bytes offset k → Stopped s at p (c ∷ bytes) offset k
stopped_later s next at c p bytes offset k e h = record {
  passed = c ∷ h.passed;
  byte = h.byte;
  rest = h.rest;
  mid = h.mid;
  whole = ap (λ (xs : List ℕ). c ∷ xs) h.whole;
  runs = ap (λ (o : Next). o >>= λ x. run true x (at + 1) h.passed) e ∙ h.runs;
  steps = ap (λ (n : ℕ). step true h.mid n h.byte) (omega arith) ∙ h.steps;
  stops = subst (λ (xs : List ℕ). Stops k xs h.byte offset) (append_assoc p (c ∷ []) h.passed) h.stops;
}

stopped_at : (s : State) (at c : ℕ) (p bytes : List ℕ) (offset : ℕ) (k : TermFaultKind) (o : Next) → length p ≡ at → MeansState s p → step true s at c ≡ o → (o >>= λ next. run true next (at + 1) bytes) ≡ Err (offset, k)
    → ((next : State) → MeansState next (p ++ c ∷ []) → run true next (at + 1) bytes ≡ Err (offset, k) → Stopped next (at + 1) (p ++ c ∷ []) bytes offset k) → Stopped s at p (c ∷ bytes) offset k
stopped_at s at c p bytes offset k (Ok next) e m h r later = stopped_later s next at c p bytes offset k h (later next (next_means (step true s at c) next p c h (state_means s at c p e m)) r)
stopped_at s at c p bytes offset k (Err f) e m h r later =
    let same : step true s at c ≡ Err (offset, k) = h ∙ r in
    record {
      passed = [];
      byte = c;
      rest = bytes;
      mid = s;
      whole = refl;
      runs = refl;
      steps = ap (λ (n : ℕ). step true s n c) (omega arith) ∙ same;
      stops = subst (λ (xs : List ℕ). Stops k xs c offset) (sym (append-nil p)) (next_stops (step true s at c) offset k p c same (state_means s at c p e m));
    }

pub run_stops : (s : State) (at : ℕ) (p bytes : List ℕ) (offset : ℕ) (k : TermFaultKind) → length p ≡ at → MeansState s p → run true s at bytes ≡ Err (offset, k) → Stopped s at p bytes offset k
run_stops s at p [] offset k e m h = cc
run_stops s at p (c ∷ bytes) offset k e m h =
    stopped_at s at c p bytes offset k (step true s at c) e m refl h (λ next n r. run_stops next (at + 1) (p ++ c ∷ []) bytes offset k (length_more p c at e) n r)

-- ** the byte before a place outside of quotes

abbrev pub EndsAscii : State → List ℕ → Type 0
EndsAscii (state stack begun l) p = IsOutside l → (p ≡ []) ⊎ ((x : List ℕ) × (d : ℕ) × (p ≡ x ++ d ∷ []) × (d < 128))

next_outside : (o : Next) (stack : List Open) (begun : ℕ) (l : Last) → o ≡ Ok (state stack begun l) → IsOutside l → NextOutside o
next_outside o stack begun l e h = subst NextOutside (sym e) h

step_ascii : (s q : State) (at c : ℕ) (p : List ℕ) → step true s at c ≡ Ok q → EndsAscii q (p ++ c ∷ [])
step_ascii (state stack begun l) (state above more m) at c p h = λ outside. inr (p, c, refl, outside_ascii l stack begun at c (next_outside (step_by true l (class_of c) stack begun at c) above more m h outside))

pub run_ascii : (s q : State) (at : ℕ) (p bytes : List ℕ) → EndsAscii s p → run true s at bytes ≡ Ok q → EndsAscii q (p ++ bytes)
run_ascii s q at p [] a h = subst (λ (x : State). EndsAscii x (p ++ [])) (let same : s ≡ q = cc in same) (subst (λ (xs : List ℕ). EndsAscii s xs) (sym (append-nil p)) a)
run_ascii s q at p (c ∷ bytes) a h =
    let parts : (next : State) × (step true s at c ≡ Ok next) × (run true next (at + 1) bytes ≡ Ok q) = bound_ok (step true s at c) (λ next. run true next (at + 1) bytes) q h in
    subst (λ (xs : List ℕ). EndsAscii q xs) (append_assoc p (c ∷ []) bytes) (run_ascii parts.0 q (at + 1) (p ++ c ∷ []) bytes (step_ascii s parts.0 at c p parts.1) parts.2)

nothing_ascii : EndsAscii nothing []
nothing_ascii = λ _. inl refl

abbrev pub StateOutside : State → Type 0
StateOutside (state stack begun l) = IsOutside l

-- outside of quotes the bytes so far are UTF-8 where the whole text is
pub front_utf8 : (q : State) (p rest : List ℕ) → run true nothing 0 p ≡ Ok q → StateOutside q → IsUtf8 (p ++ rest) → IsUtf8 p
front_utf8 (state stack begun l) p rest h outside u = go (run_ascii nothing (state stack begun l) 0 [] p nothing_ascii h outside)
  where
    go : (p ≡ []) ⊎ ((x : List ℕ) × (d : ℕ) × (p ≡ x ++ d ∷ []) × (d < 128)) → IsUtf8 p
    go (inl e) = subst IsUtf8 (sym e) IsUtf8-nil
    go (inr e) = subst IsUtf8 (sym e.2) (with_byte e.0 e.1 e.3 (utf8_before e.0 rest e.1 e.3 (subst IsUtf8 (ap (λ (xs : List ℕ). xs ++ rest) e.2 ∙ append_assoc e.0 (e.1 ∷ []) rest) u)))

-- reading never stops inside quotes
quotes_go_on : (x y : Bool) (f g h : State) (e : ℕ × TermFaultKind) → ◌≡◌ {A = Next} (if x then Ok f else (if y then Ok g else Ok h)) (Err e) → ⊥
quotes_go_on true y f g h e r = cc
quotes_go_on false true f g h e r = cc
quotes_go_on false false f g h e r = cc

stop_outside : (l : Last) (stack : List Open) (begun at c : ℕ) (e : ℕ × TermFaultKind) → step_by true l (class_of c) stack begun at c ≡ Err e → IsOutside l
stop_outside (last.Inside chars) stack begun at c e h = quotes_go_on (c == 34) (c == 92) _ _ _ e h
stop_outside _ stack begun at c e h = tt

pub stopped_outside : (s : State) (at c : ℕ) (e : ℕ × TermFaultKind) → step true s at c ≡ Err e → StateOutside s
stopped_outside (state stack begun l) at c e h = stop_outside l stack begun at c e h

-- ** whole texts

ended_integer : (o : Option ℤ) (start at : ℕ) (t : Term) → option_map (λ k. term k []) (option_map kind.Int o) ≡ Some t → ended_number o start ≡ Ok t
ended_integer None start at t h = cc
ended_integer (Some n) start at t h = ap Ok (same_Some _ _ h)

pub ended_whole : (l : Last) (at : ℕ) (t : Term) → IsWhole t l → ended l at ≡ Ok t
ended_whole (last.Symbol n) at t h = ap Ok (same_Some _ _ h)
ended_whole (last.Name n) at t h = ap Ok (same_Some _ _ h)
ended_whole (last.Quoted n) at t h = ap Ok (same_Some _ _ h)
ended_whole (last.Number n) at t h = ended_integer (integer_of n) n.start at t h
ended_whole (last.Body k) at t h = ap Ok (same_Some _ _ h)
ended_whole (last.Whole u) at t h = ap Ok (same_Some _ _ h)
ended_whole _ at t h = cc

pub record ReadsText (b : Bool) (bytes : List ℕ) (t : Term) : Type 0 where
  pub end : State
  pub runs : run b nothing 0 bytes ≡ Ok end
  pub finishes : (at : ℕ) → finish end at ≡ Ok t

pub reads_text : (b : Bool) (bytes : List ℕ) (t : Term) → IsText bytes t → Room b [] 0 t → ReadsText b bytes t
reads_text b bytes t h room =
    let at : ℕ = 0 + length h.before in
    let reads : Reads b nothing at h.spelling [] (0 + term_size t) t = reads_term b h.spelling t h.spells [] 0 at last.Start tt room in
    let tail : SkipsAll b (IsWhole t) [] (0 + term_size t) reads.latest (at + length h.spelling) h.behind =
    skip_all b (IsWhole t) [] (0 + term_size t) (blank_whole b t [] (0 + term_size t)) h.behind h.blank_behind reads.latest reads.whole (at + length h.spelling) in
    record {
      end = state [] (0 + term_size t) tail.next;
      runs =
          ap (run b nothing 0) h.whole
          ∙ skip_before b last.Start [] 0 0 h.before (h.spelling ++ h.behind) tt h.blank_before
          ∙ run_on b nothing (state [] (0 + term_size t) reads.latest) at h.spelling h.behind reads.runs
          ∙ tail.runs;
      finishes = λ n. ap (λ (r : Result Term (ℕ × TermFaultKind)). r >>= outermost [] n) (ended_whole tail.next n t tail.kept);
    }

-- what is a term text within the limits is read
pub complete : (bytes : List ℕ) (t : Term) → TermText bytes t → reading bytes ≡ Ok t
complete bytes t h =
    let r : ReadsText true bytes t = reads_text true bytes t h.is_text (λ _. (omega (arith, h.shallow), omega (arith, h.small))) in
    ap (λ (o : Next). o >>= λ s. finish s (length bytes)) r.runs ∙ r.finishes (length bytes)

-- what is read is one
finish_means : (s : State) (p : List ℕ) → MeansState s p → MeansEnd (finish s (length p)) p
finish_means (state stack begun l) p m = end_means l stack begun p m

pub end_of : (s : State) (bytes : List ℕ) → run true nothing 0 bytes ≡ Ok s → MeansEnd (finish s (length bytes)) bytes
end_of s bytes h = finish_means s bytes (run_means nothing s 0 [] bytes refl nothing_means h)

text_of_whole : (bytes : List ℕ) (t : Term) → IsUtf8 bytes → Whole t bytes → TermText bytes t
text_of_whole bytes t u w = record {
  is_text = record {
    utf8 = u;
    before = w.spelled.front;
    spelling = w.spelled.spelling;
    behind = w.spelled.blank;
    blank_before = w.spelled.due;
    spells = w.spelled.spells;
    blank_behind = w.spelled.blanks;
    whole = w.spelled.whole;
  };
  shallow = w.shallow;
  small = w.small;
}

bound_end : (o : Next) (f : State → Result Term (ℕ × TermFaultKind)) (t : Term) → (o >>= f) ≡ Ok t → (s : State) × (o ≡ Ok s) × (f s ≡ Ok t)
bound_end (Ok s) f t h = (s, refl, h)
bound_end (Err e) f t h = cc

pub sound : (bytes : List ℕ) (t : Term) → IsUtf8 bytes → reading bytes ≡ Ok t → TermText bytes t
sound bytes t u h =
    let parts : (s : State) × (run true nothing 0 bytes ≡ Ok s) × (finish s (length bytes) ≡ Ok t) = bound_end (run true nothing 0 bytes) (λ s. finish s (length bytes)) t h in
    text_of_whole bytes t u (subst (λ (r : Result Term (ℕ × TermFaultKind)). MeansEnd r bytes) parts.2 (end_of parts.0 bytes parts.1))
