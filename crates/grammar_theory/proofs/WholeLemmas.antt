-- Reading all of the tokens: the value where they are a text, and otherwise the first fault.
use Rattle.std.proofs.Common.{◌≡◌, ℕ, suc, List, [], ◌∷◌, ◌++◌, length, Result, Ok, Err, refl, sym, ap, subst, ◌∙◌, append_assoc, append-nil, length-append, inl, inr, arith}
use Rattle.grammar_theory.proofs.Composition.{tokens_of-append, ok_is, err_is, bind_ok, bind_err, fits_at, again_ok}
use Rattle.grammar_theory.proofs.FaultLemmas.{no_text, same_fault}
use Rattle.grammar_theory.proofs.Readings.{Reach, Stuck, Again, Reader}
use Rattle.grammar_theory.proofs.SymbolLemmas.{symbol_reader}
use Rattle.grammar_theory.specs.Choice.{Decided}
use Rattle.grammar_theory.specs.Faults.{AllFit, IsText, Begins, IsFaulty, IsFirstFault}
use Rattle.grammar_theory.specs.Reading.{Outcome, read_symbol, turn_count, ended, read_whole}
use Rattle.grammar_theory.specs.Texts.{tokens_of, Grammar, SymbolText}
use Rattle.grammar_theory.specs.declared.Cause.{Cause}
use Rattle.grammar_theory.specs.declared.Cause.TheVariants.{Unexpected, TooDeep}

read_all_ok : {T X : Type 0} (o : X × List T) (v : X) → ended o ≡ Ok v → o ≡ (v, [])
read_all_ok (x, []) v e = ap (λ u. (u, [])) (ok_is e)
read_all_ok (x, t ∷ rest) v e = absurd cc

read_all_err : {T X : Type 0} (o : X × List T) (cause : Cause) (rest : List T) → ended o ≡ Err (cause, rest) → (t : T) × (tail : List T) × (cause ≡ Unexpected) × (rest ≡ t ∷ tail) × (o.1 ≡ t ∷ tail)
read_all_err (x, []) cause rest e = absurd cc
read_all_err (x, t ∷ tail) cause rest e = let p = err_is e in (t, tail, sym (ap (λ q. q.0) p), sym (ap (λ q. q.1) p), refl)

pair_is : {A B : Type 0} (a b : A) (c d : B) → a ≡ b → c ≡ d → ◌≡◌ {A = A × B} (a, c) (b, d)
pair_is a b c d e h = rw (e, h) refl

same_length : {A : Type 0} (a b c d : List A) → a ++ b ≡ c ++ d → length b ≡ length d → a ≡ c
same_length [] b [] d e l = refl
same_length [] b (y ∷ c) d e l = absurd (let h = ap length e in omega (arith, length-append c d))
same_length (x ∷ a) b [] d e l = absurd (let h = ap length e in omega (arith, length-append a b))
same_length (x ∷ a) b (y ∷ c) d e l =
    let h : x ≡ y = cc in
    let t : a ++ b ≡ c ++ d = cc in
    let u = same_length a b c d t l in cc

tokens_of-length : {T : Type 0} (ms : List (T × ℕ)) → length (tokens_of ms) ≡ length ms
tokens_of-length [] = refl
tokens_of-length (m ∷ ms) = ap suc (tokens_of-length ms)

module _ {N T : Type 0} {V : N → Type 0} (G : Grammar N T V) (F C : N → List ℕ) (checks : Decided G F C) (limit : ℕ) (i : N) where
  read : List T → Outcome T (V i)
  read ts = read_symbol G F limit (turn_count limit checks.ranks) 0 i ts

  reader : Reader G.kind limit (SymbolText G 0 i) (C i) read
  unfolding read
  reader = symbol_reader G F C checks limit 0 i

  again_all : (ms : List (T × ℕ)) (v : V i) → SymbolText G 0 i ms v → Again limit ms v [] (read (tokens_of ms))
  again_all ms v t = subst (λ zs. Again limit ms v [] (read zs)) (append-nil (tokens_of ms)) (reader.again ms v [] t tt)

  pub whole_found : (ts : List T) (v : V i) → read_whole G F checks.ranks limit i ts ≡ Ok v → IsText G limit i ts v
  unfolding read
  whole_found ts v e =
      let a = bind_ok (read ts) ended v e in
      let p = read_all_ok a.0 v a.2 in
      let x = reader.sound ts v [] (a.1 ∙ ap Ok p) in
      record { marks = x.marks; text = x.text; tokens = sym (x.cut ∙ append-nil (tokens_of x.marks)); fits = x.fits }

  pub whole_only : (ts : List T) (v : V i) → IsText G limit i ts v → read_whole G F checks.ranks limit i ts ≡ Ok v
  unfolding read
  whole_only ts v x =
      let a = again_ok limit x.marks v [] (read (tokens_of x.marks)) x.fits (again_all x.marks v x.text) in
      let b : read ts ≡ Ok (v, []) = subst (λ zs. read zs ≡ Ok (v, [])) x.tokens a in
      rw b refl

  -- no text is answered with a fault that isn't one of nesting
  not_unexpected : (ms : List (T × ℕ)) (v : V i) (rest : List T) → SymbolText G 0 i ms v → read (tokens_of ms) ≡ Err (Unexpected, rest) → ⊥
  not_unexpected ms v rest t e = let a = subst (Again limit ms v []) e (again_all ms v t) in let b = a.0 in absurd cc

  -- nor does it leave a rest
  no_rest : (ms : List (T × ℕ)) (v w : V i) (t : T) (tail : List T) → SymbolText G 0 i ms v → read (tokens_of ms) ≡ Ok (w, t ∷ tail) → ⊥
  no_rest ms v w t tail u e = let a = subst (Again limit ms v []) e (again_all ms v u) in let b = ap (λ o. o.1) a.0 in absurd cc

  split : (before after : List (T × ℕ)) (front : List T) (t : T) → tokens_of before ≡ front ++ t ∷ [] → tokens_of (before ++ after) ≡ front ++ t ∷ tokens_of after
  split before after front t e = tokens_of-append before after ∙ ap (λ zs. zs ++ tokens_of after) e ∙ append_assoc front (t ∷ []) (tokens_of after)

  stopped : (ts : List T) (cause : Cause) (rest : List T) → read ts ≡ Err (cause, rest) → Stuck limit (SymbolText G 0 i) read ts cause rest → IsFirstFault G limit i ts cause rest
  stopped ts cause rest e x = record {
    front = x.front;
    cut = x.cut;
    good = record {
      begins = record { before = x.reach.before; after = x.reach.after; value = x.reach.value; text = x.reach.text; tokens = x.reach.tokens };
      fits = x.reach.fits;
    };
    bad = faulty cause rest x.front (subst (λ zs. read zs ≡ Err (cause, rest)) x.cut e) x.stays x.reach;
  }
    where
      faulty : (cause : Cause) (rest front : List T) → read (front ++ rest) ≡ Err (cause, rest) → ((t : T) (tail z : List T) → rest ≡ t ∷ tail → read (front ++ t ∷ z) ≡ Err (cause, t ∷ z)) → Reach limit (SymbolText G 0 i) cause front rest → IsFaulty G limit i front cause rest
      faulty Unexpected [] front cut stays reach = λ v x. not_unexpected x.marks v [] x.text (ap read (x.tokens ∙ sym (append-nil front)) ∙ cut)
      faulty Unexpected (t ∷ rest) front cut stays reach = λ b. not_unexpected (b.before ++ b.after) b.value (t ∷ tokens_of b.after) b.text (ap read (split b.before b.after front t b.tokens) ∙ stays t rest (tokens_of b.after) refl)
      faulty TooDeep [] front cut stays reach = let l = reach.look in absurd (let e = l.3 in cc)
      faulty TooDeep (t ∷ rest) front cut stays reach =
          (goes_on reach.look.0 reach.look.2 (let e = reach.look.3 in cc) reach.look.4, λ b. too_deep b.begins b.fits)
        where
          goes_on : (m : T × ℕ) (more : List (T × ℕ)) → m.0 ≡ t → reach.after ≡ m ∷ more → Begins G i (front ++ t ∷ [])
          goes_on m more e h = record {
            before = reach.before ++ m ∷ [];
            after = more;
            value = reach.value;
            text = subst (λ ms. SymbolText G 0 i ms reach.value) (ap (λ ms. reach.before ++ ms) h ∙ sym (append_assoc reach.before (m ∷ []) more)) reach.text;
            tokens = tokens_of-append reach.before (m ∷ []) ∙ ap (λ zs. zs ++ m.0 ∷ []) reach.tokens ∙ ap (λ u. front ++ u ∷ []) e;
          }

          too_deep : (b : Begins G i (front ++ t ∷ [])) → AllFit limit b.before → ⊥
          too_deep b fits =
              let e = ap read (split b.before b.after front t b.tokens) ∙ stays t rest (tokens_of b.after) refl in
              let a = subst (Again limit (b.before ++ b.after) b.value []) e (again_all (b.before ++ b.after) b.value b.text) in
              let d = a.1 in
              let here : tokens_of b.after ≡ tokens_of d.after ++ [] = (let h = d.here in cc) in
              let len : length b.after ≡ length d.after = sym (tokens_of-length b.after) ∙ ap length (here ∙ append-nil (tokens_of d.after)) ∙ tokens_of-length d.after in
              let same : b.before ≡ d.before ++ (d.token, d.level) ∷ [] = same_length b.before b.after (d.before ++ (d.token, d.level) ∷ []) d.after (d.marks ∙ sym (append_assoc d.before ((d.token, d.level) ∷ []) d.after)) len in
              let le = fits_at limit d.before [] (d.token, d.level) (subst (AllFit limit) same fits) in
              let deep = d.deep in
              omega arith

  pub whole_fault : (ts : List T) (cause : Cause) (rest : List T) → read_whole G F checks.ranks limit i ts ≡ Err (cause, rest) → IsFirstFault G limit i ts cause rest
  unfolding read
  whole_fault ts cause rest e =
      elim (bind_err (read ts) ended (cause, rest) e) [
        | inl h ↦ stopped ts cause rest h (reader.stuck ts cause rest h)
        | inr h ↦
            let p = read_all_err h.0 cause rest h.2 in
            let x = reader.sound ts h.0.0 h.0.1 h.1 in
            rw (p.2, p.3) (record {
              front = tokens_of x.marks;
              cut = x.cut ∙ ap (λ zs. tokens_of x.marks ++ zs) p.4;
              good = record { begins = record { before = x.marks; after = []; value = h.0.0; text = subst (λ ms. SymbolText G 0 i ms h.0.0) (sym (append-nil x.marks)) x.text; tokens = refl }; fits = x.fits };
              bad = λ b. no_rest (b.before ++ b.after) b.value h.0.0 p.0 (tokens_of b.after) b.text (ap read (split b.before b.after (tokens_of x.marks) p.0 b.tokens) ∙ x.keeps p.0 p.1 (tokens_of b.after) p.4);
            })
      ]

  -- the first fault is answered
  pub whole_fault_only : (ts : List T) (cause : Cause) (rest : List T) → IsFirstFault G limit i ts cause rest → read_whole G F checks.ranks limit i ts ≡ Err (cause, rest)
  whole_fault_only ts cause rest f = answer (read_whole G F checks.ranks limit i ts) refl
    where
      answer : (o : Result (V i) (Cause × List T)) → read_whole G F checks.ranks limit i ts ≡ o → o ≡ Err (cause, rest)
      answer (Ok v) e = absurd (no_text G limit i ts v cause rest (whole_found ts v e) f)
      answer (Err d) e = let p = same_fault G limit i ts d.0 cause d.1 rest (whole_fault ts d.0 d.1 e) f in ap (λ z. Err z) (pair_is d.0 cause d.1 rest p.0 p.1)
