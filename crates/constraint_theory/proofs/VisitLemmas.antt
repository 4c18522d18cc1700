-- A visit keeps a state sound, and the set closed over which visits go.
use Rattle.std.proofs.Common.{◌≡◌, ◌<◌, true, false, cond, ◌⊎◌, List, [], ◌∷◌, ◌++◌, length, refl, sym, ap, ◌∙◌, arith, inl, inr}
use Rattle.std.proofs.lemmas.Bool.{or_left, both_ways, false_from_ne_true, cases_Bool}
use Rattle.list_theory.specs.Lists.{has, without, push_all}
use Rattle.constraint_theory.specs.Systems.{ConstraintSystem, IsMonotone, Fitting, holds, readers, Equality, IsEquality, IsKey, IsUnknown}
use Rattle.constraint_theory.specs.Machine.{State, IsSound, IsClosed, joined, replay, visited, Legal, after}
use Rattle.list_theory.proofs.ListLemmas.{unlike, has-filter, has-filter_from, has-without, has-without_gone, has-push_all, push_all_keeps, push_all_there, distinct-without, distinct-push_all}
use Rattle.constraint_theory.proofs.LeastLemmas as theory

module _ {K U V : Type 0} (same : Equality K U) (tells : IsEquality same) (s : ConstraintSystem K U V) (law : IsMonotone same s) where
  -- a visit where the key's value is below
  abbrev held : State K → K → State K
  held st k = record { steps = st.steps; waiting = without same.key st.waiting k }

  -- and where it isn't
  abbrev raised : State K → K → State K
  raised st k = record { steps = st.steps ++ k ∷ []; waiting = push_all same.key (without same.key st.waiting k) (readers same s (s.target k)) }

  -- what stands for both outcomes stands for the visit
  pub by_outcome : (P : State K → Type 0) (st : State K) (k : K) → (holds same s (replay same s st.steps) k ≡ true → P (held st k)) → (holds same s (replay same s st.steps) k ≡ false → P (raised st k)) → P (visited same s st k)
  by_outcome P st k one other =
      elim (holds same s (replay same s st.steps) k) as (λ b. holds same s (replay same s st.steps) k ≡ b → P (cond b (held st k) (raised st k))) [ true ↦ one | false ↦ other ] refl

  waiting_from : (st : State K) (k j : K) → has same.key (raised st k).waiting j ≡ true → (has same.key st.waiting j ≡ true) ⊎ (has same.key (readers same s (s.target k)) j ≡ true)
  waiting_from st k j h =
      elim (has-push_all same.key tells.keys (readers same s (s.target k)) (without same.key st.waiting k) j h) [ inl e ↦ inl (has-without same.key tells.keys st.waiting k j e).0 | inr e ↦ inr e ]

  reader_known : (u : U) (k : K) → has same.key (readers same s u) k ≡ true → IsKey same s k
  reader_known u k h = (has-filter same.key tells.keys (λ j. has same.unknown (s.reads j) u) s.keys k h).0

  pub replay_raised : (st : State K) (k : K) → replay same s (raised st k).steps ≡ joined same s (replay same s st.steps) k
  replay_raised st k = theory.replay_push same tells s law st.steps s.bottom k

  steps_raised : (st : State K) (k : K) → IsSound same s st → has same.key st.waiting k ≡ true → theory.AllKnown same tells s law (st.steps ++ k ∷ [])
  steps_raised st k sound waits = theory.known_push same tells s law st.steps k sound.steps_known (sound.waiting_known k waits)

  -- a key that does not read the target of a step has same.key its value as before
  eval_kept : (a : U → V) (k j : K) → Fitting same s a → IsKey same s k → IsKey same s j → has same.unknown (s.reads j) (s.target k) ≡ false → s.eval j a ≡ s.eval j (joined same s a k)
  eval_kept a k j fa known_k known_j unread =
      law.eval_reads j a (joined same s a k) known_j fa (theory.fits_joined same tells s law a k fa known_k)
      (λ u read. sym (theory.joined_other same tells s law a k u (unlike same.unknown tells.unknowns u (s.target k) (λ e. both_ways (has same.unknown (s.reads j) (s.target k)) unread (ap (has same.unknown (s.reads j)) (sym e) ∙ read)))))

  -- after a step, a key that held and doesn't read the target holds
  holds_kept : (a : U → V) (k j : K) → Fitting same s a → IsKey same s k → IsKey same s j → has same.unknown (s.reads j) (s.target k) ≡ false → holds same s a j ≡ true → holds same s (joined same s a k) j ≡ true
  holds_kept a k j fa known_k known_j unread h =
      let used : IsUnknown same s (s.target j) = law.target_used j known_j in
      ap (λ v. s.leq (s.target j) v (joined same s a k (s.target j))) (sym (eval_kept a k j fa known_k known_j unread))
      ∙ (theory.leq_trans same tells s law (s.target j) (s.eval j a) (a (s.target j)) (joined same s a k (s.target j)) used (law.eval_fits j a known_j fa) (fa (s.target j) used) (theory.fits_joined same tells s law a k fa known_k (s.target j) used) h (theory.below_joined same tells s law a k fa known_k (s.target j) used))

  -- and so does the key of the step itself
  holds_itself : (a : U → V) (k : K) → Fitting same s a → IsKey same s k → has same.unknown (s.reads k) (s.target k) ≡ false → holds same s (joined same s a k) k ≡ true
  holds_itself a k fa known unread =
      let used : IsUnknown same s (s.target k) = law.target_used k known in
      ap (λ v. s.leq (s.target k) v (joined same s a k (s.target k))) (sym (eval_kept a k k fa known known unread))
      ∙ (ap (s.leq (s.target k) (s.eval k a)) (theory.joined_here same tells s law a k)
      ∙ theory.leq_join_right same tells s law (s.target k) (a (s.target k)) (s.eval k a) used (fa (s.target k) used) (law.eval_fits k a known fa))

  pub sound_visited : (st : State K) (k : K) → IsSound same s st → has same.key st.waiting k ≡ true → IsSound same s (visited same s st k)
  sound_visited st k sound waits =
      by_outcome (IsSound same s) st k
      (λ h. record {
        steps_known = sound.steps_known;
        waiting_known = λ j w. sound.waiting_known j (has-without same.key tells.keys st.waiting k j w).0;
        waiting_once = distinct-without same.key tells.keys st.waiting k sound.waiting_once;
        satisfied = λ j known n. elim (cases_Bool (has same.key st.waiting j)) [
          | inl e ↦ rw (has-without_gone same.key tells.keys st.waiting k j e n) h
          | inr e ↦ sound.satisfied j known e
        ];
      })
      (λ h. record {
        steps_known = steps_raised st k sound waits;
        waiting_known = λ j w. elim (waiting_from st k j w) [ inl e ↦ sound.waiting_known j e | inr e ↦ reader_known (s.target k) j e ];
        waiting_once = distinct-push_all same.key tells.keys (readers same s (s.target k)) (without same.key st.waiting k) (distinct-without same.key tells.keys st.waiting k sound.waiting_once);
        satisfied = λ j known n.
            let a : U → V = replay same s st.steps in
            let fa : Fitting same s (replay same s st.steps) = theory.fits_replay same tells s law st.steps sound.steps_known in
            let known_k : IsKey same s k = sound.waiting_known k waits in
            let unread : has same.unknown (s.reads j) (s.target k) ≡ false = false_from_ne_true (has same.unknown (s.reads j) (s.target k)) (λ r. both_ways (has same.key (raised st k).waiting j) n (push_all_there same.key tells.keys (readers same s (s.target k)) (without same.key st.waiting k) j (has-filter_from same.key tells.keys (λ i. has same.unknown (s.reads i) (s.target k)) s.keys j known r))) in
            let gone : has same.key (without same.key st.waiting k) j ≡ false = false_from_ne_true (has same.key (without same.key st.waiting k) j) (λ r. both_ways (has same.key (raised st k).waiting j) n (push_all_keeps same.key tells.keys (readers same s (s.target k)) (without same.key st.waiting k) j r)) in
            rw (replay_raised st k) (elim (cases_Bool (has same.key st.waiting j)) [
              | inl e ↦ let same_key : j ≡ k = has-without_gone same.key tells.keys st.waiting k j e gone in
                  let unread_k : has same.unknown (s.reads k) (s.target k) ≡ false = ap (λ i. has same.unknown (s.reads i) (s.target k)) (sym same_key) ∙ unread in
                  rw same_key (holds_itself (replay same s st.steps) k fa known_k unread_k)
              | inr e ↦ holds_kept (replay same s st.steps) k j fa known_k known unread (sound.satisfied j known e)
            ]);
      })

  pub sound_after : (ks : List K) (st : State K) → IsSound same s st → Legal same s st ks → IsSound same s (after same s st ks)
  sound_after [] st sound legal = sound
  sound_after (k ∷ ks) st sound legal = sound_after ks (visited same s st k) (sound_visited st k sound legal.0) legal.1

  pub closed_visited : (us : List U) (st : State K) (k : K) → IsClosed same s us st.waiting → has same.key st.waiting k ≡ true → IsClosed same s us (visited same s st k).waiting
  closed_visited us st k closed waits =
      by_outcome (λ t. IsClosed same s us t.waiting) st k
      (λ h. record { in_use = closed.in_use; targets = λ j w. closed.targets j (has-without same.key tells.keys st.waiting k j w).0; readers_too = closed.readers_too })
      (λ h. record {
        in_use = closed.in_use;
        targets = λ j w. elim (waiting_from st k j w) [ inl e ↦ closed.targets j e | inr e ↦ closed.readers_too (s.target k) j (closed.targets k waits) e ];
        readers_too = closed.readers_too;
      })

  pub closed_all : (waiting : List K) → ((k : K) → has same.key waiting k ≡ true → IsKey same s k) → IsClosed same s s.unknowns waiting
  closed_all waiting known = record {
    in_use = λ u h. h;
    targets = λ k h. law.target_used k (known k h);
    readers_too = λ u k _ h. law.target_used k (reader_known u k h);
  }

  -- one visit more
  pub legal_push : (ks : List K) (st : State K) (k : K) → Legal same s st ks → has same.key (after same s st ks).waiting k ≡ true → Legal same s st (ks ++ k ∷ [])
  legal_push [] st k legal waits = (waits, tt)
  legal_push (j ∷ ks) st k legal waits = (legal.0, legal_push ks (visited same s st j) k legal.1 waits)

  pub after_push : (ks : List K) (st : State K) (k : K) → after same s st (ks ++ k ∷ []) ≡ visited same s (after same s st ks) k
  after_push [] st k = refl
  after_push (j ∷ ks) st k = after_push ks (visited same s st j) k

  -- a list that isn't empty has an item
  some_there : (ks : List K) → 0 < length ks → (k : K) × (has same.key ks k ≡ true)
  some_there [] h = absurd (omega arith)
  some_there (k ∷ ks) h = (k, or_left (same.key k k) (has same.key ks k) (tells.keys.itself k))

  -- where something waits still, the visits could go on
  pub goes_on : (ks : List K) (st : State K) → Legal same s st ks → 0 < length (after same s st ks).waiting → (k : K) × Legal same s st (ks ++ k ∷ [])
  goes_on ks st legal more =
      let k : (k : K) × (has same.key (after same s st ks).waiting k ≡ true) = some_there (after same s st ks).waiting more in
      (k.0, legal_push ks st k.0 legal k.1)
