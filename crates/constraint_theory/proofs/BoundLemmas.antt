-- A visit lowers the number of waiting keys plus the room that is left, so there is a bound on visits.
use Rattle.std.proofs.Common.{◌≡◌, ℕ, ◌+◌, ◌*◌, ◌-◌, ◌<◌, ◌≤◌, true, false, List, [], ◌∷◌, ◌++◌, length, arith, length-append}
use Rattle.std.specs.Prelude.{sum_by}
use Rattle.std.proofs.Math.Nat.{mul-le-mul_right}
use Rattle.std.proofs.lemmas.Bool.{both_ways, false_from_ne_true}
use Rattle.list_theory.specs.Lists.{has, without}
use Rattle.constraint_theory.specs.Systems.{Fits, ConstraintSystem, IsLawful, Fitting, holds, readers, bound, Equality, IsEquality, IsKey, IsUnknown}
use Rattle.constraint_theory.specs.Machine.{State, IsSound, IsClosed, joined, replay, begin, visited, Legal, after, room, potential, bound_within}
use Rattle.list_theory.proofs.ListLemmas.{length-push_all, length-without, length_distinct, sum-falls, sum-le}
use Rattle.constraint_theory.proofs.LeastLemmas as theory
use Rattle.constraint_theory.proofs.VisitLemmas as visits

module _ {K U V : Type 0} (same : Equality K U) (tells : IsEquality same) (s : ConstraintSystem K U V) (law : IsLawful same s) where
  -- a visit that raises takes as much room as keys may begin to wait
  smaller : (h r' r n : ℕ) → r < r' → r' ≤ h → (h - r') * n + n ≤ (h - r) * n
  smaller h r' r n lt le = let k : (h - r') + 1 ≤ h - r = omega arith in omega (arith, mul-le-mul_right n k)

  room_falls : (a : U → V) (k : K) (us : List U) → Fitting same s a → IsKey same s k → ((u : U) → has same.unknown us u ≡ true → IsUnknown same s u) → has same.unknown us (s.target k) ≡ true → holds same s a k ≡ false → room same s (joined same s a k) us + length (readers same s (s.target k)) ≤ room same s a us
  room_falls a k us fa known used there fails =
      let t_used : IsUnknown same s (s.target k) = law.monotone.target_used k known in
      let ft : Fits s (s.target k) (a (s.target k)) = fa (s.target k) t_used in
      let fe : Fits s (s.target k) (s.eval k a) = law.monotone.eval_fits k a known fa in
      let fj : Fits s (s.target k) (s.join (s.target k) (a (s.target k)) (s.eval k a)) = law.monotone.join_fits (s.target k) (a (s.target k)) (s.eval k a) t_used ft fe in
      let strict : s.leq (s.target k) (s.join (s.target k) (a (s.target k)) (s.eval k a)) (a (s.target k)) ≡ false =
      false_from_ne_true (s.leq (s.target k) (s.join (s.target k) (a (s.target k)) (s.eval k a)) (a (s.target k))) (λ le. both_ways (holds same s a k) fails
      (theory.leq_trans same tells s law.monotone (s.target k) (s.eval k a) (s.join (s.target k) (a (s.target k)) (s.eval k a)) (a (s.target k)) t_used fe fj ft (theory.leq_join_right same tells s law.monotone (s.target k) (a (s.target k)) (s.eval k a) t_used ft fe) le)) in
      let rises : s.rank (s.target k) (a (s.target k)) < s.rank (s.target k) (s.join (s.target k) (a (s.target k)) (s.eval k a)) =
      law.ranks.rank_rises (s.target k) (a (s.target k)) (s.join (s.target k) (a (s.target k)) (s.eval k a)) t_used ft fj (theory.leq_join_left same tells s law.monotone (s.target k) (a (s.target k)) (s.eval k a) t_used ft fe) strict in
      let within : s.rank (s.target k) (s.join (s.target k) (a (s.target k)) (s.eval k a)) ≤ s.height (s.target k) = law.ranks.rank_within (s.target k) (s.join (s.target k) (a (s.target k)) (s.eval k a)) t_used fj in
      let less : (s.height (s.target k) - s.rank (s.target k) (s.join (s.target k) (a (s.target k)) (s.eval k a))) * length (readers same s (s.target k)) + length (readers same s (s.target k)) ≤ (s.height (s.target k) - s.rank (s.target k) (a (s.target k))) * length (readers same s (s.target k)) =
      smaller (s.height (s.target k)) (s.rank (s.target k) (s.join (s.target k) (a (s.target k)) (s.eval k a))) (s.rank (s.target k) (a (s.target k))) (length (readers same s (s.target k))) rises within in
      sum-falls same.unknown tells.unknowns (λ u. (s.height u - s.rank u (a u)) * length (readers same s u)) (λ u. (s.height u - s.rank u (joined same s a k u)) * length (readers same s u)) (s.target k) (length (readers same s (s.target k))) us
      (λ u h. theory.at_step same tells s law.monotone (λ w v. (s.height w - s.rank w v) * length (readers same s w) ≤ (s.height w - s.rank w (a w)) * length (readers same s w)) a k u (omega (arith, less)) (λ _. omega arith))
      (rw (theory.joined_here same tells s law.monotone a k) less)
      there

  pub potential_falls : (us : List U) (st : State K) (k : K) → IsSound same s st → IsClosed same s us st.waiting → has same.key st.waiting k ≡ true → potential same s (visited same s st k) us < potential same s st us
  potential_falls us st k sound closed waits =
      visits.by_outcome same tells s law.monotone (λ t. potential same s t us < potential same s st us) st k
      (λ h. omega (arith, length-without same.key tells.keys st.waiting k waits))
      (λ h. rw (visits.replay_raised same tells s law.monotone st k)
      (omega (
        arith,
        length-without same.key tells.keys st.waiting k waits,
        length-push_all same.key tells.keys (readers same s (s.target k)) (without same.key st.waiting k),
        room_falls (replay same s st.steps) k us (theory.fits_replay same tells s law.monotone st.steps sound.steps_known) (sound.waiting_known k waits) closed.in_use (closed.targets k waits) h,
      )))

  visits_within : (us : List U) (ks : List K) (st : State K) → IsSound same s st → IsClosed same s us st.waiting → Legal same s st ks → length ks ≤ potential same s st us
  visits_within us [] st sound closed legal = omega arith
  visits_within us (k ∷ ks) st sound closed legal =
      omega (arith, potential_falls us st k sound closed legal.0, visits_within us ks (visited same s st k) (visits.sound_visited same tells s law.monotone st k sound legal.0) (visits.closed_visited same tells s law.monotone us st k closed legal.0) legal.1)

  room_within : (a : U → V) (us : List U) → room same s a us ≤ sum_by (λ u. s.height u * length (readers same s u)) us
  room_within a us = sum-le same.unknown tells.unknowns (λ u. s.height u * length (readers same s u)) (λ u. (s.height u - s.rank u (a u)) * length (readers same s u)) us
      (λ u _. let le : s.height u - s.rank u (a u) ≤ s.height u = omega arith in omega (arith, mul-le-mul_right (length (readers same s u)) le))

  -- the one law: where a closed set holds the targets of all that waits, no legal list of visits is longer than its bound
  pub visits_bounded : (us : List U) (ks : List K) (st : State K) → IsSound same s st → IsClosed same s us st.waiting → Legal same s st ks → length ks ≤ bound_within same s us st.waiting
  visits_bounded us ks st sound closed legal = omega (arith, visits_within us ks st sound closed legal, room_within (replay same s st.steps) us)

  pub visits_from_begin : (ks : List K) → Legal same s (begin same s) ks → length ks ≤ bound same s
  visits_from_begin ks legal = visits_bounded s.unknowns ks (begin same s) (theory.sound_begin same tells s law.monotone) (visits.closed_all same tells s law.monotone s.keys (λ k h. h)) legal

  -- from any sound state
  pub visits_from_sound : (ks : List K) (st : State K) → IsSound same s st → Legal same s st ks → length ks ≤ bound same s
  visits_from_sound ks st sound legal =
      omega (arith, visits_bounded s.unknowns ks st sound (visits.closed_all same tells s law.monotone st.waiting sound.waiting_known) legal, length_distinct same.key tells.keys st.waiting s.keys sound.waiting_once sound.waiting_known)

  -- so they are fewer than the bound
  pub unfinished : (us : List U) (ks : List K) (st : State K) → IsSound same s st → IsClosed same s us st.waiting → Legal same s st ks → 0 < length (after same s st ks).waiting → length ks < bound_within same s us st.waiting
  unfinished us ks st sound closed legal more =
      let next : (k : K) × Legal same s st (ks ++ k ∷ []) = visits.goes_on same tells s law.monotone ks st legal more in
      omega (arith, visits_bounded us (ks ++ next.0 ∷ []) st sound closed next.1, length-append ks (next.0 ∷ []))

  pub unfinished_from_sound : (ks : List K) (st : State K) → IsSound same s st → Legal same s st ks → 0 < length (after same s st ks).waiting → length ks < bound same s
  unfinished_from_sound ks st sound legal more =
      let next : (k : K) × Legal same s st (ks ++ k ∷ []) = visits.goes_on same tells s law.monotone ks st legal more in
      omega (arith, visits_from_sound (ks ++ next.0 ∷ []) st sound next.1, length-append ks (next.0 ∷ []))
