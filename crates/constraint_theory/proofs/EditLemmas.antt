-- The machine's edit keeps a sound state sound, its values are the shifted replay, and few visits follow.
use Rattle.std.proofs.Common.{◌≡◌, ◌≤◌, Bool, true, false, cond, not, ◌||◌, ◌⊎◌, List, [], ◌∷◌, length, refl, sym, ap, ◌∙◌, arith, inl, inr}
use Rattle.std.specs.Prelude.{filter}
use Rattle.std.proofs.lemmas.Bool.{true≢false, or_cases, or_left, or_right, or_parts, and_parts, and_from, both_ways, false_from_ne_true, cases_Bool, not-true, not_from_false}
use Rattle.list_theory.specs.Lists.{has, push_all}
use Rattle.list_theory.proofs.ListLemmas.{has-filter, has-filter_from, has-push_all, push_all_keeps, push_all_there, distinct-push_all, distinct-filter, push_all-nil}
use Rattle.constraint_theory.specs.Systems.{Fits, ConstraintSystem, IsMonotone, IsLawful, Fitting, AllBelow, holds, Equality, IsEquality, IsKey, IsUnknown, Reads}
use Rattle.constraint_theory.specs.Machine.{State, IsSound, IsClosed, joined, replay, replay_from, Legal}
use Rattle.constraint_theory.specs.Edits.{Movable, Change, IsEdit, IsTaint, IsTainted, IsRegion, IsReach, AreEditedValues, stays, unknown_stays, renewed, edited, edit_bound}
use Rattle.constraint_theory.proofs.LeastLemmas as theory
use Rattle.constraint_theory.proofs.BoundLemmas as bounds

module _ {K U V : Type 0} (same : Equality K U) (tells : IsEquality same) (s t : ConstraintSystem K U V) (e : Change K U V) (old : IsMonotone same s) (new : IsMonotone same t) (edit : IsEdit same s t e) where
  pub known_before : (k : K) → stays same s t e k ≡ true → IsKey same s k
  known_before k h = (and_parts (has same.key s.keys k) (not (has same.key e.gone k)) h).0

  pub used_before : (u : U) → unknown_stays same s t e u ≡ true → IsUnknown same s u
  used_before u h = (and_parts (has same.unknown s.unknowns u) (not (has same.unknown e.gone_unknowns u)) h).0

  pub known_after : (k : K) → stays same s t e k ≡ true → IsKey same t k
  known_after k h = edit.lists.keys k ∙ or_left (stays same s t e k) (has same.key e.added k) h

  pub used_after : (u : U) → unknown_stays same s t e u ≡ true → IsUnknown same t u
  used_after u h = edit.lists.unknowns u ∙ or_left (unknown_stays same s t e u) (has same.unknown e.added_unknowns u) h

  module _ (taint : U → Bool) where
    -- old values and new ones: shifted where there is no taint, and least where there is
    record Related (a b : U → V) : Type 0 where
      fits : Fitting same s a
      fits_new : Fitting same t b
      movable : (u : U) → unknown_stays same s t e u ≡ true → taint u ≡ false → Movable e (a u)
      shifted : (u : U) → unknown_stays same s t e u ≡ true → taint u ≡ false → b u ≡ e.shift (a u)
      least : (u : U) → (unknown_stays same s t e u ≡ false) ⊎ (taint u ≡ true) → b u ≡ t.bottom u

    start : Related s.bottom t.bottom
    start = record {
      fits = old.bottom_fits;
      fits_new = new.bottom_fits;
      movable = λ u h _. edit.bottom_movable u h;
      shifted = λ u h _. edit.shift_bottom u h;
      least = λ _ _. refl;
    }

    -- a step into the taint is left out
    skipped : (a b : U → V) (k : K) → Related a b → IsKey same s k → taint (s.target k) ≡ true → Related (joined same s a k) b
    skipped a b k r known tainted =
        let other : (u : U) → taint u ≡ false → joined same s a k u ≡ a u = λ u clean. theory.joined_other same tells s old a k u (false_from_ne_true (same.unknown u (s.target k)) (λ p. both_ways (taint u) clean (ap taint (tells.unknowns.exact u (s.target k) p) ∙ tainted))) in
        record {
          fits = theory.fits_joined same tells s old a k r.fits known;
          fits_new = r.fits_new;
          movable = λ u h clean. rw (other u clean) (r.movable u h clean);
          shifted = λ u h clean. r.shifted u h clean ∙ ap e.shift (sym (other u clean));
          least = r.least;
        }

    -- a step elsewhere, that reads no taint, gives the shifted value
    kept : (a b : U → V) (k : K) → Related a b → stays same s t e k ≡ true → taint (s.target k) ≡ false → ((u : U) → Reads same s k u → taint u ≡ false) → Related (joined same s a k) (joined same t b k)
    kept a b k r here clean clean_reads =
        let known : IsKey same s k = known_before k here in
        let known_new : IsKey same t k = known_after k here in
        let used : unknown_stays same s t e (s.target k) ≡ true = edit.target_stays k here in
        let used_s : IsUnknown same s (s.target k) = used_before (s.target k) used in
        let target : t.target k ≡ s.target k = edit.same_target k here in
        let movable_reads : (u : U) → Reads same s k u → Movable e (a u) = λ u read. r.movable u (edit.reads_stay k u here read) (clean_reads u read) in
        let value : t.eval k b ≡ e.shift (s.eval k a) = edit.shift_eval k a b here r.fits r.fits_new movable_reads (λ u read. r.shifted u (edit.reads_stay k u here read) (clean_reads u read)) in
        let fits_value : Fits s (s.target k) (s.eval k a) = old.eval_fits k a known r.fits in
        let movable_value : Movable e (s.eval k a) = edit.eval_movable k a here r.fits movable_reads in
        let fits_old : Fits t (s.target k) (e.shift (a (s.target k))) = rw (← r.shifted (s.target k) used clean) (r.fits_new (s.target k) (used_after (s.target k) used)) in
        let fits_shifted : Fits t (s.target k) (e.shift (s.eval k a)) = rw (← value, ← target) (new.eval_fits k b known_new r.fits_new) in
        let at_target : t.join (s.target k) (b (s.target k)) (t.eval k b) ≡ e.shift (s.join (s.target k) (a (s.target k)) (s.eval k a)) =
        ap (λ x. t.join (s.target k) x (t.eval k b)) (r.shifted (s.target k) used clean) ∙ ap (t.join (s.target k) (e.shift (a (s.target k)))) value
        ∙ sym (edit.shift_join (s.target k) (a (s.target k)) (s.eval k a) used (r.fits (s.target k) used_s) fits_value (r.movable (s.target k) used clean) movable_value fits_old fits_shifted) in
        let new_here : joined same t b k (s.target k) ≡ e.shift (joined same s a k (s.target k)) =
        ap (joined same t b k) (sym target) ∙ theory.joined_here same tells t new b k ∙ ap (λ w. t.join w (b w) (t.eval k b)) target ∙ at_target ∙ ap e.shift (sym (theory.joined_here same tells s old a k)) in
        record {
          fits = theory.fits_joined same tells s old a k r.fits known;
          fits_new = theory.fits_joined same tells t new b k r.fits_new known_new;
          movable = λ u h c. theory.at_step same tells s old (λ w v. Movable e v) a k u
              (edit.join_movable (s.target k) (a (s.target k)) (s.eval k a) used (r.fits (s.target k) used_s) fits_value (r.movable (s.target k) used clean) movable_value) (λ _. r.movable u h c);
          shifted = λ u h c. elim (cases_Bool (same.unknown u (s.target k))) [
            | inl p ↦ rw (tells.unknowns.exact u (s.target k) p) new_here
            | inr p ↦ theory.joined_other same tells t new b k u (ap (same.unknown u) target ∙ p) ∙ r.shifted u h c ∙ ap e.shift (sym (theory.joined_other same tells s old a k u p))
          ];
          least = λ u why. theory.joined_other same tells t new b k u (ap (same.unknown u) target ∙ false_from_ne_true (same.unknown u (s.target k)) (λ p. elim why [
            | inl out ↦ both_ways (unknown_stays same s t e u) out (ap (unknown_stays same s t e) (tells.unknowns.exact u (s.target k) p) ∙ used)
            | inr tainted ↦ both_ways (taint (s.target k)) clean (ap taint (sym (tells.unknowns.exact u (s.target k) p)) ∙ tainted)
          ])) ∙ r.least u why;
        }

    module _ (steps : List K) (closed : IsTaint same s t e steps taint) (all_known : (k : K) → has same.key steps k ≡ true → IsKey same s k) where
      -- a kept step isn't gone and reads no taint
      pub kept_stays : (k : K) → has same.key steps k ≡ true → taint (s.target k) ≡ false → stays same s t e k ≡ true
      kept_stays k h clean = and_from (has same.key s.keys k) (not (has same.key e.gone k)) (all_known k h) (not_from_false (has same.key e.gone k) (false_from_ne_true (has same.key e.gone k) (λ g. both_ways (taint (s.target k)) clean (closed.from_gone k h g))))

      kept_reads : (k : K) (u : U) → has same.key steps k ≡ true → taint (s.target k) ≡ false → Reads same s k u → taint u ≡ false
      kept_reads k u h clean read = false_from_ne_true (taint u) (λ p. both_ways (taint (s.target k)) clean (closed.along k u h read p))

      related_from : (ks : List K) (a b : U → V) → ((k : K) → has same.key ks k ≡ true → has same.key steps k ≡ true) → Related a b → Related (replay_from same s a ks) (replay_from same t b (filter (λ k. not (taint (s.target k))) ks))
      related_from [] a b sub r = r
      related_from (k ∷ ks) a b sub r =
          let here : has same.key steps k ≡ true = sub k (or_left (same.key k k) (has same.key ks k) (tells.keys.itself k)) in
          let rest : (j : K) → has same.key ks j ≡ true → has same.key steps j ≡ true = λ j h. sub j (or_right (same.key k j) (has same.key ks j) h) in
          elim (taint (s.target k)) as (λ v. taint (s.target k) ≡ v → Related (replay_from same s (joined same s a k) ks) (replay_from same t b (cond (not v) (k ∷ filter (λ j. not (taint (s.target j))) ks) (filter (λ j. not (taint (s.target j))) ks)))) [
            | true ↦ λ p. related_from ks (joined same s a k) b rest (skipped a b k r (all_known k here) p)
            | false ↦ λ p. related_from ks (joined same s a k) (joined same t b k) rest (kept a b k r (kept_stays k here p) p (λ u read. kept_reads k u here p read))
          ] refl

      -- the values after the edit
      related : Related (replay same s steps) (replay same t (filter (λ k. not (taint (s.target k))) steps))
      related = related_from steps s.bottom t.bottom (λ _ h. h) start

      -- values at an unknown that stays: shifted, or least where it is tainted
      pub value_kept : (u : U) → unknown_stays same s t e u ≡ true → taint u ≡ false → replay same t (filter (λ k. not (taint (s.target k))) steps) u ≡ e.shift (replay same s steps u)
      value_kept u h clean = related.shifted u h clean

      pub value_movable : (u : U) → unknown_stays same s t e u ≡ true → taint u ≡ false → Movable e (replay same s steps u)
      value_movable u h clean = related.movable u h clean

      pub value_reset : (u : U) → taint u ≡ true → replay same t (filter (λ k. not (taint (s.target k))) steps) u ≡ t.bottom u
      value_reset u tainted = related.least u (inr tainted)

      -- and at one that is added
      pub value_added : (u : U) → has same.unknown e.added_unknowns u ≡ true → replay same t (filter (λ k. not (taint (s.target k))) steps) u ≡ t.bottom u
      value_added u added = related.least u (inl (false_from_ne_true (unknown_stays same s t e u) (λ h. both_ways (has same.unknown s.unknowns u) (edit.lists.unknowns_new u added) (used_before u h))))

      pub edited_values : AreEditedValues same s t e taint (replay same s steps) (replay same t (filter (λ k. not (taint (s.target k))) steps))
      edited_values = record { kept = value_kept; reset = value_reset; added = value_added }

      -- a key that stays, aims at no taint and held, holds after the edit
      holds_after : (k : K) → stays same s t e k ≡ true → taint (s.target k) ≡ false → holds same s (replay same s steps) k ≡ true → holds same t (replay same t (filter (λ j. not (taint (s.target j))) steps)) k ≡ true
      holds_after k here clean h =
          let a : U → V = replay same s steps in
          let b : U → V = replay same t (filter (λ j. not (taint (s.target j))) steps) in
          let lower : U → V = λ u. cond (taint u) (s.bottom u) (replay same s steps u) in
          let known : IsKey same s k = known_before k here in
          let used : unknown_stays same s t e (s.target k) ≡ true = edit.target_stays k here in
          let used_s : IsUnknown same s (s.target k) = used_before (s.target k) used in
          let target : t.target k ≡ s.target k = edit.same_target k here in
          let fits_lower : Fitting same s (λ u. cond (taint u) (s.bottom u) (replay same s steps u)) = λ u h. elim (taint u) as (λ v. Fits s u (cond v (s.bottom u) (replay same s steps u))) [ true ↦ old.bottom_fits u h | false ↦ related.fits u h ] in
          let below : AllBelow same s (λ u. cond (taint u) (s.bottom u) (replay same s steps u)) (replay same s steps) = λ u h. elim (taint u) as (λ v. s.leq u (cond v (s.bottom u) (replay same s steps u)) (replay same s steps u) ≡ true) [
            | true ↦ theory.bottom_least same tells s old u (replay same s steps u) h (related.fits u h)
            | false ↦ theory.leq_refl same tells s old u (replay same s steps u) h (related.fits u h)
          ] in
          let movable : (u : U) → Reads same s k u → Movable e (cond (taint u) (s.bottom u) (replay same s steps u)) = λ u read. elim (taint u) as (λ v. taint u ≡ v → Movable e (cond v (s.bottom u) (replay same s steps u))) [
            | true ↦ λ _. edit.bottom_movable u (edit.reads_stay k u here read)
            | false ↦ λ p. related.movable u (edit.reads_stay k u here read) p
          ] refl in
          let shifted : (u : U) → Reads same s k u → replay same t (filter (λ j. not (taint (s.target j))) steps) u ≡ e.shift (cond (taint u) (s.bottom u) (replay same s steps u)) = λ u read. elim (taint u) as (λ v. taint u ≡ v → replay same t (filter (λ j. not (taint (s.target j))) steps) u ≡ e.shift (cond v (s.bottom u) (replay same s steps u))) [
            | true ↦ λ p. related.least u (inr p) ∙ edit.shift_bottom u (edit.reads_stay k u here read)
            | false ↦ λ p. related.shifted u (edit.reads_stay k u here read) p
          ] refl in
          let value : t.eval k (replay same t (filter (λ j. not (taint (s.target j))) steps)) ≡ e.shift (s.eval k (λ u. cond (taint u) (s.bottom u) (replay same s steps u))) =
          edit.shift_eval k (λ u. cond (taint u) (s.bottom u) (replay same s steps u)) (replay same t (filter (λ j. not (taint (s.target j))) steps)) here fits_lower related.fits_new movable shifted in
          let fits_value : Fits s (s.target k) (s.eval k (λ u. cond (taint u) (s.bottom u) (replay same s steps u))) = old.eval_fits k (λ u. cond (taint u) (s.bottom u) (replay same s steps u)) known fits_lower in
          let fits_shifted : Fits t (s.target k) (e.shift (s.eval k (λ u. cond (taint u) (s.bottom u) (replay same s steps u)))) = rw (← value, ← target) (new.eval_fits k (replay same t (filter (λ j. not (taint (s.target j))) steps)) (known_after k here) related.fits_new) in
          let fits_old : Fits t (s.target k) (e.shift (replay same s steps (s.target k))) = rw (← related.shifted (s.target k) used clean) (related.fits_new (s.target k) (used_after (s.target k) used)) in
          let smaller : s.leq (s.target k) (s.eval k (λ u. cond (taint u) (s.bottom u) (replay same s steps u))) (replay same s steps (s.target k)) ≡ true =
          theory.leq_trans same tells s old (s.target k) (s.eval k (λ u. cond (taint u) (s.bottom u) (replay same s steps u))) (s.eval k (replay same s steps)) (replay same s steps (s.target k)) used_s fits_value (old.eval_fits k (replay same s steps) known related.fits) (related.fits (s.target k) used_s)
          (old.eval_monotone k (λ u. cond (taint u) (s.bottom u) (replay same s steps u)) (replay same s steps) known fits_lower related.fits below) h in
          ap (λ w. t.leq w (t.eval k (replay same t (filter (λ j. not (taint (s.target j))) steps))) (replay same t (filter (λ j. not (taint (s.target j))) steps) w)) target
          ∙ ap (λ v. t.leq (s.target k) v (replay same t (filter (λ j. not (taint (s.target j))) steps) (s.target k))) value
          ∙ ap (t.leq (s.target k) (e.shift (s.eval k (λ u. cond (taint u) (s.bottom u) (replay same s steps u))))) (related.shifted (s.target k) used clean)
          ∙ edit.shift_leq (s.target k) (s.eval k (λ u. cond (taint u) (s.bottom u) (replay same s steps u))) (replay same s steps (s.target k)) used fits_value (related.fits (s.target k) used_s)
          (edit.eval_movable k (λ u. cond (taint u) (s.bottom u) (replay same s steps u)) here fits_lower movable) (related.movable (s.target k) used clean) fits_shifted fits_old smaller

    pub renewed_known : (taint' : U → Bool) (k : K) → has same.key (renewed same s t e taint') k ≡ true → IsKey same t k
    renewed_known taint' k h = (has-filter same.key tells.keys (λ j. has same.key e.added j || taint' (t.target j)) t.keys k h).0

    -- the machine's edit keeps a state sound
    pub sound_edited : (st : State K) → IsSound same s st → IsTaint same s t e st.steps taint → IsSound same t (edited same s t e taint st)
    sound_edited st sound closed = record {
      steps_known = λ k h.
          let p : (has same.key st.steps k ≡ true) × (not (taint (s.target k)) ≡ true) = has-filter same.key tells.keys (λ j. not (taint (s.target j))) st.steps k h in
          known_after k (kept_stays st.steps closed sound.steps_known k p.0 (not-true (taint (s.target k)) p.1));
      waiting_known = λ k h. elim (has-push_all same.key tells.keys (renewed same s t e taint) (filter (λ j. not (has same.key e.gone j)) st.waiting) k h) [
        | inl w ↦ let p : (has same.key st.waiting k ≡ true) × (not (has same.key e.gone k) ≡ true) = has-filter same.key tells.keys (λ j. not (has same.key e.gone j)) st.waiting k w in
            known_after k (and_from (has same.key s.keys k) (not (has same.key e.gone k)) (sound.waiting_known k p.0) p.1)
        | inr w ↦ renewed_known taint k w
      ];
      waiting_once = distinct-push_all same.key tells.keys (renewed same s t e taint) (filter (λ j. not (has same.key e.gone j)) st.waiting) (distinct-filter same.key tells.keys (λ j. not (has same.key e.gone j)) st.waiting sound.waiting_once);
      satisfied = λ k known n.
          let not_renewed : has same.key (renewed same s t e taint) k ≡ false = false_from_ne_true (has same.key (renewed same s t e taint) k) (λ w. both_ways (has same.key (edited same s t e taint st).waiting k) n (push_all_there same.key tells.keys (renewed same s t e taint) (filter (λ j. not (has same.key e.gone j)) st.waiting) k w)) in
          let why : (has same.key e.added k ≡ false) × (taint (t.target k) ≡ false) = or_parts (has same.key e.added k) (taint (t.target k)) (false_from_ne_true (has same.key e.added k || taint (t.target k)) (λ p. both_ways (has same.key (renewed same s t e taint) k) not_renewed (has-filter_from same.key tells.keys (λ j. has same.key e.added j || taint (t.target j)) t.keys k known p))) in
          let here : stays same s t e k ≡ true = elim (or_cases (stays same s t e k) (has same.key e.added k) (sym (edit.lists.keys k) ∙ known)) [ inl p ↦ p | inr p ↦ absurd (both_ways (has same.key e.added k) why.0 p) ] in
          let kept_key : not (has same.key e.gone k) ≡ true = (and_parts (has same.key s.keys k) (not (has same.key e.gone k)) here).1 in
          let idle : has same.key st.waiting k ≡ false = false_from_ne_true (has same.key st.waiting k) (λ w. both_ways (has same.key (edited same s t e taint st).waiting k) n (push_all_keeps same.key tells.keys (renewed same s t e taint) (filter (λ j. not (has same.key e.gone j)) st.waiting) k (has-filter_from same.key tells.keys (λ j. not (has same.key e.gone j)) st.waiting k w kept_key))) in
          holds_after st.steps closed sound.steps_known k here (ap taint (sym (edit.same_target k here)) ∙ why.1) (sound.satisfied k (known_before k here) idle);
    }

    -- where no gone key is a step, nothing is tainted, and no step is taken out
    pub untouched : (steps : List K) → IsTainted same s t e steps taint → ((k : K) → has same.key steps k ≡ true → has same.key e.gone k ≡ false) → (u : U) → taint u ≡ false
    untouched steps least apart u = false_from_ne_true (taint u) (λ p. true≢false (sym (least.1 (λ _. false) (record { from_gone = λ k h g. absurd (both_ways (has same.key e.gone k) (apart k h) g); along = λ k w h read p. p }) u p)))

    filter_clean : (steps : List K) → ((u : U) → taint u ≡ false) → filter (λ k. not (taint (s.target k))) steps ≡ steps
    filter_clean [] clean = refl
    filter_clean (k ∷ ks) clean =
        ap (λ b. cond (not b) (k ∷ filter (λ j. not (taint (s.target j))) ks) (filter (λ j. not (taint (s.target j))) ks)) (clean (s.target k)) ∙ ap (λ js. k ∷ js) (filter_clean ks clean)

    -- so the steps stay, and the values are the renamed ones
    pub idle_gone : (st : State K) → IsSound same s st → IsTainted same s t e st.steps taint → ((k : K) → has same.key st.steps k ≡ true → has same.key e.gone k ≡ false) → ((edited same s t e taint st).steps ≡ st.steps) × ((u : U) → unknown_stays same s t e u ≡ true → replay same t st.steps u ≡ e.shift (replay same s st.steps u))
    idle_gone st sound least apart =
        let clean : (u : U) → taint u ≡ false = untouched st.steps least apart in
        let steps : filter (λ k. not (taint (s.target k))) st.steps ≡ st.steps = filter_clean st.steps clean in
        (steps, λ u h. ap (λ ks. replay same t ks u) (sym steps) ∙ value_kept st.steps least.0 sound.steps_known u h (clean u))

    -- the taint lies in each region
    pub taint_in_region : (steps : List K) (region : U → Bool) → IsTainted same s t e steps taint → IsRegion same s t e region → ((k : K) → has same.key steps k ≡ true → IsKey same s k) → (u : U) → taint u ≡ true → region u ≡ true
    taint_in_region steps region least r known = least.1 region (record { from_gone = λ k h g. r.from_gone k g; along = λ k u h read p. r.along k u (known k h) read p })

    renewed_fewer : (region : U → Bool) → ((u : U) → taint u ≡ true → region u ≡ true) → (ks : List K) → length (filter (λ k. has same.key e.added k || taint (t.target k)) ks) ≤ length (filter (λ k. has same.key e.added k || region (t.target k)) ks)
    renewed_fewer region sub [] = omega arith
    renewed_fewer region sub (k ∷ ks) =
        elim (has same.key e.added k || taint (t.target k)) as (λ v. (has same.key e.added k || taint (t.target k)) ≡ v → length (cond v (k ∷ filter (λ j. has same.key e.added j || taint (t.target j)) ks) (filter (λ j. has same.key e.added j || taint (t.target j)) ks)) ≤ length (filter (λ j. has same.key e.added j || region (t.target j)) (k ∷ ks))) [
          | true ↦ λ p.
              let q : (has same.key e.added k || region (t.target k)) ≡ true = elim (or_cases (has same.key e.added k) (taint (t.target k)) p) [ inl a ↦ or_left (has same.key e.added k) (region (t.target k)) a | inr b ↦ or_right (has same.key e.added k) (region (t.target k)) (sub (t.target k) b) ] in
              rw q (omega (arith, renewed_fewer region sub ks))
          | false ↦ λ _. elim (has same.key e.added k || region (t.target k)) as (λ w. length (filter (λ j. has same.key e.added j || taint (t.target j)) ks) ≤ length (cond w (k ∷ filter (λ j. has same.key e.added j || region (t.target j)) ks) (filter (λ j. has same.key e.added j || region (t.target j)) ks))) [ true ↦ omega (arith, renewed_fewer region sub ks) | false ↦ renewed_fewer region sub ks ]
        ] refl

-- where ranks end at heights after the edit, few visits follow it
module _ {K U V : Type 0} (same : Equality K U) (tells : IsEquality same) (s t : ConstraintSystem K U V) (e : Change K U V) (old : IsMonotone same s) (new : IsLawful same t) (edit : IsEdit same s t e) (taint : U → Bool) where
  -- after an edit of a sound state in which nothing waits, few visits follow
  pub visits_after : (region reach : U → Bool) (st : State K) (ks : List K) → IsSound same s st → st.waiting ≡ [] → IsTainted same s t e st.steps taint → IsRegion same s t e region → IsReach same s t e region reach → Legal same t (edited same s t e taint st) ks → length ks ≤ edit_bound same s t e region reach
  visits_after region reach st ks sound rest least r reached legal =
      let sub : (u : U) → taint u ≡ true → region u ≡ true = taint_in_region same tells s t e old new.monotone edit taint st.steps region least r sound.steps_known in
      let waits : (edited same s t e taint st).waiting ≡ renewed same s t e taint = ap (λ w. push_all same.key (filter (λ j. not (has same.key e.gone j)) w) (renewed same s t e taint)) rest ∙ push_all-nil same.key tells.keys (renewed same s t e taint) (distinct-filter same.key tells.keys (λ k. has same.key e.added k || taint (t.target k)) t.keys new.monotone.keys_once) in
      let in_region : (k : K) → has same.key (renewed same s t e taint) k ≡ true → has same.key (renewed same s t e region) k ≡ true = λ k h.
      let p : (IsKey same t k) × ((has same.key e.added k || taint (t.target k)) ≡ true) = has-filter same.key tells.keys (λ j. has same.key e.added j || taint (t.target j)) t.keys k h in
      has-filter_from same.key tells.keys (λ j. has same.key e.added j || region (t.target j)) t.keys k p.0 (elim (or_cases (has same.key e.added k) (taint (t.target k)) p.1) [ inl a ↦ or_left (has same.key e.added k) (region (t.target k)) a | inr b ↦ or_right (has same.key e.added k) (region (t.target k)) (sub (t.target k) b) ]) in
      let closed : IsClosed same t (filter reach t.unknowns) (edited same s t e taint st).waiting = record {
        in_use = λ u h. (has-filter same.unknown tells.unknowns reach t.unknowns u h).0;
        targets = λ k h. let w : has same.key (renewed same s t e taint) k ≡ true = ap (λ ws. has same.key ws k) (sym waits) ∙ h in
            has-filter_from same.unknown tells.unknowns reach t.unknowns (t.target k) (new.monotone.target_used k (renewed_known same tells s t e old new.monotone edit taint taint k w)) (reached.from_renewed k (in_region k w));
        readers_too = λ u k h read.
            let p : (IsKey same t k) × (Reads same t k u) = has-filter same.key tells.keys (λ j. has same.unknown (t.reads j) u) t.keys k read in
            has-filter_from same.unknown tells.unknowns reach t.unknowns (t.target k) (new.monotone.target_used k p.0) (reached.along k u p.0 p.1 (has-filter same.unknown tells.unknowns reach t.unknowns u h).1);
      } in
      omega (arith, bounds.visits_bounded same tells t new (filter reach t.unknowns) ks (edited same s t e taint st) (sound_edited same tells s t e old new.monotone edit taint st sound least.0) closed legal, ap length waits, renewed_fewer same tells s t e old new.monotone edit taint region sub t.keys)
