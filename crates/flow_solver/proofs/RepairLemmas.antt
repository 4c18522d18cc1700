-- The machine's edit, from what is done to the steps and to the queue.
use Rattle.std.proofs.Common.{◌≡◌, ℕ, ◌<◌, ◌≤◌, Bool, true, false, cond, length, subst, not, ◌||◌, List, [], ◌∷◌, refl, sym, ap, ◌∙◌, inl, inr}
use Rattle.std.specs.Prelude.{nat_eq, filter}
use Rattle.std.proofs.lemmas.Bool.{and_parts, or_cases}
use Rattle.std.specs.List.Sorted.{IsSortedBy}
use Rattle.std.specs.Ordering.{is_lt}
use Rattle.std.specs.declared.cmp.Ordering.{Ordering}
use Rattle.list_theory.specs.Lists.{distinct, has, push_all}
use Rattle.constraint_theory.specs.Systems.{ConstraintSystem, IsKey, IsLawful, IsMonotone, numbers}
use Rattle.constraint_theory.specs.Machine.{IsSound, Legal, State, replay}
use Rattle.constraint_theory.specs.Edits.{AreEditedValues, Change, IsEdit, IsReach, IsRegion, IsTainted, edit_bound, edited, renewed, stays, unknown_stays}
use Rattle.constraint_theory.proofs.EditLemmas as edits
use Rattle.constraint_theory.proofs.NumberLemmas.{numbers_tell}
use Rattle.index_lists.specs.Queues.{Queue}
use Rattle.flow_solver.specs.Engines.{IsEngine, state_of}
use Rattle.flow_solver.specs.Orders.{IsOrderOf}
use Rattle.flow_solver.specs.Plans.{IsEdited, IsReady, Plan, Room}
use Rattle.flow_solver.proofs.LoopLemmas.{bool_same}
use Rattle.flow_solver.proofs.OrderLemmas.{sorted_filter}

filter_same : (p q : ℕ → Bool) (xs : List ℕ) → ((x : ℕ) → p x ≡ q x) → filter p xs ≡ filter q xs
filter_same p q [] same = refl
filter_same p q (x ∷ xs) same = ap (λ b. cond b (x ∷ filter p xs) (filter p xs)) (same x) ∙ ap (λ zs. cond (q x) (x ∷ zs) zs) (filter_same p q xs same)

module _ {V : Type 0} (s t t' : ConstraintSystem ℕ ℕ V) (e : Change ℕ ℕ V) (old : IsMonotone numbers s) (new : IsMonotone numbers t) (edit : IsEdit numbers s t e) (same : t' ≡ t) (steps steps' gone : List ℕ) (plan : Plan V) (room : Room) (queue mid queue' : Queue) (engine : IsEngine s steps queue) (ready : IsReady s t e steps plan room) (in_queue : room.waiting ≡ queue.allowed) (are : gone ≡ e.gone) (removed : mid ≡ record queue { items = filter (λ k. not (has nat_eq gone k)) queue.items }) where
  -- what is in use after the edit may wait
  allowed_after : (k : ℕ) → IsKey numbers t k → k < mid.allowed
  allowed_after k used = rw removed (elim (or_cases (stays numbers s t e k) (has nat_eq e.added k) (sym (edit.lists.keys k) ∙ used)) [
    | inl stay ↦ engine.allowed k (and_parts (has nat_eq s.keys k) (not (has nat_eq e.gone k)) stay).0
    | inr added ↦ rw (sym in_queue) (ready.waiting k added)
  ])

  module _ (compare : ℕ → ℕ → Ordering) (order : IsOrderOf t'.keys compare) (sorted : List ℕ) (same_items : (k : ℕ) → has nat_eq sorted k ≡ has nat_eq plan.renewed k) (once : distinct nat_eq sorted ≡ true) (rising : IsSortedBy (λ a b. is_lt (compare a b)) sorted) where
    -- the sorted keys are those that the machine's edit makes wait
    sorted_is : sorted ≡ renewed numbers s t e (has nat_eq plan.tainted)
    sorted_is = sorted_filter compare t.keys (λ k. has nat_eq e.added k || has nat_eq plan.tainted (t.target k)) sorted (rw same at order) rising once (λ k. same_items k ∙ ready.plan.renewed.exactly k)

    -- and they may wait
    pub allowed_sorted : (k : ℕ) → has nat_eq sorted k ≡ true → k < mid.allowed
    allowed_sorted k h = allowed_after k (edits.renewed_known numbers numbers_tell s t e old new edit (has nat_eq plan.tainted) (has nat_eq plan.tainted) k (ap (λ ks. has nat_eq ks k) (sym sorted_is) ∙ h))

    module _ (kept : steps' ≡ filter (λ k. not (has nat_eq plan.tainted (s.target k))) steps) (pushed : queue' ≡ record mid { items = push_all nat_eq mid.items sorted }) where
      waiting_is : queue'.items ≡ push_all nat_eq (filter (λ k. not (has nat_eq e.gone k)) queue.items) (renewed numbers s t e (has nat_eq plan.tainted))
      waiting_is =
          ap (λ q. q.items) pushed ∙ ap (λ ys. push_all nat_eq ys sorted) (ap (λ q. q.items) removed ∙ ap (λ ks. filter (λ k. not (has nat_eq ks k)) queue.items) are)
          ∙ ap (push_all nat_eq (filter (λ k. not (has nat_eq e.gone k)) queue.items)) sorted_is

      state_is : state_of steps' queue' ≡ edited numbers s t e (has nat_eq plan.tainted) (state_of steps queue)
      state_is =
          let mk : List ℕ → List ℕ → State ℕ = λ a b. record { steps = a; waiting = b } in
          ap (λ a. mk a queue'.items) kept ∙ ap (mk (filter (λ k. not (has nat_eq plan.tainted (s.target k))) steps)) waiting_is

      pub is_edited : IsEdited s t e (state_of steps queue) (state_of steps' queue')
      is_edited = (has nat_eq plan.tainted, ready.plan.tainted, state_is)

      pub engine_edited : IsEngine t' steps' queue'
      engine_edited = record {
        allowed = λ k used. rw pushed (allowed_after k (ap (λ w. has nat_eq w.keys k) (sym same) ∙ used));
        sound = rw (same, state_is) (edits.sound_edited numbers numbers_tell s t e old new edit (has nat_eq plan.tainted) (state_of steps queue) engine.sound ready.plan.tainted.0);
      }

-- what follows from the machine's edit
module _ {V : Type 0} (s t : ConstraintSystem ℕ ℕ V) (e : Change ℕ ℕ V) (old : IsMonotone numbers s) (new : IsLawful numbers t) (edit : IsEdit numbers s t e) (st st' : State ℕ) (sound : IsSound numbers s st) (is : IsEdited s t e st st') where
  pub idle_steps : ((k : ℕ) → has nat_eq st.steps k ≡ true → has nat_eq e.gone k ≡ false) → st'.steps ≡ st.steps
  idle_steps apart = ap (λ (x : State ℕ). x.steps) is.2 ∙ (edits.idle_gone numbers numbers_tell s t e old new.monotone edit is.0 st sound is.1 apart).0

  pub idle_values : ((k : ℕ) → has nat_eq st.steps k ≡ true → has nat_eq e.gone k ≡ false) → (u : ℕ) → unknown_stays numbers s t e u ≡ true → replay numbers t st'.steps u ≡ e.shift (replay numbers s st.steps u)
  idle_values apart u stay = ap (λ ks. replay numbers t ks u) (idle_steps apart) ∙ (edits.idle_gone numbers numbers_tell s t e old new.monotone edit is.0 st sound is.1 apart).1 u stay

  pub few_visits : (region reach : ℕ → Bool) (ks : List ℕ) → st.waiting ≡ [] → IsRegion numbers s t e region → IsReach numbers s t e region reach → Legal numbers t st' ks → length ks ≤ edit_bound numbers s t e region reach
  few_visits region reach ks rest r reached legal = edits.visits_after numbers numbers_tell s t e old new edit is.0 region reach st ks sound rest is.1 r reached (subst (λ x. Legal numbers t x ks) is.2 legal)

  -- two tests for the tainted unknowns answer alike
  taint_same : (taint : ℕ → Bool) → IsTainted numbers s t e st.steps taint → (u : ℕ) → is.0 u ≡ taint u
  taint_same taint tainted u = bool_same (is.0 u) (taint u) (is.1.1 taint tainted.0 u) (tainted.1 is.0 is.1.0 u)

  -- the values after the edit
  pub values_edited : (taint : ℕ → Bool) → IsTainted numbers s t e st.steps taint → AreEditedValues numbers s t e taint (replay numbers s st.steps) (replay numbers t st'.steps)
  values_edited taint tainted =
      let kept : st'.steps ≡ filter (λ k. not (taint (s.target k))) st.steps = ap (λ (x : State ℕ). x.steps) is.2 ∙ filter_same (λ k. not (is.0 (s.target k))) (λ k. not (taint (s.target k))) st.steps (λ k. ap not (taint_same taint tainted (s.target k))) in
      rw kept (edits.edited_values numbers numbers_tell s t e old new.monotone edit taint st.steps tainted.0 sound.steps_known)
