-- What the machine's edit does to the values and marks that are kept.
use Rattle.std.proofs.Common.{◌≡◌, ℕ, ◌<◌, Bool, true, false, cond, not, ◌||◌, ◌&&◌, List, [], ◌∷◌, length, map, refl, sym, ap, ◌∙◌, arith, inl, inr}
use Rattle.std.specs.Prelude.{nat_eq, filter, Option, Some, None, slice_index_or, option_map}
use Rattle.std.proofs.lemmas.Bool.{and_from, and_parts, both_ways, cases_Bool, false_from_ne_true, not-true, not_from_false, or_cases, or_left, or_parts, or_right}
use Rattle.list_theory.specs.Lists.{has}
use Rattle.list_theory.proofs.ListLemmas.{has-filter}
use Rattle.list_theory.proofs.NumberLemmas.{numbers_exact}
use Rattle.constraint_theory.specs.Systems.{ConstraintSystem, IsKey, IsUnknown, IsMonotone, numbers}
use Rattle.constraint_theory.specs.Machine.{replay}
use Rattle.constraint_theory.specs.Edits.{Change, IsEdit, IsTaint, IsTainted, Movable, stays, unknown_stays}
use Rattle.constraint_theory.proofs.EditLemmas as edits
use Rattle.constraint_theory.proofs.NumberLemmas.{numbers_tell}
use Rattle.flow_solver.specs.Assigned.{given}
use Rattle.flow_solver.specs.Engines.{AreReplayed, IsProgress, keys_of, trace_of}
use Rattle.flow_solver.specs.Plans.{AreBottoms}
use Rattle.flow_solver.proofs.LoopLemmas.{given_each}
use Rattle.flow_solver.proofs.ReplayLemmas.{within}
use Rattle.flow_solver.proofs.ForgetLemmas as forget

module _ {V : Type 0} (s t : ConstraintSystem ℕ ℕ V) (e : Change ℕ ℕ V) (old : IsMonotone numbers s) (new : IsMonotone numbers t) (edit : IsEdit numbers s t e) (taint : ℕ → Bool) where
  -- the steps that are kept
  abbrev pub kept : List ℕ → List ℕ
  kept steps = filter (λ k. not (taint (s.target k))) steps

  paired_same : (ks : List ℕ) → ((k : ℕ) → has nat_eq ks k ≡ true → t.target k ≡ s.target k) → trace_of s ks ≡ trace_of t ks
  paired_same [] same = refl
  paired_same (k ∷ ks) same =
      let pair : ℕ → ℕ × ℕ = λ u. (u, k) in
      ap (λ u. pair u ∷ trace_of s ks) (sym (same k (or_left (nat_eq k k) (has nat_eq ks k) (numbers_exact.itself k))))
      ∙ ap (λ ps. pair (t.target k) ∷ ps) (paired_same ks (λ j h. same j (or_right (nat_eq k j) (has nat_eq ks j) h)))

  -- what is tainted is in use
  pub taint_used : (steps : List ℕ) → ((k : ℕ) → has nat_eq steps k ≡ true → IsKey numbers s k) → IsTainted numbers s t e steps taint → (u : ℕ) → taint u ≡ true → IsUnknown numbers s u
  taint_used steps known tainted u h = tainted.1 (has nat_eq s.unknowns) (record { from_gone = λ k w _. old.target_used k (known k w); along = λ k w step _ _. old.target_used k (known k step) }) u h

  module _ (values : List (Option V)) (trace : List (ℕ × ℕ)) (made : List Bool) (progress : IsProgress s values trace made) (closed : IsTaint numbers s t e (keys_of trace) taint) where
    before : AreReplayed s values trace
    before = progress.replayed

    pub keys_kept : (trace' : List (ℕ × ℕ)) → trace' ≡ filter (λ (step : ℕ × ℕ). not (taint step.0)) trace → keys_of trace' ≡ kept (keys_of trace)
    keys_kept trace' is = ap keys_of is ∙ forget.keys_kept s taint trace before.paired

    kept_stays : (k : ℕ) → has nat_eq (kept (keys_of trace)) k ≡ true → stays numbers s t e k ≡ true
    kept_stays k h =
        let p : (has nat_eq (keys_of trace) k ≡ true) × (not (taint (s.target k)) ≡ true) = has-filter nat_eq numbers_exact (λ j. not (taint (s.target j))) (keys_of trace) k h in
        and_from (has nat_eq s.keys k) (not (has nat_eq e.gone k)) (before.known k p.0) (not_from_false (has nat_eq e.gone k) (false_from_ne_true (has nat_eq e.gone k) (λ g. both_ways (taint (s.target k)) (not-true (taint (s.target k)) p.1) (closed.from_gone k p.0 g))))

    -- a value that isn't taken away can be renamed
    pub left_movable : (u : ℕ) (v : V) → cond (taint u) None (cond (has nat_eq e.gone_unknowns u) None (slice_index_or values u None)) ≡ Some v → Movable e v
    left_movable u v h = elim (cases_Bool (taint u)) [
      | inl tainted ↦ let none : ◌≡◌ {A = Option V} None (Some v) = sym (ap (λ b. cond b None (cond (has nat_eq e.gone_unknowns u) None (slice_index_or values u None))) tainted) ∙ h in cc
      | inr clean ↦ elim (cases_Bool (has nat_eq e.gone_unknowns u)) [
        | inl gone ↦ let none : ◌≡◌ {A = Option V} None (Some v) = sym (ap (λ b. cond b None (cond (has nat_eq e.gone_unknowns u) None (slice_index_or values u None))) clean ∙ ap (λ b. cond b None (slice_index_or values u None)) gone) ∙ h in cc
        | inr there ↦
            let value : slice_index_or values u None ≡ Some v = sym (ap (λ b. cond b None (cond (has nat_eq e.gone_unknowns u) None (slice_index_or values u None))) clean ∙ ap (λ b. cond b None (slice_index_or values u None)) there) ∙ h in
            elim (cases_Bool (has nat_eq s.unknowns u)) [
              | inl used ↦
                  let is : slice_index_or values u None ≡ Some (replay numbers s (keys_of trace) u) = before.there u used in
                  let same : replay numbers s (keys_of trace) u ≡ v = cc in
                  rw (sym same) (edits.value_movable numbers numbers_tell s t e old new edit taint (keys_of trace) closed before.known u (and_from (has nat_eq s.unknowns u) (not (has nat_eq e.gone_unknowns u)) used (not_from_false (has nat_eq e.gone_unknowns u) there)) clean)
              | inr unused ↦ let none : slice_index_or values u None ≡ None = before.absent u unused in cc
            ]
      ]
    ]

    module _ (bottoms : List (ℕ × V)) (are : AreBottoms s t e taint bottoms) where
      abbrev pub anew : ℕ → Bool
      anew u = (unknown_stays numbers s t e u && taint u) || has nat_eq e.added_unknowns u

      -- there is a slot for each value that is given
      pub slots_there : (room : ℕ) → room ≡ length values → ((u : ℕ) → has nat_eq e.added_unknowns u ≡ true → u < room) → (u : ℕ) → has nat_eq (map (λ pair. pair.0) bottoms) u ≡ true → u < length values
      slots_there room is added u h = elim (or_cases (unknown_stays numbers s t e u && taint u) (has nat_eq e.added_unknowns u) (sym (are.exactly u) ∙ h)) [
        | inl stay ↦
            let used : IsUnknown numbers s u = (and_parts (has nat_eq s.unknowns u) (not (has nat_eq e.gone_unknowns u)) (and_parts (unknown_stays numbers s t e u) (taint u) stay).0).0 in
            within values u (replay numbers s (keys_of trace) u) (before.there u used)
        | inr w ↦ let lt : u < room = added u w in omega (arith, is)
      ]

      -- the values after the edit
      abbrev pub after : ℕ → Option V
      after u = given bottoms u (option_map e.shift (cond (taint u) None (cond (has nat_eq e.gone_unknowns u) None (slice_index_or values u None))))

      after_is : (u : ℕ) → after u ≡ cond (anew u) (Some (t.bottom u)) (option_map e.shift (cond (taint u) None (cond (has nat_eq e.gone_unknowns u) None (slice_index_or values u None))))
      after_is u =
          ap (λ ps. given ps u (option_map e.shift (cond (taint u) None (cond (has nat_eq e.gone_unknowns u) None (slice_index_or values u None))))) are.each
          ∙ given_each t.bottom (map (λ pair. pair.0) bottoms) u (option_map e.shift (cond (taint u) None (cond (has nat_eq e.gone_unknowns u) None (slice_index_or values u None))))
          ∙ ap (λ b. cond b (Some (t.bottom u)) (option_map e.shift (cond (taint u) None (cond (has nat_eq e.gone_unknowns u) None (slice_index_or values u None))))) (are.exactly u)

      value_anew : (u : ℕ) → anew u ≡ true → replay numbers t (kept (keys_of trace)) u ≡ t.bottom u
      value_anew u h = elim (or_cases (unknown_stays numbers s t e u && taint u) (has nat_eq e.added_unknowns u) h) [
        | inl stay ↦ edits.value_reset numbers numbers_tell s t e old new edit taint (keys_of trace) closed before.known u (and_parts (unknown_stays numbers s t e u) (taint u) stay).1
        | inr w ↦ edits.value_added numbers numbers_tell s t e old new edit taint (keys_of trace) closed before.known u w
      ]

      after_there : (u : ℕ) → IsUnknown numbers t u → after u ≡ Some (replay numbers t (kept (keys_of trace)) u)
      after_there u used = after_is u ∙ elim (cases_Bool (anew u)) [
        | inl now ↦ ap (λ b. cond b (Some (t.bottom u)) (option_map e.shift (cond (taint u) None (cond (has nat_eq e.gone_unknowns u) None (slice_index_or values u None))))) now ∙ ap Some (sym (value_anew u now))
        | inr not_now ↦
            let parts : ((unknown_stays numbers s t e u && taint u) ≡ false) × (has nat_eq e.added_unknowns u ≡ false) = or_parts (unknown_stays numbers s t e u && taint u) (has nat_eq e.added_unknowns u) not_now in
            let stay : unknown_stays numbers s t e u ≡ true = elim (or_cases (unknown_stays numbers s t e u) (has nat_eq e.added_unknowns u) (sym (edit.lists.unknowns u) ∙ used)) [ inl p ↦ p | inr p ↦ absurd (both_ways (has nat_eq e.added_unknowns u) parts.1 p) ] in
            let clean : taint u ≡ false = false_from_ne_true (taint u) (λ p. both_ways (unknown_stays numbers s t e u && taint u) parts.0 (and_from (unknown_stays numbers s t e u) (taint u) stay p)) in
            let there : (has nat_eq s.unknowns u ≡ true) × (not (has nat_eq e.gone_unknowns u) ≡ true) = and_parts (has nat_eq s.unknowns u) (not (has nat_eq e.gone_unknowns u)) stay in
            ap (λ b. cond b (Some (t.bottom u)) (option_map e.shift (cond (taint u) None (cond (has nat_eq e.gone_unknowns u) None (slice_index_or values u None))))) not_now
            ∙ ap (λ b. option_map e.shift (cond b None (cond (has nat_eq e.gone_unknowns u) None (slice_index_or values u None)))) clean
            ∙ ap (λ b. option_map e.shift (cond b None (slice_index_or values u None))) (not-true (has nat_eq e.gone_unknowns u) there.1)
            ∙ ap (option_map e.shift) (before.there u there.0)
            ∙ ap Some (sym (edits.value_kept numbers numbers_tell s t e old new edit taint (keys_of trace) closed before.known u stay clean))
      ]

      after_absent : (u : ℕ) → has nat_eq t.unknowns u ≡ false → after u ≡ None
      after_absent u unused =
          let parts : (unknown_stays numbers s t e u ≡ false) × (has nat_eq e.added_unknowns u ≡ false) = or_parts (unknown_stays numbers s t e u) (has nat_eq e.added_unknowns u) (sym (edit.lists.unknowns u) ∙ unused) in
          let not_now : anew u ≡ false = ap (λ b. (b && taint u) || has nat_eq e.added_unknowns u) parts.0 ∙ parts.1 in
          let none : cond (has nat_eq e.gone_unknowns u) None (slice_index_or values u None) ≡ None = elim (cases_Bool (has nat_eq e.gone_unknowns u)) [
            | inl gone ↦ ap (λ b. cond b None (slice_index_or values u None)) gone
            | inr here ↦ ap (λ b. cond b None (slice_index_or values u None)) here ∙ before.absent u (false_from_ne_true (has nat_eq s.unknowns u) (λ p. both_ways (unknown_stays numbers s t e u) parts.0 (and_from (has nat_eq s.unknowns u) (not (has nat_eq e.gone_unknowns u)) p (not_from_false (has nat_eq e.gone_unknowns u) here))))
          ] in
          after_is u ∙ ap (λ b. cond b (Some (t.bottom u)) (option_map e.shift (cond (taint u) None (cond (has nat_eq e.gone_unknowns u) None (slice_index_or values u None))))) not_now
          ∙ ap (λ o. option_map e.shift (cond (taint u) None o)) none ∙ elim (taint u) as (λ b. option_map e.shift (cond b None None) ≡ None) [ true ↦ refl | false ↦ refl ]

      -- what is kept after the edit
      pub progress_edited : (values' : List (Option V)) (trace' : List (ℕ × ℕ)) (made' : List Bool) → trace' ≡ filter (λ (step : ℕ × ℕ). not (taint step.0)) trace → ((u : ℕ) → slice_index_or values' u None ≡ after u) → ((k : ℕ) → slice_index_or made' k false ≡ has nat_eq (keys_of trace') k) → length made' ≡ length made → ((k : ℕ) → has nat_eq e.added k ≡ true → k < length made) → IsProgress t values' trace' made'
      progress_edited values' trace' made' is are_after marked len added = record {
        replayed = record {
          known = λ k h. edit.lists.keys k ∙ or_left (stays numbers s t e k) (has nat_eq e.added k) (kept_stays k (ap (λ ks. has nat_eq ks k) (sym (keys_kept trace' is)) ∙ h));
          paired = is ∙ ap (filter (λ (step : ℕ × ℕ). not (taint step.0))) before.paired ∙ forget.kept_trace s taint (keys_of trace) ∙ paired_same (kept (keys_of trace)) (λ k h. edit.same_target k (kept_stays k h)) ∙ ap (trace_of t) (sym (keys_kept trace' is));
          there = λ u used. are_after u ∙ after_there u used ∙ ap (λ ks. Some (replay numbers t ks u)) (sym (keys_kept trace' is));
          absent = λ u unused. are_after u ∙ after_absent u unused;
        };
        marked = marked;
        markable = λ k used. elim (or_cases (stays numbers s t e k) (has nat_eq e.added k) (sym (edit.lists.keys k) ∙ used)) [
          | inl stay ↦ let lt : k < length made = progress.markable k (and_parts (has nat_eq s.keys k) (not (has nat_eq e.gone k)) stay).0 in omega (arith, len)
          | inr w ↦ let lt : k < length made = added k w in omega (arith, len)
        ];
      }
