-- Steps of a target that are taken out, and the marks of the keys that are among the steps.
use Rattle.std.proofs.Common.{◌≡◌, ℕ, ◌+◌, ◌<◌, ◌≤◌, Bool, true, false, cond, not, List, [], ◌∷◌, length, drop, refl, sym, ap, ◌∙◌, inl, inr}
use Rattle.std.specs.Prelude.{nat_eq, filter, get_or, slice_index_or}
use Rattle.std.proofs.lemmas.List.{drop_more}
use Rattle.std.proofs.lemmas.Bool.{both_ways, cases_Bool, false_from_ne_true, not-true, not_from_false}
use Rattle.list_theory.specs.Lists.{has}
use Rattle.list_theory.proofs.ListLemmas.{has-filter, has-filter_from}
use Rattle.list_theory.proofs.NumberLemmas.{numbers_exact}
use Rattle.constraint_theory.specs.Systems.{ConstraintSystem, IsKey, aiming, numbers}
use Rattle.index_lists.specs.Traces.{aims_elsewhere}
use Rattle.flow_solver.specs.Engines.{keys_of, trace_of}
use Rattle.flow_solver.proofs.LoopLemmas.{drop_end, filter_both}

module _ {V : Type 0} (s : ConstraintSystem ℕ ℕ V) where
  -- the trace without the steps of some targets is that of the steps without them
  pub kept_trace : (p : ℕ → Bool) (ks : List ℕ) → filter (λ step. not (p step.0)) (trace_of s ks) ≡ trace_of s (filter (λ k. not (p (s.target k))) ks)
  kept_trace p [] = refl
  kept_trace p (k ∷ ks) = elim (p (s.target k)) as (λ b. cond (not b) ((s.target k, k) ∷ filter (λ step. not (p step.0)) (trace_of s ks)) (filter (λ step. not (p step.0)) (trace_of s ks)) ≡ trace_of s (cond (not b) (k ∷ filter (λ j. not (p (s.target j))) ks) (filter (λ j. not (p (s.target j))) ks))) [
    | true ↦ kept_trace p ks
    | false ↦ ap (λ ps. (s.target k, k) ∷ ps) (kept_trace p ks)
  ]

  pub keys_paired : (ks : List ℕ) → keys_of (trace_of s ks) ≡ ks
  keys_paired [] = refl
  keys_paired (k ∷ ks) = ap (λ js. k ∷ js) (keys_paired ks)

  pub keys_kept : (p : ℕ → Bool) (trace : List (ℕ × ℕ)) → trace ≡ trace_of s (keys_of trace) → keys_of (filter (λ step. not (p step.0)) trace) ≡ filter (λ k. not (p (s.target k))) (keys_of trace)
  keys_kept p trace paired = ap (λ ps. keys_of (filter (λ step. not (p step.0)) ps)) paired ∙ ap keys_of (kept_trace p (keys_of trace)) ∙ keys_paired (filter (λ k. not (p (s.target k))) (keys_of trace))

  -- the steps are keys, each with its target, and the marks say which keys are among them
  pub record IsMarked (trace : List (ℕ × ℕ)) (made : List Bool) : Type 0 where
    pub known : (k : ℕ) → has nat_eq (keys_of trace) k ≡ true → IsKey numbers s k
    pub paired : trace ≡ trace_of s (keys_of trace)
    pub marked : (k : ℕ) → slice_index_or made k false ≡ has nat_eq (keys_of trace) k

  module _ (trace trace' : List (ℕ × ℕ)) (made made' : List Bool) (u : ℕ) (targeting : List ℕ) (before : IsMarked trace made) (is : trace' ≡ filter (aims_elsewhere u) trace) (are : targeting ≡ aiming numbers s u) (unmarked : (k : ℕ) → slice_index_or made' k false ≡ cond (has nat_eq targeting k) false (slice_index_or made k false)) where
    keys' : keys_of trace' ≡ filter (λ k. not (nat_eq (s.target k) u)) (keys_of trace)
    keys' = ap keys_of is ∙ keys_kept (λ w. nat_eq w u) trace before.paired

    mark' : (k : ℕ) → slice_index_or made' k false ≡ has nat_eq (keys_of trace') k
    mark' k = elim (cases_Bool (nat_eq (s.target k) u)) [
      | inl aims ↦
          let gone : has nat_eq (keys_of trace') k ≡ false = false_from_ne_true (has nat_eq (keys_of trace') k) (λ p. both_ways (nat_eq (s.target k) u) (not-true (nat_eq (s.target k) u) (has-filter nat_eq numbers_exact (λ j. not (nat_eq (s.target j) u)) (keys_of trace) k (ap (λ ks. has nat_eq ks k) (sym keys') ∙ p)).1) aims) in
          unmarked k ∙ elim (cases_Bool (has nat_eq (keys_of trace) k)) [
            | inl step ↦ ap (λ b. cond b false (slice_index_or made k false)) (ap (λ ks. has nat_eq ks k) are ∙ has-filter_from nat_eq numbers_exact (λ j. nat_eq (s.target j) u) s.keys k (before.known k step) aims)
            | inr none ↦ ap (cond (has nat_eq targeting k) false) (before.marked k ∙ none) ∙ elim (has nat_eq targeting k) as (λ b. cond b false false ≡ false) [ true ↦ refl | false ↦ refl ]
          ] ∙ sym gone
      | inr other ↦
          let not_there : has nat_eq targeting k ≡ false = false_from_ne_true (has nat_eq targeting k) (λ p. both_ways (nat_eq (s.target k) u) other (has-filter nat_eq numbers_exact (λ j. nat_eq (s.target j) u) s.keys k (ap (λ ks. has nat_eq ks k) (sym are) ∙ p)).1) in
          let same : has nat_eq (keys_of trace') k ≡ has nat_eq (keys_of trace) k = elim (cases_Bool (has nat_eq (keys_of trace) k)) [
            | inl step ↦ ap (λ ks. has nat_eq ks k) keys' ∙ has-filter_from nat_eq numbers_exact (λ j. not (nat_eq (s.target j) u)) (keys_of trace) k step (not_from_false (nat_eq (s.target k) u) other) ∙ sym step
            | inr none ↦ false_from_ne_true (has nat_eq (keys_of trace') k) (λ p. both_ways (has nat_eq (keys_of trace) k) none (has-filter nat_eq numbers_exact (λ j. not (nat_eq (s.target j) u)) (keys_of trace) k (ap (λ ks. has nat_eq ks k) (sym keys') ∙ p)).0) ∙ sym none
          ] in
          unmarked k ∙ ap (λ b. cond b false (slice_index_or made k false)) not_there ∙ before.marked k ∙ sym same
    ]

    pub marked_next : IsMarked trace' made'
    marked_next = record {
      known = λ k h. before.known k (has-filter nat_eq numbers_exact (λ j. not (nat_eq (s.target j) u)) (keys_of trace) k (ap (λ ks. has nat_eq ks k) (sym keys') ∙ h)).0;
      paired = is ∙ ap (filter (aims_elsewhere u)) before.paired ∙ kept_trace (λ w. nat_eq w u) (keys_of trace) ∙ ap (trace_of s) (sym keys');
      marked = mark';
    }

-- the traces without the steps of what is left
pub forgotten_next : (us : List ℕ) (i : ℕ) (trace trace' : List (ℕ × ℕ)) → i < length us → trace' ≡ filter (aims_elsewhere (get_or us i 0)) trace → filter (λ step. not (has nat_eq (drop (i + 1) us) step.0)) trace' ≡ filter (λ step. not (has nat_eq (drop i us) step.0)) trace
forgotten_next us i trace trace' h is =
    ap (filter (λ step. not (has nat_eq (drop (i + 1) us) step.0))) is ∙ filter_both (λ step. step.0) (get_or us i 0) (drop (i + 1) us) trace
    ∙ ap (λ zs. filter (λ step. not (has nat_eq zs step.0)) trace) (sym (drop_more us i 0 h))

all_left : (trace : List (ℕ × ℕ)) → filter (λ (step : ℕ × ℕ). not (has nat_eq [] step.0)) trace ≡ trace
all_left [] = refl
all_left (step ∷ trace) = ap (λ ps. step ∷ ps) (all_left trace)

pub forgotten_end : (us : List ℕ) (i : ℕ) (trace before : List (ℕ × ℕ)) → length us ≤ i → filter (λ (step : ℕ × ℕ). not (has nat_eq (drop i us) step.0)) trace ≡ filter (λ (step : ℕ × ℕ). not (has nat_eq us step.0)) before → trace ≡ filter (λ (step : ℕ × ℕ). not (has nat_eq us step.0)) before
forgotten_end us i trace before past same = sym (all_left trace) ∙ ap (λ zs. filter (λ (step : ℕ × ℕ). not (has nat_eq zs step.0)) trace) (sym (drop_end us i past)) ∙ same
