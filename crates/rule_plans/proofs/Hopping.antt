-- What hops from a stop there are, and that they are few.
use Rattle.std.proofs.Common.{◌≡◌, ℕ, zero, suc, ◌+◌, ◌<◌, ◌≤◌, Bool, true, false, ◌||◌, List, [], ◌∷◌, ◌++◌, length, refl, sym, ap, subst, ◌∙◌, inl, inr, arith, length-append}
use Rattle.std.specs.Prelude.{◌⊎◌, ◌↔◌, Contains}
use Rattle.std.specs.List.{IsDistinct, list_any}
use Rattle.std.proofs.Math.Nat.{eq-or-lt_of_le}
use Rattle.std.proofs.lemmas.Option.{slice_get_within}
use Rattle.std.proofs.lemmas.List.Elements.{Contains-push, Contains-push_cases, Contains-append_left, Contains-append_right, Contains-append_cases}
use Rattle.std.proofs.lemmas.Map.Made.{length-le_from_is_member}
use Rattle.indexmap.proofs.CallerLemmas.{Contains-list_any}
use Rattle.flow_links.specs.inner.Gains.{Gains}
use Rattle.flow_links.proofs.SetLemmas.{Gains-same, Gains-then, none_in_nil}
use Rattle.rule_plans.specs.declared.stop.Stop.{Stop}
use Rattle.rule_plans.specs.declared.stop.Stop.TheVariants.{ChildExit}
use Rattle.rule_plans.specs.declared.stop.Step.{Step}
use Rattle.rule_plans.specs.Hops.{IsInnerStop, IsHop, by_step, by_child, IsPassing, IsStepOf}
use Rattle.flow_links.proofs.Searches.{IsSearch, last_arrow}
use Rattle.rule_plans.proofs.Stops.{is_same_stop, stop_same, stop_itself, stops_equiv}

pub step_of_longer : (steps : List Step) (x : Step) (from s : Stop) → (IsStepOf steps from s ⊎ ((x.from ≡ from) × (x.to ≡ s))) ↔ IsStepOf (steps ++ x ∷ []) from s
step_of_longer steps x from s = (
  λ h. elim h [
    | inl before ↦ record { step = before.step; among = Contains-append_left steps (x ∷ []) before.step before.among; leaves = before.leaves; arrives = before.arrives }
    | inr now ↦ record { step = x; among = Contains-push steps x; leaves = now.0; arrives = now.1 }
  ],
  λ h. elim (Contains-push_cases steps x h.step h.among) [
    | inl before ↦ inl (record { step = h.step; among = before; leaves = h.leaves; arrives = h.arrives })
    | inr same ↦ inr (ap (λ (y : Step). y.from) same ∙ h.leaves, ap (λ (y : Step). y.to) same ∙ h.arrives)
  ],
)

pub steps_more : (old mid new : List Stop) (steps : List Step) (x : Step) (from : Stop) → Gains old mid (IsStepOf steps from) → Gains mid new (λ s. (x.from ≡ from) × (x.to ≡ s))
    → Gains old new (IsStepOf (steps ++ x ∷ []) from)
steps_more old mid new steps x from p q = Gains-same (Gains-then p q) (λ s. step_of_longer steps x from s)

pub hops_are : (steps : List Step) (passes : List Bool) (from s : Stop) → (IsStepOf steps from s ⊎ IsPassing passes from s) ↔ IsHop steps passes from s
hops_are steps passes from s = (
  λ h. elim h [ inl a ↦ by_step a | inr b ↦ by_child b ],
  λ h. back h,
)
  where
    back : IsHop steps passes from s → IsStepOf steps from s ⊎ IsPassing passes from s
    back (by_step a) = inl a
    back (by_child b) = inr b

-- the exits of the first n children
exits_below : ℕ → List Stop
exits_below zero = []
exits_below (suc n) = exits_below n ++ ChildExit n ∷ []

count_exits : (n : ℕ) → length (exits_below n) ≡ n
unfolding exits_below
count_exits zero = refl
count_exits (suc n) = omega (arith, count_exits n, length-append (exits_below n) (ChildExit n ∷ []))

among_exits : (n k : ℕ) → k < n → Contains (exits_below n) (ChildExit k)
unfolding exits_below
among_exits zero k h = absurd (omega arith)
among_exits (suc n) k h = elim (eq-or-lt_of_le (let f : k < suc n = h in omega arith)) [
  | inl same ↦ subst (λ (j : ℕ). Contains (exits_below n ++ ChildExit n ∷ []) (ChildExit j)) (sym same) (Contains-push (exits_below n) (ChildExit n))
  | inr less ↦ Contains-append_left (exits_below n) (ChildExit n ∷ []) (ChildExit k) (among_exits n k less)
]

targets : List Step → List Stop
targets [] = []
targets (x ∷ steps) = x.to ∷ targets steps

count_targets : (steps : List Step) → length (targets steps) ≡ length steps
unfolding targets
count_targets [] = refl
count_targets (x ∷ steps) = ap suc (count_targets steps)

among_targets : (steps : List Step) (x : Step) → Contains steps x → Contains (targets steps) x.to
unfolding targets
among_targets [] x h = absurd (none_in_nil x h)
among_targets (y ∷ steps) x h = elim (Contains-append_cases (y ∷ []) steps x h) [
  | inl here ↦ elim (Contains-push_cases [] y x here) [
    | inl nil ↦ absurd (none_in_nil x nil)
    | inr same ↦ subst (λ (z : Step). Contains (y.to ∷ targets steps) z.to) same (Contains-append_left (y.to ∷ []) (targets steps) y.to (Contains-push [] y.to))
  ]
  | inr there ↦ Contains-append_right (y.to ∷ []) (targets steps) x.to (among_targets steps x there)
]

here_true : (a b : Bool) → a ≡ true → (a || b) ≡ true
here_true true b h = refl
here_true false b h = cc

there_true : (a b : Bool) → b ≡ true → (a || b) ≡ true
there_true true b h = refl
there_true false b h = h

module _ (steps : List Step) (passes : List Bool) (from : Stop) where
  ends : List Stop
  ends = targets steps ++ exits_below (length passes)

  among_ends : (s t : Stop) → IsHop steps passes s t → Contains ends t
  unfolding ends
  among_ends s t (by_step h) = subst (λ (x : Stop). Contains (targets steps ++ exits_below (length passes)) x) h.arrives (Contains-append_left (targets steps) (exits_below (length passes)) h.step.to (among_targets steps h.step h.among))
  among_ends s t (by_child h) =
      subst (λ (x : Stop). Contains (targets steps ++ exits_below (length passes)) x) (sym h.exits)
      (Contains-append_right (targets steps) (exits_below (length passes)) (ChildExit h.k) (among_exits (length passes) h.k (slice_get_within passes h.k true h.passed)))

  seen : (xs : List Stop) (x : Stop) → Contains xs x → list_any (is_same_stop x) xs ≡ true
  seen [] x h = absurd (none_in_nil x h)
  seen (y ∷ xs) x h = elim (Contains-append_cases (y ∷ []) xs x h) [
    | inl here ↦ elim (Contains-push_cases [] y x here) [ inl nil ↦ absurd (none_in_nil x nil) | inr same ↦ here_true (is_same_stop x y) (list_any (is_same_stop x) xs) (subst (λ (z : Stop). is_same_stop x z ≡ true) (sym same) (stop_itself x)) ]
    | inr there ↦ there_true (is_same_stop x y) (list_any (is_same_stop x) xs) (seen xs x there)
  ]

  -- no more stops are found than there are targets and children
  pub few_found : (found : List Stop) (next : ℕ) → IsSearch IsInnerStop (IsHop steps passes) from found next → IsDistinct is_same_stop found → length found ≤ length steps + length passes
  unfolding ends
  few_found found next kept distinct =
      let most : length found ≤ length (targets steps ++ exits_below (length passes)) =
      length-le_from_is_member stops_equiv found (targets steps ++ exits_below (length passes)) distinct
      (λ s h. let last = last_arrow IsInnerStop (IsHop steps passes) from s (kept.sound s (Contains-list_any is_same_stop stop_same found s h)) in
      seen (targets steps ++ exits_below (length passes)) s (among_ends last.0 s last.1)) in
      omega (arith, most, length-append (targets steps) (exits_below (length passes)), count_targets steps, count_exits (length passes))
