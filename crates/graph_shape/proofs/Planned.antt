-- The steps of a rule, item by item and chain by chain.
use Rattle.std.proofs.Common.{◌≡◌, ◌↔◌, ◌⊎◌, ℕ, ◌+◌, ◌<◌, ◌≤◌, true, List, [], ◌∷◌, ◌++◌, length, None, Some, refl, sym, ap, subst, ◌∙◌, inl, inr, arith, length-append}
use Rattle.std.specs.Prelude.{Contains, slice_get}
use Rattle.std.proofs.Math.Nat.{eq-or-lt_of_le}
use Rattle.std.proofs.lemmas.Option.{slice_get_within, same_Some}
use Rattle.std.proofs.lemmas.List.Elements.{Contains-push, Contains-push_cases, Contains-append_left}
use Rattle.flow_syntax.specs.declared.rule.FlowRule.{FlowRule}
use Rattle.flow_syntax.specs.declared.rule.Chain.{Chain}
use Rattle.flow_syntax.specs.declared.rule.Item.{Item}
use Rattle.flow_syntax.specs.declared.rule.ItemKind.{ItemKind}
use Rattle.flow_syntax.specs.Control.{HasSmallHead}
use Rattle.flow_links.specs.inner.Gains.{Gains}
use Rattle.flow_links.proofs.SetLemmas.{Gains-all}
use Rattle.rule_plans.specs.declared.stop.Stop.{Stop}
use Rattle.rule_plans.specs.declared.stop.Stop.TheVariants.{Entry, Exit}
use Rattle.rule_plans.specs.declared.stop.Step.{Step}
use Rattle.rule_plans.specs.Hops.{IsStepOf}
use Rattle.graph_shape.specs.RuleSteps.{leaving_stop, arriving_stop, IsRuleStep, between, through_root}
use Rattle.graph_shape.specs.Shapes.{IsPlan}
use Rattle.graph_shape.specs.inner.Planned.{AreRulePlans, ChainSteps, IsItemStep, IsPassing, PairSteps}
use Rattle.graph_shape.proofs.Passable.{last_or_before}
use Rattle.graph_shape.proofs.PlanLaws.{rule_plan, no_rule_plan}

-- one thing more
pub one_more : {X : Type 0} (xs : List X) (x : X) → Gains xs (xs ++ x ∷ []) (λ y. y ≡ x)
one_more xs x = record {
  each = λ y. (
    λ h. elim (Contains-push_cases xs x y h) [ inl before ↦ inl before | inr same ↦ inr (sym same) ],
    λ h. elim h [ inl before ↦ Contains-append_left xs (x ∷ []) y before | inr same ↦ subst (λ z. Contains (xs ++ x ∷ []) z) (sym same) (Contains-push xs x) ],
  );
}

module _ (rule : FlowRule) (items : List Item) (k j : ℕ) (left right : Item) (after_j : k ≡ j + 1) (is_left : slice_get items j ≡ Some left) (is_right : slice_get items k ≡ Some right) (step : Step) where
  last_pair : (p : PairSteps rule items (k + 1) step) → (p.k + 1 ≡ k) ⊎ (p.k + 1 < k) → PairSteps rule items k step ⊎ IsItemStep rule left.kind right.kind step
  last_pair p (inr before) = inl (record { k = p.k; before = before; left = p.left; right = p.right; is_left = p.is_left; is_right = p.is_right; is = p.is })
  last_pair p (inl same) =
      let at_j : p.k ≡ j = omega arith in
      let one : p.left ≡ left = same_Some _ _ (sym p.is_left ∙ ap (slice_get items) at_j ∙ is_left) in
      let two : p.right ≡ right = same_Some _ _ (sym p.is_right ∙ ap (slice_get items) same ∙ is_right) in
      inr (record { leaves = ap (λ (i : Item). leaving_stop rule i.kind) (sym one) ∙ p.is.leaves; arrives = ap (λ (i : Item). arriving_stop rule i.kind) (sym two) ∙ p.is.arrives })

  -- one pair more
  pub pairs_next : (PairSteps rule items k step ⊎ IsItemStep rule left.kind right.kind step) ↔ PairSteps rule items (k + 1) step
  pairs_next = (
    λ h. elim h [
      | inl p ↦ record { k = p.k; before = (let f : p.k + 1 < k = p.before in omega arith); left = p.left; right = p.right; is_left = p.is_left; is_right = p.is_right; is = p.is }
      | inr p ↦ record { k = j; before = omega arith; left = left; right = right; is_left = is_left; is_right = ap (slice_get items) (sym after_j) ∙ is_right; is = p }
    ],
    λ p. last_pair p (eq-or-lt_of_le (let f : p.k + 1 < k + 1 = p.before in omega arith)),
  )

-- past the end there are no more pairs
pub pairs_all : (rule : FlowRule) (items : List Item) (k : ℕ) → length items ≤ k → (step : Step) → PairSteps rule items k step ↔ PairSteps rule items (length items) step
pairs_all rule items k h step = (
  λ p. record { k = p.k; before = slice_get_within items (p.k + 1) p.right p.is_right; left = p.left; right = p.right; is_left = p.is_left; is_right = p.is_right; is = p.is },
  λ p. record { k = p.k; before = (let f : p.k + 1 < length items = p.before in omega arith); left = p.left; right = p.right; is_left = p.is_left; is_right = p.is_right; is = p.is },
)

-- one chain more
pub chains_push : (rule : FlowRule) (chains : List Chain) (chain : Chain) (step : Step)
    → (ChainSteps rule chains step ⊎ PairSteps rule chain.items (length chain.items) step) ↔ ChainSteps rule (chains ++ chain ∷ []) step
chains_push rule chains chain step = (
  λ h. elim h [
    | inl p ↦ record { chain = p.chain; has = Contains-append_left chains (chain ∷ []) p.chain p.has; inside = p.inside }
    | inr p ↦ record { chain = chain; has = Contains-push chains chain; inside = p }
  ],
  λ p. elim (Contains-push_cases chains chain p.chain p.has) [
    | inl before ↦ inl (record { chain = p.chain; has = before; inside = p.inside })
    | inr same ↦ inr (subst (λ (c : Chain). PairSteps rule c.items (length c.items) step) (sym same) p.inside)
  ],
)

-- a step with these stops
pub step_is : (x : Step) (s u : Stop) → x.from ≡ s → x.to ≡ u → x ≡ record { from = s; to = u }
step_is x s u e f = subst (λ (v : Stop). x ≡ record { from = v; to = u }) e (subst (λ (v : Stop). x ≡ record { from = x.from; to = v }) f refl)

-- a list of steps has a step where it contains it
pub contained : (steps : List Step) (s u : Stop) → IsStepOf steps s u ↔ Contains steps (record { from = s; to = u })
contained steps s u = (
  λ h. subst (λ (x : Step). Contains steps x) (step_is h.step s u h.leaves h.arrives) h.among,
  λ h. record { step = record { from = s; to = u }; among = h; leaves = refl; arrives = refl },
)

-- the step of two items
pub item_step : (rule : FlowRule) (left right : ItemKind) (s u : Stop) → leaving_stop rule left ≡ Some s → arriving_stop rule right ≡ Some u → (x : Step) → (x ≡ record { from = s; to = u }) ↔ IsItemStep rule left right x
item_step rule left right s u l r x = (
  λ e. record { leaves = l ∙ ap Some (sym (ap (λ (y : Step). y.from) e)); arrives = r ∙ ap Some (sym (ap (λ (y : Step). y.to) e)) },
  λ h. step_is x s u (same_Some x.from s (sym h.leaves ∙ l)) (same_Some x.to u (sym h.arrives ∙ r)),
)

-- no step without a stop at each end
pub no_leaving : (rule : FlowRule) (left right : ItemKind) → leaving_stop rule left ≡ None → (x : Step) → ¬ IsItemStep rule left right x
no_leaving rule left right e x h = let f : None ≡ Some x.from = sym e ∙ h.leaves in cc (f)

pub no_arriving : (rule : FlowRule) (left right : ItemKind) → arriving_stop rule right ≡ None → (x : Step) → ¬ IsItemStep rule left right x
no_arriving rule left right e x h = let f : None ≡ Some x.to = sym e ∙ h.arrives in cc (f)

-- the steps of a rule: those of its chains, and through a root
abbrev pub RuleSteps : FlowRule → Step → Type 0
RuleSteps rule step = ChainSteps rule rule.chains step ⊎ ((rule.root ≡ true) × IsPassing step)

-- the steps that a rule makes are those of its chains, and through a root
pub steps_are : (rule : FlowRule) (steps : List Step) → Gains [] steps (RuleSteps rule) → (s u : Stop) → IsStepOf steps s u ↔ IsRuleStep rule s u
steps_are rule steps gains s u = (
  λ h. forth ((Gains-all gains (record { from = s; to = u })).0 ((contained steps s u).0 h)),
  λ h. (contained steps s u).1 ((Gains-all gains (record { from = s; to = u })).1 (back h)),
)
  where
    forth : RuleSteps rule (record { from = s; to = u }) → IsRuleStep rule s u
    forth (inl c) = between c.chain c.inside.left c.inside.right c.has (c.inside.k, c.inside.is_left, c.inside.is_right) c.inside.is.leaves c.inside.is.arrives
    forth (inr r) = through_root r.0 (ap (λ (x : Step). x.from) r.1) (ap (λ (x : Step). x.to) r.1)

    back : IsRuleStep rule s u → RuleSteps rule (record { from = s; to = u })
    back (between chain left right has pair l m) = inl (record {
      chain = chain;
      has = has;
      inside = record { k = pair.0; before = slice_get_within chain.items (pair.0 + 1) right pair.2; left = left; right = right; is_left = pair.1; is_right = pair.2; is = record { leaves = l; arrives = m } };
    })
    back (through_root r e f) = inr (r, step_is (record { from = s; to = u }) Entry Exit e f)

pub plan_of_rule : (rule : FlowRule) (steps : List Step) → Gains [] steps (RuleSteps rule) → IsPlan (Some rule) steps
plan_of_rule rule steps gains = rule_plan rule steps (steps_are rule steps gains)

-- the plan of a position that no rule matches
pub plan_of_none : (steps : List Step) → Gains [] steps IsPassing → IsPlan None steps
plan_of_none steps gains = no_rule_plan steps (λ s u. (
  λ h. (let e = (Gains-all gains (record { from = s; to = u })).0 ((contained steps s u).0 h) in (ap (λ (x : Step). x.from) e, ap (λ (x : Step). x.to) e)),
  λ h. (contained steps s u).1 ((Gains-all gains (record { from = s; to = u })).1 (step_is (record { from = s; to = u }) Entry Exit h.0 h.1)),
))

-- ** lists of plans

pub no_plans : AreRulePlans [] []
no_plans = record { count = refl; each = λ n rule steps h small g. cc }

pub plans_more : (rules : List FlowRule) (plans : List (List Step)) (rule : FlowRule) (steps : List Step) → AreRulePlans rules plans → (HasSmallHead rule → IsPlan (Some rule) steps) → AreRulePlans (rules ++ rule ∷ []) (plans ++ steps ∷ [])
plans_more rules plans rule steps are is = record {
  count = (let e : length plans ≡ length rules = are.count in omega (arith, length-append rules (rule ∷ []), length-append plans (steps ∷ [])));
  each = λ n r p h small g. by n r p (last_or_before rules rule n r h) small (last_or_before plans steps n p g);
}
  where
    by : (n : ℕ) (r : FlowRule) (p : List Step) → (slice_get rules n ≡ Some r) ⊎ ((n ≡ length rules) × (rule ≡ r)) → HasSmallHead r → (slice_get plans n ≡ Some p) ⊎ ((n ≡ length plans) × (steps ≡ p)) → IsPlan (Some r) p
    by n r p (inl h) small (inl g) = are.each n r p h small g
    by n r p (inr h) small (inr g) = subst (λ (x : List Step). IsPlan (Some r) x) g.1 (subst (λ (x : FlowRule). HasSmallHead x → IsPlan (Some x) steps) h.1 is small)
    by n r p (inl h) small (inr g) = absurd (let f : n < length rules = slice_get_within rules n r h in let e : length plans ≡ length rules = are.count in omega (arith, g.0))
    by n r p (inr h) small (inl g) = absurd (let f : n < length plans = slice_get_within plans n p g in let e : length plans ≡ length rules = are.count in omega (arith, h.0))
