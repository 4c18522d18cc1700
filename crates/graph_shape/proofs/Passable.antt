-- What is kept of a position follows from what is kept of its children.
use Rattle.std.proofs.Common.{◌≡◌, ◌↔◌, ℕ, zero, suc, ◌<◌, ◌^◌, ◌&&◌, Bool, true, false, IsTrue, List, [], ◌∷◌, ◌++◌, length, Option, Some, None, refl, sym, ap, subst, ◌∙◌, inl, inr, arith, length-append}
use Rattle.std.specs.Prelude.{◌⊎◌, slice_get, option_and_then, unwrap_or}
use Rattle.std.specs.List.{list_all}
use Rattle.std.proofs.lemmas.Option.{same_Some, slice_get_within}
use Rattle.flow_term.specs.declared.term.Term.{Term}
use Rattle.flow_term.specs.Annotations.{term_layer}
use Rattle.flow_term.specs.Trees.{children, term_size}
use Rattle.flow_syntax.specs.declared.rule.FlowRule.{FlowRule}
use Rattle.flow_syntax.specs.declared.spec.Spec.{Spec}
use Rattle.flow_syntax.specs.Control.{rule_for}
use Rattle.flow_syntax.specs.Matching.{is_list}
use Rattle.flow_links.proofs.NumberLemmas.{get_longer}
use Rattle.flow_links.proofs.SizeLemmas.{small_head}
use Rattle.path_tree.specs.declared.tree.PathTree.{PathTree}
use Rattle.rule_plans.specs.declared.stop.Step.{Step}
use Rattle.rule_plans.specs.declared.stop.Stop.TheVariants.{Entry, Exit}
use Rattle.rule_plans.specs.Hops.{Leads}
use Rattle.graph_laws.specs.Owners.{HasPlacedItems}
use Rattle.graph_laws.specs.Parts.{onward, child_passes}
use Rattle.graph_shape.proofs.Children.{list_passed}
use Rattle.graph_shape.specs.declared.kept.Kept.{Kept}
use Rattle.graph_shape.specs.declared.plans.Plans.{Plans}
use Rattle.graph_shape.specs.Plans.{IsPlanOf}
use Rattle.graph_shape.specs.Steps.{steps_for}
use Rattle.graph_shape.specs.Shapes.{ArePlans, AreShapesOf, IsPassable, IsShapeOf, bits_of, would_pass}
use Rattle.graph_shape.proofs.StopPoints.{by_list}
use Rattle.graph_shape.proofs.StopWays.{passes_at}
use Rattle.graph_shape.proofs.ChildBits.{child_bit, got_child, passed_by_bits}

-- the plan of a position that is no list
pub plan_is : (spec : Spec) (plans : Plans) (t : Term) (rule : Option ℕ) → ArePlans spec.control plans → term_size t < 2 ^ 32 → option_and_then (slice_get spec.control) rule ≡ rule_for spec t → is_list (term_layer t) ≡ false
    → IsPlanOf (rule_for spec t) t (steps_for plans rule)
plan_is spec plans t None are small h other = subst (λ (m : Option FlowRule). IsPlanOf m t plans.unmatched) h (are.none t other)
plan_is spec plans t (Some n) are small h other = by (slice_get spec.control n) refl (slice_get plans.rules n) refl
  where
    by : (o : Option FlowRule) → slice_get spec.control n ≡ o → (p : Option (List Step)) → slice_get plans.rules n ≡ p → IsPlanOf (rule_for spec t) t (unwrap_or (slice_get plans.rules n) plans.unmatched)
    by None e None f = rw f (subst (λ (m : Option FlowRule). IsPlanOf m t plans.unmatched) (sym e ∙ h) (are.none t other))
    by (Some r) e (Some steps) f = rw f (subst (λ (m : Option FlowRule). IsPlanOf m t steps) (sym e ∙ h) (are.each n r steps e (small_head spec t small r (sym h ∙ e)) f t other))
    by None e (Some steps) f = absurd (beyond spec.control plans.rules n steps (sym are.count) e f)
      where
        beyond : {X Y : Type 0} (xs : List X) (ys : List Y) (k : ℕ) (y : Y) → length xs ≡ length ys → slice_get xs k ≡ None → slice_get ys k ≡ Some y → ⊥
        beyond [] [] k y l a b = cc
        beyond [] (z ∷ ys) k y l a b = absurd (omega (arith, l))
        beyond (x ∷ xs) [] k y l a b = cc
        beyond (x ∷ xs) (z ∷ ys) zero y l a b = cc
        beyond (x ∷ xs) (z ∷ ys) (suc k) y l a b = beyond xs ys k y (omega (arith, l)) a b
    by (Some r) e None f = absurd (beyond plans.rules spec.control n r are.count f e)
      where
        beyond : {X Y : Type 0} (xs : List X) (ys : List Y) (k : ℕ) (y : Y) → length xs ≡ length ys → slice_get xs k ≡ None → slice_get ys k ≡ Some y → ⊥
        beyond [] [] k y l a b = cc
        beyond [] (z ∷ ys) k y l a b = absurd (omega (arith, l))
        beyond (x ∷ xs) [] k y l a b = cc
        beyond (x ∷ xs) (z ∷ ys) zero y l a b = cc
        beyond (x ∷ xs) (z ∷ ys) (suc k) y l a b = beyond xs ys k y (omega (arith, l)) a b

-- a position that is no list
pub ruled_passable : (spec : Spec) (placed : HasPlacedItems spec) (t : Term) (steps : List Step) (plan : IsPlanOf (rule_for spec t) t steps) (ss : List (PathTree Kept)) → AreShapesOf spec (children t) ss
    → (b : Bool) → IsTrue b ↔ Leads steps (bits_of ss) Entry Exit → IsPassable spec t b
ruled_passable spec placed t steps plan ss shapes b h path =
    let both = passes_at spec t path steps plan (bits_of ss) (passed_by_bits spec placed t path ss shapes) placed in
    (λ x. both.1 (h.0 x), λ w. h.1 (both.0 w))

all_get : (ss : List (PathTree Kept)) → list_all would_pass ss ≡ true → (k : ℕ) (s : PathTree Kept) → slice_get ss k ≡ Some s → would_pass s ≡ true
all_get [] h k s is = cc
all_get (x ∷ ss) h zero s is = subst (λ (y : PathTree Kept). would_pass y ≡ true) (same_Some x s is) (first (would_pass x) (list_all would_pass ss) h)
  where
    first : (a b : Bool) → (a && b) ≡ true → a ≡ true
    first true b h = refl
    first false b h = cc
all_get (x ∷ ss) h (suc k) s is = all_get ss (second (would_pass x) (list_all would_pass ss) h) k s is
  where
    second : (a b : Bool) → (a && b) ≡ true → b ≡ true
    second true b h = h
    second false b h = cc

all_from : (ss : List (PathTree Kept)) → ((k : ℕ) (s : PathTree Kept) → slice_get ss k ≡ Some s → would_pass s ≡ true) → list_all would_pass ss ≡ true
all_from [] h = refl
all_from (x ∷ ss) h = both (would_pass x) (list_all would_pass ss) (h 0 x refl) (all_from ss (λ k s is. h (suc k) s is))
  where
    both : (a b : Bool) → a ≡ true → b ≡ true → (a && b) ≡ true
    both true true h e = refl
    both true false h e = cc
    both false b h e = cc

-- a list
pub list_passable : (spec : Spec) (placed : HasPlacedItems spec) (t : Term) → is_list (term_layer t) ≡ true → rule_for spec t ≡ None → (ss : List (PathTree Kept)) → AreShapesOf spec (children t) ss
    → (b : Bool) → b ≡ list_all would_pass ss → IsPassable spec t b
list_passable spec placed t of_list no_rule ss shapes b h path =
    let both = list_passed spec placed t path of_list no_rule in (
      λ x. both.1 (λ k _ within. each k within (sym h ∙ x)),
      λ w. h ∙ all_from ss (λ k s is.
          let c = got_child (children t) ss k s shapes.count is in
          let p = shapes.each k c.0 c.1 in
          let same : p.shape ≡ s = same_Some p.shape s (sym p.at ∙ is) in
          (child_bit spec placed t path ss shapes k c.0 s c.1 (subst (λ (x : PathTree Kept). IsShapeOf spec c.0 x) same p.is) (by_list (rule_for spec t) t k of_list)).1
          (both.0 w k (omega arith) (slice_get_within (children t) k c.0 c.1))),
    )
  where
    get_some : {X : Type 0} (xs : List X) (k : ℕ) → k < length xs → (x : X) × (slice_get xs k ≡ Some x)
    get_some [] k h = absurd (omega (arith, h))
    get_some (x ∷ xs) zero h = (x, refl)
    get_some (x ∷ xs) (suc k) h = get_some xs k (omega (arith, h))

    each : (k : ℕ) → k < length (children t) → list_all would_pass ss ≡ true → child_passes spec true t path k onward
    each k within all =
        let c = get_some (children t) k within in
        let p = shapes.each k c.0 c.1 in
        (child_bit spec placed t path ss shapes k c.0 p.shape c.1 p.is (by_list (rule_for spec t) t k of_list)).0 (all_get ss all k p.shape p.at)

-- ** lists of shapes

pub last_or_before : {X : Type 0} (xs : List X) (x : X) (k : ℕ) (y : X) → slice_get (xs ++ x ∷ []) k ≡ Some y → (slice_get xs k ≡ Some y) ⊎ ((k ≡ length xs) × (x ≡ y))
last_or_before [] x zero y h = inr (refl, same_Some x y h)
last_or_before [] x (suc k) y h = cc
last_or_before (z ∷ xs) x zero y h = inl h
last_or_before (z ∷ xs) x (suc k) y h = elim (last_or_before xs x k y h) [ inl a ↦ inl a | inr b ↦ inr (ap suc b.0, b.1) ]

pub get_last : {X : Type 0} (xs : List X) (x : X) → slice_get (xs ++ x ∷ []) (length xs) ≡ Some x
get_last [] x = refl
get_last (y ∷ xs) x = get_last xs x

pub no_shapes : (spec : Spec) → AreShapesOf spec [] []
no_shapes spec = record { count = refl; each = λ k t h. cc }

pub shapes_more : (spec : Spec) (ts : List Term) (ss : List (PathTree Kept)) (t : Term) (s : PathTree Kept) → AreShapesOf spec ts ss → IsShapeOf spec t s → AreShapesOf spec (ts ++ t ∷ []) (ss ++ s ∷ [])
shapes_more spec ts ss t s are is = record {
  count = (let e : length ss ≡ length ts = are.count in omega (arith, length-append ts (t ∷ []), length-append ss (s ∷ [])));
  each = λ k u at. elim (last_or_before ts t k u at) [
    | inl before ↦ (let c = are.each k u before in record { shape = c.shape; at = get_longer ss (s ∷ []) k c.shape c.at; is = c.is })
    | inr last ↦ record {
      shape = s;
      at = subst (λ (j : ℕ). slice_get (ss ++ s ∷ []) j ≡ Some s) (are.count ∙ sym last.0) (get_last ss s);
      is = subst (λ (x : Term). IsShapeOf spec x s) last.1 is;
    }
  ];
}
