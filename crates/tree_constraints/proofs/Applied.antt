-- The rule of a constraint is one of the target's property, and its variables are bound.
use Rattle.std.proofs.Common.{◌≡◌, ℕ, suc, ◌+◌, Bool, true, false, not, cond, List, [], ◌∷◌, Option, Some, None, refl, sym, ap, subst, ◌∙◌, arith}
use Rattle.std.specs.Prelude.{bytes_eq, slice_get, option_map, option_and_then}
use Rattle.std.specs.Option.{option_or, option_map_or}
use Rattle.std.proofs.lemmas.Bool.{and_parts}
use Rattle.std.proofs.lemmas.Option.{same_Some}
use Rattle.std.proofs.lemmas.Slice.Eq.{bytes_eq-Decides}
use Rattle.flow_term.specs.declared.graph.NodeKind.{NodeKind}
use Rattle.flow_term.specs.declared.graph.NodeKind.TheVariants as kind
use Rattle.flow_term.specs.declared.graph.Unknown.{Unknown}
use Rattle.flow_term.specs.declared.term.Term.{Term}
use Rattle.flow_term.specs.declared.value.Bound.{Bound}
use Rattle.flow_term.specs.Trees.{At}
use Rattle.flow_syntax.specs.declared.property.PropRule.{PropRule}
use Rattle.flow_syntax.specs.declared.spec.Spec.{Spec}
use Rattle.flow_syntax.specs.Binders.{bound_in}
use Rattle.flow_syntax.specs.ExprFaults.{trigger_pattern}
use Rattle.flow_match.specs.declared.matched.RuleHit.{RuleHit}
use Rattle.flow_match.specs.Bindings.{bindings_at, BindAll}
use Rattle.flow_match.specs.Matched.{first_some, first_hit, hit_by, hit_of as hit_with, is_rule_of, is_boundary}
use Rattle.flow_match.proofs.Sorts.{binds_its_variables}
use Rattle.expr_meaning.specs.Meaning.{property_number}
use Rattle.tree_constraints.specs.declared.constraint.Constraint.{Constraint}
use Rattle.tree_constraints.specs.declared.constraint.Origin.{Origin}
use Rattle.tree_constraints.specs.declared.constraint.Origin.TheVariants as origin
use Rattle.tree_constraints.specs.Laws.{BindingsAreElements}
use Rattle.tree_constraints.proofs.Bindings.{AreElements, AreOfPlainSorts, binds_elements, binds_plain}
use Rattle.tree_constraints.specs.Constraints.{ordinary_hit, hit_of, IsConstraint, rule_of}

-- the first that gives something gives it
some_found : {X Y : Type 0} (f : ℕ → X → Option Y) (n : ℕ) (xs : List X) (y : Y) → first_some f n xs ≡ Some y → (i : ℕ) × (x : X) × (slice_get xs i ≡ Some x) × (f (n + i) x ≡ Some y)
some_found f n [] y h = cc
some_found {X = X} {Y = Y} f n (x ∷ xs) y h = by (f n x) refl h (λ k. some_found f (n + 1) xs y k)
  where
    by : (o : Option Y) → f n x ≡ o → option_or o (first_some f (n + 1) xs) ≡ Some y → (first_some f (n + 1) xs ≡ Some y → (i : ℕ) × (z : X) × (slice_get xs i ≡ Some z) × (f (n + 1 + i) z ≡ Some y))
        → (i : ℕ) × (z : X) × (slice_get (x ∷ xs) i ≡ Some z) × (f (n + i) z ≡ Some y)
    by (Some z) e h rest = (0, x, refl, ap (λ m. f m x) (omega arith) ∙ e ∙ h)
    by None e h rest = let later = rest h in (suc later.0, later.1, later.2, ap (λ m. f m later.1) (omega arith) ∙ later.3)

-- of a rule that gives a hit: it is one of the property, and its pattern binds
rule_of_name : (name : List ℕ) (boundary : Bool) (rule : PropRule) → is_rule_of name boundary rule ≡ true → name ≡ rule.property.text
rule_of_name name true rule h = (bytes_eq-Decides name rule.property.text).0 (and_parts (bytes_eq name rule.property.text) (is_boundary rule.trigger) h).0
rule_of_name name false rule h = (bytes_eq-Decides name rule.property.text).0 (and_parts (bytes_eq name rule.property.text) (not (is_boundary rule.trigger)) h).0

hit_parts : (b : Bool) (o : Option (List Bound)) (property : ℕ) (boundary : Bool) (n : ℕ) (h : RuleHit) → cond b (option_map (hit_with property boundary n) o) None ≡ Some h → (b ≡ true) × (o ≡ Some h.bindings) × (h.rule ≡ n)
hit_parts true (Some bs) property boundary n h e =
    let same : hit_with property boundary n bs ≡ h = same_Some (hit_with property boundary n bs) h e in
    (refl, ap (λ (g : RuleHit). Some g.bindings) same, ap (λ (g : RuleHit). g.rule) (sym same))
hit_parts true None property boundary n h e = cc
hit_parts false o property boundary n h e = cc

-- what is found at an unknown
pub record IsFound (spec : Spec) (tree : Term) (u : Unknown) (h : RuleHit) : Type 0 where
  pub rule : PropRule
  pub stands : slice_get spec.rules h.rule ≡ Some rule
  pub of_property : u.property ≡ rule.property.text
  pub binds : BindAll (bound_in (trigger_pattern rule.trigger)) h.bindings
  pub elements : AreElements spec tree (bound_in (trigger_pattern rule.trigger)) h.bindings
  pub plain : AreOfPlainSorts (bound_in (trigger_pattern rule.trigger)) h.bindings

module _ (spec : Spec) (tree : Term) where
  first_found : (boundary : Bool) (u : Unknown) (t : Term) → At tree u.node.path ≡ Some t → (h : RuleHit) → first_hit (property_number spec u.property) u.property boundary t u.node.path spec.rules ≡ Some h → IsFound spec tree u h
  first_found boundary u t at h e =
      let number = property_number spec u.property in
      let found = some_found (hit_by number u.property boundary t u.node.path) 0 spec.rules h e in
      let rule = found.1 in
      let parts = hit_parts (is_rule_of u.property boundary rule) (bindings_at (trigger_pattern rule.trigger) t u.node.path) number boundary (0 + found.0) h found.3 in
      record {
        rule = rule;
        stands = ap (slice_get spec.rules) (parts.2 ∙ omega arith) ∙ found.2;
        of_property = rule_of_name u.property boundary rule parts.0;
        binds = binds_its_variables (trigger_pattern rule.trigger) t u.node.path h.bindings parts.1;
        elements = binds_elements spec tree (trigger_pattern rule.trigger) t u.node.path at h.bindings parts.1;
        plain = binds_plain (trigger_pattern rule.trigger) t u.node.path h.bindings parts.1;
      }

  at_found : (boundary : Bool) (u : Unknown) (o : Option Term) → At tree u.node.path ≡ o → (h : RuleHit) → option_and_then (λ t. first_hit (property_number spec u.property) u.property boundary t u.node.path spec.rules) o ≡ Some h → IsFound spec tree u h
  at_found boundary u (Some t) at h e = first_found boundary u t at h e
  at_found boundary u None at h e = cc

  ordinary_found : (u : Unknown) (k : NodeKind) (h : RuleHit) → ordinary_hit spec tree u k ≡ Some h → IsFound spec tree u h
  ordinary_found u kind.Node h e = at_found false u (At tree u.node.path) refl h e
  ordinary_found u kind.Start h e = cc
  ordinary_found u kind.End h e = cc

  pub hit_found : (u : Unknown) (o : Origin) (h : RuleHit) → hit_of spec tree u o ≡ Some h → IsFound spec tree u h
  hit_found u origin.Boundary h e = at_found true u (At tree u.node.path) refl h e
  hit_found u (origin.Along n) h e = ordinary_found u u.node.kind h e

-- the rule that gives the value of a constraint
pub record IsApplied (spec : Spec) (tree : Term) (c : Constraint) (rule : PropRule) : Type 0 where
  pub stands : (i : ℕ) × (slice_get spec.rules i ≡ Some rule)
  pub of_property : c.key.target.property ≡ rule.property.text
  pub binds : BindAll (bound_in (trigger_pattern rule.trigger)) c.bindings
  pub elements : AreElements spec tree (bound_in (trigger_pattern rule.trigger)) c.bindings
  pub plain : AreOfPlainSorts (bound_in (trigger_pattern rule.trigger)) c.bindings

-- with this hit the rule is the one that was found
by_hit : (spec : Spec) (tree : Term) (u : Unknown) (o : Option RuleHit) (rule : PropRule) → ((h : RuleHit) → o ≡ Some h → IsFound spec tree u h)
    → option_and_then (λ i. slice_get spec.rules i) (option_map (λ h. h.rule) o) ≡ Some rule
    → ((i : ℕ) × (slice_get spec.rules i ≡ Some rule)) × (u.property ≡ rule.property.text) × BindAll (bound_in (trigger_pattern rule.trigger)) (option_map_or (λ h. h.bindings) o [])
    × AreElements spec tree (bound_in (trigger_pattern rule.trigger)) (option_map_or (λ h. h.bindings) o []) × AreOfPlainSorts (bound_in (trigger_pattern rule.trigger)) (option_map_or (λ h. h.bindings) o [])
by_hit spec tree u None rule found e = cc
by_hit spec tree u (Some h) rule found e =
    let f = found h refl in
    let same : f.rule ≡ rule = same_Some f.rule rule (sym f.stands ∙ e) in (
      (h.rule, e),
      f.of_property ∙ ap (λ (r : PropRule). r.property.text) same,
      subst (λ (r : PropRule). BindAll (bound_in (trigger_pattern r.trigger)) h.bindings) same f.binds,
      subst (λ (r : PropRule). AreElements spec tree (bound_in (trigger_pattern r.trigger)) h.bindings) same f.elements,
      subst (λ (r : PropRule). AreOfPlainSorts (bound_in (trigger_pattern r.trigger)) h.bindings) same f.plain,
    )

pub applied : (spec : Spec) (tree : Term) (c : Constraint) → IsConstraint spec tree c → (rule : PropRule) → rule_of spec c ≡ Some rule → IsApplied spec tree c rule
applied spec tree c is rule e =
    let k = c.key in
    let hit = hit_of spec tree k.target k.origin in
    let found = by_hit spec tree k.target hit rule (hit_found spec tree k.target k.origin) (sym (ap (rule_of spec) is.whole) ∙ e) in
    let bindings = sym (ap (λ (d : Constraint). d.bindings) is.whole) in
    record {
      stands = found.0;
      of_property = found.1;
      binds = subst (λ (bs : List Bound). BindAll (bound_in (trigger_pattern rule.trigger)) bs) bindings found.2;
      elements = subst (λ (bs : List Bound). AreElements spec tree (bound_in (trigger_pattern rule.trigger)) bs) bindings found.3;
      plain = subst (λ (bs : List Bound). AreOfPlainSorts (bound_in (trigger_pattern rule.trigger)) bs) bindings found.4;
    }

pub bindings_elements : BindingsAreElements
bindings_elements spec tree c is rule e = (applied spec tree c is rule e).elements
