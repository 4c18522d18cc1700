-- The constraints of a tree keep to elements that have what they bring, and so to the tree's own.
use Rattle.std.proofs.Common.{◌≡◌, ◌↔◌, ℕ, Bool, true, false, cond, List, [], ◌∷◌, map, Option, Some, None, refl, sym, ap, subst, ◌∙◌, bytes_eq}
use Rattle.std.specs.Prelude.{Contains, slice_get}
use Rattle.std.specs.List.{flat_map}
use Rattle.std.proofs.lemmas.Bool.{and_parts, false_from_ne_true}
use Rattle.std.proofs.lemmas.List.Elements.{Contains-append_left}
use Rattle.flow_term.specs.declared.elem.Elem.{Elem}
use Rattle.flow_term.specs.declared.graph.Unknown.{Unknown}
use Rattle.flow_term.specs.declared.term.Term.{Term}
use Rattle.flow_term.specs.declared.value.Bound.{Bound}
use Rattle.flow_term.specs.declared.value.Value.{Value}
use Rattle.flow_term.specs.declared.value.Value.TheVariants as value
use Rattle.flow_syntax.specs.declared.property.PropDecl.{PropDecl}
use Rattle.flow_syntax.specs.declared.property.PropRule.{PropRule}
use Rattle.flow_syntax.specs.declared.spec.Spec.{Spec}
use Rattle.flow_syntax.specs.Binders as binders
use Rattle.flow_syntax.specs.Binders.{bound_in}
use Rattle.flow_syntax.specs.DeclFaults.{has_loose_int, loose_int}
use Rattle.flow_syntax.specs.ExprFaults.{body_of, trigger_pattern, trigger_scope}
use Rattle.flow_syntax.specs.Faults.{declaration}
use Rattle.flow_syntax.specs.Expressions.{expressions_of}
use Rattle.flow_syntax.specs.Types.{Sort, Typing, lattice_of, name_sort}
use Rattle.flow_syntax.proofs.Listed.{at_in, in_at}
use Rattle.flow_match.specs.Bindings.{BindAll}
use Rattle.constraint_theory.specs.Systems.{Fitting}
use Rattle.value_domains.specs.Domains.{Domain, IsValueOf, domain_of}
use Rattle.value_heights.specs.Heights.{is_within}
use Rattle.value_heights.specs.Tests.{is_valid}
use Rattle.value_heights.proofs.Told.{values_told}
use Rattle.expr_meaning.specs.Making.{HasMade, Holds, FlatHolds, MeaningHolds, BoundHolds, SituationHolds}
use Rattle.expr_meaning.specs.Meaning.{bound_to, property_number, value_in}
use Rattle.expr_meaning.specs.Ranges.{Range}
use Rattle.expr_meaning.specs.SpecRanges.{domains_of, property_domain}
use Rattle.expr_meaning.specs.Typing.{Variable, variable_of}
use Rattle.typed_bodies.specs.Accepted.{rule_domain, sense_of}
use Rattle.typed_bodies.specs.Anywhere.{used_by, variables_at, whole}
use Rattle.typed_bodies.proofs.Anywhere.{makes_no_others}
use Rattle.typed_bodies.proofs.Good.{body_in}
use Rattle.tree_constraints.specs.declared.constraint.Constraint.{Constraint}
use Rattle.tree_constraints.specs.Constraints.{IsUnknownOf, IsConstraint, copied, node_at, rule_of, situation_of, unknown_at}
use Rattle.tree_constraints.specs.Elements.{elements_of, is_one_of}
use Rattle.tree_constraints.specs.Laws.{IsAnalysed, KeepsTo, ConstraintsKeepToElements, TreesAreLawful}
use Rattle.tree_constraints.specs.Orders.{by_parts}
use Rattle.tree_constraints.specs.Solutions.{AreConstraints, AreUnknowns, domain_at, system_over}
use Rattle.tree_constraints.proofs.Applied.{applied}
use Rattle.tree_constraints.proofs.Bindings.{AreBoundAmong}
use Rattle.tree_constraints.proofs.Facts.{property_used, target_used, copied_used, listed_constraint, listed_unknown}
use Rattle.tree_constraints.proofs.Given.{tree_has_made}
use Rattle.tree_constraints.proofs.Lists.{map_has}
use Rattle.tree_constraints.proofs.Monotone.{gives, gives_valid}
use Rattle.tree_constraints.proofs.Numbers.{number_is}
use Rattle.tree_constraints.proofs.Situations.{at_side, can_evaluate, of_pattern, scope_variables, unknown_lawful}
use Rattle.tree_constraints.proofs.Solved.{fits_valid, systems_lawful}
use Rattle.tree_constraints.proofs.Sorted.{Among, HasPairs, within_agrees}

-- variables that are bound in their order to elements are bound to them by their names
hold_in_order : (els : Sort → List Elem) (vs : List binders.Bound) (bs : List Bound) → BindAll vs bs → AreBoundAmong els vs bs → (x : List ℕ) → BoundHolds (Among els) (variable_of (map of_pattern vs) x) (bound_to bs x)
hold_in_order els [] [] h k x = tt
hold_in_order els [] (b ∷ bs) h k x = absurd h
hold_in_order els (v ∷ vs) [] h k x = absurd h
hold_in_order els (v ∷ vs) (b ∷ bs) h k x =
    subst (λ (n : List ℕ). BoundHolds (Among els) (cond (bytes_eq x v.name) (Some (of_pattern v)) (variable_of (map of_pattern vs) x)) (cond (bytes_eq x n) (Some b) (bound_to bs x))) h.0.0
    (by (bytes_eq x v.name) (hold_in_order els vs bs h.1 k.1 x))
  where
    by : (t : Bool) → BoundHolds (Among els) (variable_of (map of_pattern vs) x) (bound_to bs x) → BoundHolds (Among els) (cond t (Some (of_pattern v)) (variable_of (map of_pattern vs) x)) (cond t (Some b) (bound_to bs x))
    by true later = k.0
    by false later = later

-- Elements that have the pairs of others, what expressions make themselves, and what the variables of constraints stand for.
pub record AreEnough (spec : Spec) (els : Sort → List Elem) (IsOne : Constraint → Type 0) : Type 0 where
  pub pairs : HasPairs els
  pub made : HasMade (Among els) spec (expressions_of spec)
  pub bound : (c : Constraint) → IsOne c → (rule : PropRule) → rule_of spec c ≡ Some rule → AreBoundAmong els (bound_in (trigger_pattern rule.trigger)) c.bindings

module _ (spec : Spec) (types : List Typing) (analysed : IsAnalysed spec types) (tree : Term) (cs : List Constraint) (us : List Unknown) (hc : AreConstraints spec tree cs) (hu : AreUnknowns spec tree us)
    (els : Sort → List Elem) (enough : AreEnough spec els (IsConstraint spec tree)) where
  number : (n : ℕ) (p : PropDecl) → slice_get spec.properties n ≡ Some p → property_number spec p.name.text ≡ n
  number n p at = number_is spec analysed.typed.faultless n p at

  -- a value of a property's domain holds the tree's elements exactly where it is made of them
  domain_is : (u : Unknown) (p : PropDecl) → Contains spec.properties p → u.property ≡ p.name.text → domain_at spec u ≡ domain_of spec.lattices (lattice_of p.lattice)
  domain_is u p among named =
      let place = in_at spec.properties p among in
      ap (λ (x : List ℕ). domains_of spec (property_number spec x)) named ∙ ap (domains_of spec) (number place.0 p place.1) ∙ ap (property_domain spec.lattices) place.1

  no_loose : (p : PropDecl) → Contains spec.properties p → has_loose_int (lattice_of p.lattice) ≡ false
  no_loose p among = false_from_ne_true (has_loose_int (lattice_of p.lattice)) (λ e. analysed.typed.faultless _ _ (declaration (loose_int p among e refl)))

  unknown_agrees : (u : Unknown) → IsUnknownOf spec tree u → (v : Value) → IsValueOf (domain_at spec u) v → (is_within (els) (domain_at spec u) v ≡ true) ↔ Holds (Among els) (domain_at spec u) v
  unknown_agrees u is =
      subst (λ (d : Domain). (v : Value) → IsValueOf d v → (is_within (els) d v ≡ true) ↔ Holds (Among els) d v) (sym (domain_is u is.property is.declared is.named))
      (within_agrees els enough.pairs spec.lattices (lattice_of is.property.lattice) (no_loose is.property is.declared))

  module _ (a : Unknown → Value) (fits : Fitting by_parts (system_over spec types (els) cs us) a) where
    parts : (u : Unknown) → IsUnknownOf spec tree u → (is_valid (domain_at spec u) (a u) ≡ true) × (is_within (els) (domain_at spec u) (a u) ≡ true)
    parts u is = and_parts (is_valid (domain_at spec u) (a u)) (is_within (els) (domain_at spec u) (a u)) (fits u (listed_unknown spec tree cs us hc hu u is))

    valid : (u : Unknown) → IsUnknownOf spec tree u → IsValueOf (domain_at spec u) (a u)
    valid u is = (values_told (domain_at spec u) (unknown_lawful spec analysed.lawful u) (a u)).0 (parts u is).0

    held : (u : Unknown) → IsUnknownOf spec tree u → Holds (Among els) (domain_at spec u) (a u)
    held u is = (unknown_agrees u is (a u) (valid u is)).0 (parts u is).1

    module _ (c : Constraint) (is : IsConstraint spec tree c) where
      situation_holds : (rule : PropRule) → rule_of spec c ≡ Some rule → SituationHolds (Among els) (used_by spec rule.body) (variables_at (trigger_scope rule.trigger)) (situation_of spec c a)
      situation_holds rule e =
          let applies = applied spec tree c is rule e in
          subst (λ (vs : List Variable). SituationHolds (Among els) (used_by spec rule.body) vs (situation_of spec c a)) (sym (scope_variables rule.trigger)) (record {
            bound = λ x h. hold_in_order els (bound_in (trigger_pattern rule.trigger)) c.bindings applies.binds (enough.bound c is rule e) x;
            reads = λ n s h. at_side spec tree number analysed.lawful c.key is.key (λ d v w. Holds (Among els) d v) a a (subst (FlatHolds (Among els name_sort)) (sym value.outs-Bottom) tt)
                (λ m p t at. held (unknown_at (node_at c.key t) p.name.text) (property_used spec tree c.key is.key t p (at_in spec.properties m p at))) n s;
          })

      rule_held : (rule : PropRule) → rule_of spec c ≡ Some rule → Holds (Among els) (domain_at spec c.key.target) (value_in (sense_of spec types rule.body (situation_of spec c a)))
      rule_held rule e =
          let applies = applied spec tree c is rule e in
          let among = at_in spec.rules applies.stands.0 rule applies.stands.1 in
          let place = whole (body_of spec rule) (Contains-append_left (map (body_of spec) spec.rules) (flat_map _ spec.messages) (body_of spec rule) (map_has (body_of spec) spec.rules rule among)) in
          let made = makes_no_others spec types analysed.typed analysed.lawful (is_one_of els) enough.made (body_of spec rule) place (situation_of spec c a)
          (can_evaluate spec tree number analysed.lawful c is rule applies a valid) (situation_holds rule e) in
          let own : rule_domain spec rule ≡ domain_at spec c.key.target = ap (λ (x : List ℕ). domains_of spec (property_number spec x)) (sym applies.of_property) in
          subst (λ (d : Domain). Holds (Among els) d (value_in (sense_of spec types rule.body (situation_of spec c a)))) own
          (subst (λ (r : Range). MeaningHolds (Among els) r (sense_of spec types rule.body (situation_of spec c a))) (body_in spec types analysed.typed rule among) made)

      kept : (o : Option PropRule) → rule_of spec c ≡ o → is_within (els) (domain_at spec c.key.target) (gives spec types analysed tree cs us hc hu c is o a) ≡ true
      kept None e = (parts (copied c.key) (copied_used spec tree c.key is.key)).1
      kept (Some rule) e =
          (unknown_agrees c.key.target (target_used spec tree c.key is.key) (gives spec types analysed tree cs us hc hu c is (Some rule) a)
          (gives_valid spec types analysed tree cs us hc hu c is (Some rule) e a (fits_valid (els) spec types cs us a fits))).1 (rule_held rule e)

pub keep_to : (spec : Spec) (types : List Typing) → IsAnalysed spec types → (tree : Term) (cs : List Constraint) (us : List Unknown) → AreConstraints spec tree cs → AreUnknowns spec tree us
    → (els : Sort → List Elem) → AreEnough spec els (IsConstraint spec tree) → KeepsTo spec types els cs us
keep_to spec types analysed tree cs us hc hu els enough c a h fits = kept spec types analysed tree cs us hc hu els enough a fits c (listed_constraint spec tree cs us hc hu c h) (rule_of spec c) refl

pub keep_to_elements : ConstraintsKeepToElements
keep_to_elements spec types analysed tree cs us hc hu = keep_to spec types analysed tree cs us hc hu (elements_of spec tree) (record {
  pairs = λ s t. refl;
  made = tree_has_made spec analysed.typed.faultless tree;
  bound = λ c is rule e. (applied spec tree c is rule e).elements;
})

pub trees_lawful : TreesAreLawful
trees_lawful spec types analysed tree cs us hc hu = systems_lawful spec types analysed (elements_of spec tree) tree cs us hc hu (keep_to_elements spec types analysed tree cs us hc hu)
