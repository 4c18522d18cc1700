-- The rules of constraints and the properties of unknowns are those of the specification.
use Rattle.std.proofs.Common.{◌≡◌, ℕ, ◌<◌, true, List, Option, Some, None, length, refl, sym, ap, subst, ◌∙◌}
use Rattle.std.specs.Prelude.{slice_get, option_map}
use Rattle.std.proofs.Math.Dec.{ltb}
use Rattle.std.proofs.lemmas.Bool.{lt-ltb, ltb-true}
use Rattle.std.proofs.lemmas.Option.{same_Some, slice_get_within}
use Rattle.list_theory.specs.Lists.{has}
use Rattle.flow_term.specs.declared.graph.Unknown.{Unknown}
use Rattle.flow_term.specs.declared.term.Term.{Term}
use Rattle.flow_syntax.specs.declared.expr.Side.{Side}
use Rattle.flow_syntax.specs.declared.property.PropDecl.{PropDecl}
use Rattle.flow_syntax.specs.declared.spec.Spec.{Spec}
use Rattle.flow_syntax.proofs.Listed.{at_in, in_at}
use Rattle.flow_match.specs.declared.matched.RuleHit.{RuleHit}
use Rattle.expr_meaning.specs.Meaning.{property_number}
use Rattle.tree_constraints.specs.declared.constraint.Constraint.{Constraint}
use Rattle.tree_constraints.specs.Constraints.{IsConstraint, hit_of, node_at, unknown_at}
use Rattle.tree_constraints.specs.Orders.{by_parts}
use Rattle.tree_constraints.proofs.Applied.{IsFound, hit_found}
use Rattle.tree_constraints.proofs.Exact.{parts_tell}
use Rattle.tree_constraints.proofs.Facts.{listed_constraint, listed_unknown, property_used}
use Rattle.tree_constraints.proofs.Lists.{contains_from}
use Rattle.tree_constraints.proofs.Numbers.{number_is}
use Rattle.tree_solutions.specs.Analysis.{IsOfTree}
use Rattle.tree_solutions.specs.Laws.{PropertiesAreDeclared, RulesAreThere}
use Rattle.tree_solutions.proofs.Lawful.{told}

hit_there : (spec : Spec) (tree : Term) (u : Unknown) (o : Option RuleHit) (i : ℕ) → ((h : RuleHit) → o ≡ Some h → IsFound spec tree u h) → option_map (λ h. h.rule) o ≡ Some i → i < length spec.rules
hit_there spec tree u None i found e = cc
hit_there spec tree u (Some h) i found e =
    let f = found h refl in
    let same : h.rule ≡ i = same_Some h.rule i e in
    subst (λ (j : ℕ). j < length spec.rules) same (slice_get_within spec.rules h.rule f.rule f.stands)

rule_in : (spec : Spec) (tree : Term) (c : Constraint) → IsConstraint spec tree c → (i : ℕ) → c.rule ≡ Some i → i < length spec.rules
rule_in spec tree c is i e =
    hit_there spec tree c.key.target (hit_of spec tree c.key.target c.key.origin) i (hit_found spec tree c.key.target c.key.origin) (sym (ap (λ (d : Constraint). d.rule) is.whole) ∙ e)

pub rules_there : RulesAreThere
rules_there spec cs us some c known i e =
    ltb-true i (length spec.rules) (told (ltb i (length spec.rules)) some (λ is. lt-ltb i (length spec.rules) (rule_in spec is.tree c (listed_constraint spec is.tree cs us is.are_constraints is.are_unknowns c known) i e)))

pub properties_declared : PropertiesAreDeclared
properties_declared spec types analysed cs us some u used =
    ltb-true (property_number spec u.property) (length spec.properties) (told (ltb (property_number spec u.property) (length spec.properties)) some (λ is.
    let one = (is.are_unknowns.exactly u).0 (contains_from by_parts.unknown parts_tell.unknowns us u used) in
    let place = in_at spec.properties one.property one.declared in
    let number : property_number spec u.property ≡ place.0 = ap (property_number spec) one.named ∙ number_is spec analysed.typed.faultless place.0 one.property place.1 in
    lt-ltb (property_number spec u.property) (length spec.properties) (subst (λ (j : ℕ). j < length spec.properties) (sym number) (slice_get_within spec.properties place.0 one.property place.1))))

-- what a constraint can read at a side is in use
pub side_in_use : (spec : Spec) (cs : List Constraint) (us : List Unknown) → ∥ IsOfTree spec cs us ∥₁ → (c : Constraint) → has by_parts.key cs c ≡ true → (p : ℕ) (d : PropDecl) → slice_get spec.properties p ≡ Some d → (s : Side)
    → has by_parts.unknown us (unknown_at (node_at c.key s) d.name.text) ≡ true
side_in_use spec cs us some c known p d at s = told (has by_parts.unknown us (unknown_at (node_at c.key s) d.name.text)) some (λ is.
    let one = listed_constraint spec is.tree cs us is.are_constraints is.are_unknowns c known in
    listed_unknown spec is.tree cs us is.are_constraints is.are_unknowns (unknown_at (node_at c.key s) d.name.text) (property_used spec is.tree c.key one.key s d (at_in spec.properties p d at)))
