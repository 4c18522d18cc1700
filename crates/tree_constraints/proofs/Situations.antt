-- Where the rule of a constraint is evaluated: its variables are bound, its reads are valid, and greater values are greater reads.
use Rattle.std.proofs.Common.{◌≡◌, ℕ, List, [], ◌∷◌, Option, Some, None, map, refl, sym, ap, subst, ◌∙◌, arith}
use Rattle.std.specs.Prelude.{Contains, slice_get, IsTrue}
use Rattle.std.specs.Option.{option_map_or}
use Rattle.flow_term.specs.declared.graph.Unknown.{Unknown}
use Rattle.flow_term.specs.declared.term.Term.{Term}
use Rattle.flow_term.specs.declared.value.Value.{Value}
use Rattle.flow_term.specs.declared.value.Value.TheVariants as value
use Rattle.flow_syntax.specs.declared.expr.Side.{Side}
use Rattle.flow_syntax.specs.declared.property.PropDecl.{PropDecl}
use Rattle.flow_syntax.specs.declared.property.PropRule.{PropRule}
use Rattle.flow_syntax.specs.declared.property.Trigger.{Trigger}
use Rattle.flow_syntax.specs.declared.property.Trigger.TheVariants as trigger
use Rattle.flow_syntax.specs.declared.spec.Spec.{Spec}
use Rattle.flow_syntax.specs.Binders as binders
use Rattle.flow_syntax.specs.ExprFaults.{trigger_pattern, trigger_scope}
use Rattle.flow_syntax.specs.Scopes.{Variable as Scoped}
use Rattle.flow_syntax.specs.Types.{name_sort, lattice, lattice_of}
use Rattle.flow_syntax.proofs.Listed.{at_in}
use Rattle.value_domains.specs.Domains.{Domain, flat, IsValueOf, IsBelowIn}
use Rattle.value_domains.specs.Lawful.{IsLawful}
use Rattle.value_domains.specs.Values.{IsFlat, IsBelowFlat}
use Rattle.value_domains.specs.inner.DomainLaws.{domain_laws, domain_order}
use Rattle.expr_meaning.specs.Meaning.{property_number}
use Rattle.expr_meaning.specs.Monotone.{IsLower}
use Rattle.expr_meaning.specs.SpecRanges.{domains_of, property_domain, variables_of, usable_in}
use Rattle.expr_meaning.specs.Typing.{Suits, Variable}
use Rattle.typed_bodies.specs.Accepted.{HasLawfulTables, CanApply}
use Rattle.typed_bodies.specs.Anywhere.{reads_at, sort_or_int, used_by, variables_at}
use Rattle.typed_bodies.proofs.Good.{matches_bind}
use Rattle.typed_bodies.proofs.Tables.{range_lawful}
use Rattle.tree_constraints.specs.declared.constraint.Constraint.{Constraint}
use Rattle.tree_constraints.specs.declared.constraint.Key.{Key}
use Rattle.tree_constraints.specs.Constraints.{unknown_at, IsUnknownOf, IsKeyOf, IsConstraint, node_at, reads_from, value_at_side, situation_of}
use Rattle.tree_constraints.specs.Solutions.{domain_at}
use Rattle.tree_constraints.proofs.Applied.{IsApplied}
use Rattle.tree_constraints.proofs.Facts.{property_used, reads_have}

-- the domains of properties are lawful
property_lawful : (spec : Spec) → HasLawfulTables spec → (o : Option PropDecl) → IsLawful (property_domain spec.lattices o)
property_lawful spec tables (Some p) = range_lawful spec tables.lattices (lattice (lattice_of p.lattice))
property_lawful spec tables None = tt

pub number_lawful : (spec : Spec) → HasLawfulTables spec → (n : ℕ) → IsLawful (domains_of spec n)
number_lawful spec tables n = property_lawful spec tables (slice_get spec.properties n)

pub unknown_lawful : (spec : Spec) → HasLawfulTables spec → (u : Unknown) → IsLawful (domain_at spec u)
unknown_lawful spec tables u = number_lawful spec tables (property_number spec u.property)

-- each value is below itself
pub below_itself : (d : Domain) → IsLawful d → (v : Value) → IsValueOf d v → IsBelowIn d v v
below_itself d lawful v h = (domain_order d lawful v v h h).1 ((domain_laws d lawful).idempotent v h)

-- the variables of a rule, as its pattern has them and as its scope does
abbrev of_scope : Scoped → Variable
of_scope v = record { name = v.name; sort = sort_or_int v.sort }

abbrev pub of_pattern : binders.Bound → Variable
of_pattern b = record { name = b.name; sort = b.sort }

same_variables : (bs : List binders.Bound) → map (λ (v : Scoped). of_scope v) (map binders.variable_of bs) ≡ map (λ (b : binders.Bound). of_pattern b) bs
same_variables [] = refl
same_variables (b ∷ bs) = ap (λ (vs : List Variable). of_pattern b ∷ vs) (same_variables bs)

pub scope_variables : (t : Trigger) → variables_at (trigger_scope t) ≡ variables_of (trigger_pattern t)
scope_variables (trigger.Forward p) = same_variables (binders.bound_in p)
scope_variables (trigger.Backward p) = same_variables (binders.bound_in p)
scope_variables (trigger.AtStart p) = same_variables (binders.bound_in p)
scope_variables (trigger.AtEnd p) = same_variables (binders.bound_in p)

module _ (spec : Spec) (tree : Term) (faultless_number : (n : ℕ) (p : PropDecl) → slice_get spec.properties n ≡ Some p → property_number spec p.name.text ≡ n) (tables : HasLawfulTables spec) where
  -- each unknown of the tree has a value of its domain
  abbrev pub AllValid : (Unknown → Value) → Type 0
  AllValid a = (u : Unknown) → IsUnknownOf spec tree u → IsValueOf (domain_at spec u) (a u)

  module _ (k : Key) (is : IsKeyOf spec tree k) where
    -- of what holds at the unknowns that can be read, and of bottom
    pub at_side : (P : Domain → Value → Value → Type 0) (a b : Unknown → Value) → P (flat name_sort) value.Bottom value.Bottom → ((n : ℕ) (p : PropDecl) (s : Side) → slice_get spec.properties n ≡ Some p
        → P (domain_at spec (unknown_at (node_at k s) p.name.text)) (a (unknown_at (node_at k s) p.name.text)) (b (unknown_at (node_at k s) p.name.text)))
        → (n : ℕ) (s : Side) → P (domains_of spec n) (value_at_side spec k a n s) (value_at_side spec k b n s)
    at_side P a b none each n s = by (slice_get spec.properties n) refl
      where
        by : (o : Option PropDecl) → slice_get spec.properties n ≡ o
            → P (property_domain spec.lattices o) (option_map_or (λ p. a (unknown_at (node_at k s) p.name.text)) o value.Bottom) (option_map_or (λ p. b (unknown_at (node_at k s) p.name.text)) o value.Bottom)
        by None e = none
        by (Some p) e =
            let u = unknown_at (node_at k s) p.name.text in
            subst (λ (d : Domain). P d (a u) (b u)) (ap (domains_of spec) (faultless_number n p e) ∙ ap (property_domain spec.lattices) e) (each n p s e)

    read_unknown : (n : ℕ) (p : PropDecl) (s : Side) → slice_get spec.properties n ≡ Some p → IsUnknownOf spec tree (unknown_at (node_at k s) p.name.text)
    read_unknown n p s e = property_used spec tree k is s p (at_in spec.properties n p e)

    pub reads_valid : (a : Unknown → Value) → AllValid a → (n : ℕ) (s : Side) → IsValueOf (domains_of spec n) (value_at_side spec k a n s)
    reads_valid a valid =
        at_side (λ d v w. IsValueOf d v) a a (subst (IsFlat name_sort) (sym value.outs-Bottom) tt) (λ n p s e. valid (unknown_at (node_at k s) p.name.text) (read_unknown n p s e))

    pub reads_below : (a b : Unknown → Value) → ((u : Unknown) → IsUnknownOf spec tree u → IsBelowIn (domain_at spec u) (a u) (b u)) → (n : ℕ) (s : Side) → IsBelowIn (domains_of spec n) (value_at_side spec k a n s) (value_at_side spec k b n s)
    reads_below a b below =
        at_side IsBelowIn a b (subst (λ l. IsBelowFlat l l) (sym value.outs-Bottom) tt) (λ n p s e. below (unknown_at (node_at k s) p.name.text) (read_unknown n p s e))

    -- values that agree at what is read are the same reads
    pub reads_same : (rule : PropRule) (a b : Unknown → Value) → ((u : Unknown) → Contains (reads_from k (reads_at spec rule.body) 0 spec.properties) u → a u ≡ b u)
        → (n : ℕ) (s : Side) → IsTrue (reads_at spec rule.body n s) → value_at_side spec k a n s ≡ value_at_side spec k b n s
    reads_same rule a b agree n s reads = by (slice_get spec.properties n) refl
      where
        by : (o : Option PropDecl) → slice_get spec.properties n ≡ o → option_map_or (λ p. a (unknown_at (node_at k s) p.name.text)) o value.Bottom ≡ option_map_or (λ p. b (unknown_at (node_at k s) p.name.text)) o value.Bottom
        by None e = refl
        by (Some p) e = agree (unknown_at (node_at k s) p.name.text) (reads_have k (reads_at spec rule.body) 0 spec.properties n p s e (ap (λ m. reads_at spec rule.body m s) (omega arith) ∙ reads))

  module _ (c : Constraint) (is : IsConstraint spec tree c) (rule : PropRule) (applied : IsApplied spec tree c rule) where
    pub can_apply : (a : Unknown → Value) → AllValid a → CanApply spec rule (situation_of spec c a)
    can_apply a valid = record {
      bound = λ x h. matches_bind (trigger_pattern rule.trigger) c.bindings applied.binds x;
      reads = λ n s h. reads_valid c.key is.key a valid n s;
    }

    pub can_evaluate : (a : Unknown → Value) → AllValid a → Suits (used_by spec rule.body) (variables_at (trigger_scope rule.trigger)) (situation_of spec c a)
    can_evaluate a valid = subst (λ (vs : List Variable). Suits (used_by spec rule.body) vs (situation_of spec c a)) (sym (scope_variables rule.trigger)) (record {
      bound = λ x h. matches_bind (trigger_pattern rule.trigger) c.bindings applied.binds x;
      reads = λ n s h. reads_valid c.key is.key a valid n s;
    })

    pub is_lower : (a b : Unknown → Value) → ((u : Unknown) → IsUnknownOf spec tree u → IsBelowIn (domain_at spec u) (a u) (b u)) → IsLower (usable_in spec (trigger_scope rule.trigger)) (situation_of spec c a) (situation_of spec c b)
    is_lower a b below = record { bindings = refl; reads = λ n s h. reads_below c.key is.key a b below n s }

    pub is_same : (a b : Unknown → Value) → AllValid a → ((u : Unknown) → Contains (reads_from c.key (reads_at spec rule.body) 0 spec.properties) u → a u ≡ b u) → IsLower (used_by spec rule.body) (situation_of spec c a) (situation_of spec c b)
    is_same a b valid agree = record {
      bindings = refl;
      reads = λ n s h. subst (λ (v : Value). IsBelowIn (domains_of spec n) (value_at_side spec c.key a n s) v) (reads_same c.key is.key rule a b agree n s h)
          (below_itself (domains_of spec n) (number_lawful spec tables n) (value_at_side spec c.key a n s) (reads_valid c.key is.key a valid n s));
    }
