-- The system of a tree over all valid values is monotone.
use Rattle.std.proofs.Common.{◌≡◌, ◌⊎◌, ℕ, false, List, [], ◌∷◌, Option, Some, None, map, refl, sym, ap, subst, ◌∙◌, inl, inr}
use Rattle.std.specs.Prelude.{Contains, slice_get}
use Rattle.std.specs.List.{flat_map}
use Rattle.std.specs.Option.{option_map_or}
use Rattle.std.proofs.lemmas.List.Elements.{Contains-append_left}
use Rattle.flow_term.specs.declared.graph.Unknown.{Unknown}
use Rattle.flow_term.specs.declared.term.Term.{Term}
use Rattle.flow_term.specs.declared.value.Value.{Value}
use Rattle.flow_syntax.specs.declared.property.Mode.{Mode}
use Rattle.flow_syntax.specs.declared.property.Mode.TheVariants as mode
use Rattle.flow_syntax.specs.declared.property.PropDecl.{PropDecl}
use Rattle.flow_syntax.specs.declared.property.PropRule.{PropRule}
use Rattle.flow_syntax.specs.declared.spec.Spec.{Spec}
use Rattle.flow_syntax.specs.ExprFaults.{body_of}
use Rattle.flow_syntax.specs.Types.{Typing}
use Rattle.flow_syntax.proofs.Listed.{at_in}
use Rattle.constraint_theory.specs.Systems.{Fitting, AllBelow, IsLeast}
use Rattle.constraint_theory.proofs.LeastLemmas.{least_unique}
use Rattle.value_domains.specs.Domains.{Domain, IsValueOf, IsBelowIn}
use Rattle.value_domains.specs.Lawful.{IsLawful}
use Rattle.value_domains.specs.inner.DomainLaws.{domain_laws, domain_order}
use Rattle.value_heights.specs.Ranked.{IsLattice}
use Rattle.value_heights.specs.Tests.{is_valid, is_below}
use Rattle.value_heights.proofs.Fitting.{are_lattices}
use Rattle.value_heights.proofs.Told.{values_told, orders_told}
use Rattle.value_domains.specs.Domains.{least_of, joined_of}
use Rattle.expr_meaning.specs.Meaning.{Meaning, an_element, a_value, a_truth, value_in, property_number}
use Rattle.expr_meaning.specs.Modes.{mode_of}
use Rattle.expr_meaning.specs.Monotone.{Moves, IsBelowAs}
use Rattle.expr_meaning.specs.Ranges.{Range, values, elements, truths, domain_in}
use Rattle.expr_meaning.specs.SpecRanges.{domains_of, ranges_of}
use Rattle.expr_meaning.specs.Typing.{IsIn}
use Rattle.flow_modes.specs.Modes.{is_refused}
use Rattle.typed_bodies.specs.Accepted.{rule_domain, sense_of}
use Rattle.typed_bodies.specs.Anywhere.{whole}
use Rattle.typed_bodies.proofs.Anywhere.{expressions_good}
use Rattle.typed_bodies.proofs.Good.{bodies_good, tables}
use Rattle.tree_constraints.specs.declared.constraint.Constraint.{Constraint}
use Rattle.tree_constraints.specs.Constraints.{IsUnknownOf, IsConstraint, copied, rule_of, reads_from, reads_of, situation_of, value_of}
use Rattle.tree_constraints.specs.Laws.{IsAnalysed, SystemsAreMonotone, SolutionsAreOne}
use Rattle.tree_constraints.specs.Orders.{by_parts}
use Rattle.tree_constraints.specs.Solutions.{AreConstraints, AreUnknowns, domain_at, valid_system}
use Rattle.tree_constraints.proofs.Applied.{applied}
use Rattle.tree_constraints.proofs.Exact.{parts_tell}
use Rattle.tree_constraints.proofs.Facts.{constraints_one, unknowns_one, copied_used, once, target_listed, reads_listed, listed_constraint, listed_unknown}
use Rattle.tree_constraints.proofs.Lists.{at_head, has_from, map_has}
use Rattle.tree_constraints.proofs.Numbers.{number_is}
use Rattle.tree_constraints.proofs.Situations.{unknown_lawful, below_itself, can_apply, can_evaluate, is_lower, is_same}
use Rattle.typed_bodies.specs.Anywhere.{reads_at}

-- a mode that isn't refused says that two are the same, or that the first is below
rising : {X : Type 0} (R : X → X → Type 0) (x y : X) (m : Mode) → is_refused m ≡ false → Moves m R x y → (x ≡ y) ⊎ R x y
rising R x y mode.Fixed h moves = inl moves
rising R x y mode.Up h moves = inr moves
rising R x y mode.Down h moves = cc
rising R x y mode.Mixed h moves = cc

-- the value of a meaning in a range of values is one of the domain
value_valid : (d : Domain) (m : Meaning) → IsIn (values d) m → IsValueOf d (value_in m)
value_valid d (a_value v) h = h
value_valid d (an_element e) h = absurd h
value_valid d (a_truth b) h = absurd h

-- two meanings of which each is below the other have one value
antisymmetric : (d : Domain) → IsLawful d → (v w : Value) → IsValueOf d v → IsValueOf d w → IsBelowIn d v w → IsBelowIn d w v → v ≡ w
antisymmetric d lawful v w hv hw vw wv = sym ((domain_order d lawful w v hw hv).0 wv) ∙ (domain_laws d lawful).commutative w v hw hv ∙ (domain_order d lawful v w hv hw).0 vw

one_value : (r : Range) → IsLawful (domain_in r) → (m n : Meaning) → IsIn r m → IsIn r n → IsBelowAs r m n → IsBelowAs r n m → value_in m ≡ value_in n
one_value (values d) lawful m n hm hn mn nm = antisymmetric d lawful (value_in m) (value_in n) (value_valid d m hm) (value_valid d n hn) mn nm
one_value (elements s) lawful m n hm hn mn nm = ap value_in mn
one_value truths lawful (a_truth b) (a_truth c) hm hn mn nm = refl
one_value truths lawful (a_truth b) (a_value v) hm hn mn nm = absurd hn
one_value truths lawful (a_truth b) (an_element e) hm hn mn nm = absurd hn
one_value truths lawful (a_value v) n hm hn mn nm = absurd hm
one_value truths lawful (an_element e) n hm hn mn nm = absurd hm

module _ (spec : Spec) (types : List Typing) (analysed : IsAnalysed spec types) (tree : Term) (cs : List Constraint) (us : List Unknown) (hc : AreConstraints spec tree cs) (hu : AreUnknowns spec tree us) where
  number : (n : ℕ) (p : PropDecl) → slice_get spec.properties n ≡ Some p → property_number spec p.name.text ≡ n
  number n p at = number_is spec analysed.typed.faultless n p at

  lawful : (u : Unknown) → IsLawful (domain_at spec u)
  lawful = unknown_lawful spec analysed.lawful

  abbrev Valid : (Unknown → Value) → Type 0
  Valid a = Fitting by_parts (valid_system spec types cs us) a

  abbrev Below : (Unknown → Value) → (Unknown → Value) → Type 0
  Below a b = AllBelow by_parts (valid_system spec types cs us) a b

  valid_at : (a : Unknown → Value) → Valid a → (u : Unknown) → IsUnknownOf spec tree u → IsValueOf (domain_at spec u) (a u)
  valid_at a fits u is = (values_told (domain_at spec u) (lawful u) (a u)).0 (fits u (listed_unknown spec tree cs us hc hu u is))

  below_at : (a b : Unknown → Value) → Valid a → Valid b → Below a b → (u : Unknown) → IsUnknownOf spec tree u → IsBelowIn (domain_at spec u) (a u) (b u)
  below_at a b fa fb below u is = (orders_told (domain_at spec u) (lawful u) (a u) (b u) (valid_at a fa u is) (valid_at b fb u is)).0 (below u (listed_unknown spec tree cs us hc hu u is))

  module _ (c : Constraint) (is : IsConstraint spec tree c) where
    abbrev pub gives : Option PropRule → (Unknown → Value) → Value
    gives o a = option_map_or (λ rule. value_in (sense_of spec types rule.body (situation_of spec c a))) o (a (copied c.key))

    module _ (rule : PropRule) (e : rule_of spec c ≡ Some rule) where
      of_spec : Contains spec.rules rule
      of_spec = let k = (applied spec tree c is rule e).stands in at_in spec.rules k.0 rule k.1

      own_domain : rule_domain spec rule ≡ domain_at spec c.key.target
      own_domain = ap (λ x. domains_of spec (property_number spec x)) (sym (applied spec tree c is rule e).of_property)

      rule_valid : (a : Unknown → Value) → Valid a → IsValueOf (domain_at spec c.key.target) (gives (Some rule) a)
      rule_valid a fits =
          subst (λ (d : Domain). IsValueOf d (gives (Some rule) a)) own_domain
          (value_valid (rule_domain spec rule) (sense_of spec types rule.body (situation_of spec c a))
          ((bodies_good spec types analysed.typed analysed.lawful rule of_spec).value (situation_of spec c a)
          (can_apply spec tree number analysed.lawful c is rule (applied spec tree c is rule e) a (valid_at a fits))))

      rule_below : (a b : Unknown → Value) → Valid a → Valid b → Below a b → IsBelowIn (domain_at spec c.key.target) (gives (Some rule) a) (gives (Some rule) b)
      rule_below a b fa fb below =
          let applies = applied spec tree c is rule e in
          let low = situation_of spec c a in
          let high = situation_of spec c b in
          let moves = (bodies_good spec types analysed.typed analysed.lawful rule of_spec).follows low high
          (can_apply spec tree number analysed.lawful c is rule applies a (valid_at a fa)) (can_apply spec tree number analysed.lawful c is rule applies b (valid_at b fb))
          (is_lower spec tree number analysed.lawful c is rule applies a b (below_at a b fa fb below)) in
          elim (rising (IsBelowAs (values (rule_domain spec rule))) (sense_of spec types rule.body low) (sense_of spec types rule.body high) (mode_of (ranges_of spec types) rule.body) (analysed.rise rule of_spec) moves) [
            | inl same ↦ subst (λ (v : Value). IsBelowIn (domain_at spec c.key.target) (gives (Some rule) a) v) (ap value_in same) (below_itself (domain_at spec c.key.target) (lawful c.key.target) (gives (Some rule) a) (rule_valid a fa))
            | inr lower ↦ subst (λ (d : Domain). IsBelowIn d (gives (Some rule) a) (gives (Some rule) b)) own_domain lower
          ]

      rule_reads : (a b : Unknown → Value) → Valid a → Valid b → ((u : Unknown) → Contains (reads_from c.key (reads_at spec rule.body) 0 spec.properties) u → a u ≡ b u) → gives (Some rule) a ≡ gives (Some rule) b
      rule_reads a b fa fb agree =
          let applies = applied spec tree c is rule e in
          let low = situation_of spec c a in
          let high = situation_of spec c b in
          let place = whole (body_of spec rule) (Contains-append_left (map (body_of spec) spec.rules) (flat_map _ spec.messages) (body_of spec rule) (map_has (body_of spec) spec.rules rule of_spec)) in
          let good = expressions_good spec types analysed.typed analysed.lawful (body_of spec rule) place in
          let can_low = can_evaluate spec tree number analysed.lawful c is rule applies a (valid_at a fa) in
          let can_high = can_evaluate spec tree number analysed.lawful c is rule applies b (valid_at b fb) in
          let up = good.follows low high can_low can_high (is_same spec tree number analysed.lawful c is rule applies a b (valid_at a fa) agree) in
          let down = good.follows high low can_high can_low (is_same spec tree number analysed.lawful c is rule applies b a (valid_at b fb) (λ u h. sym (agree u h))) in
          let range = ranges_of spec types rule.body in
          let m = mode_of (ranges_of spec types) rule.body in
          elim (rising (IsBelowAs range) (sense_of spec types rule.body low) (sense_of spec types rule.body high) m (analysed.rise rule of_spec) up) [
            | inl same ↦ ap value_in same
            | inr lower ↦ elim (rising (IsBelowAs range) (sense_of spec types rule.body high) (sense_of spec types rule.body low) m (analysed.rise rule of_spec) down) [
              | inl same ↦ sym (ap value_in same)
              | inr higher ↦ one_value range ((tables spec types analysed.typed analysed.lawful).lawful rule.body) (sense_of spec types rule.body low) (sense_of spec types rule.body high) (good.value low can_low) (good.value high can_high) lower higher
            ]
          ]

    -- by whether there is a rule
    pub gives_valid : (o : Option PropRule) → rule_of spec c ≡ o → (a : Unknown → Value) → Valid a → IsValueOf (domain_at spec c.key.target) (gives o a)
    gives_valid None e a fits = valid_at a fits (copied c.key) (copied_used spec tree c.key is.key)
    gives_valid (Some rule) e a fits = rule_valid rule e a fits

    gives_below : (o : Option PropRule) → rule_of spec c ≡ o → (a b : Unknown → Value) → Valid a → Valid b → Below a b → IsBelowIn (domain_at spec c.key.target) (gives o a) (gives o b)
    gives_below None e a b fa fb below = below_at a b fa fb below (copied c.key) (copied_used spec tree c.key is.key)
    gives_below (Some rule) e a b fa fb below = rule_below rule e a b fa fb below

    gives_reads : (o : Option PropRule) → rule_of spec c ≡ o → (a b : Unknown → Value) → Valid a → Valid b
        → ((u : Unknown) → Contains (option_map_or (λ rule. reads_from c.key (reads_at spec rule.body) 0 spec.properties) o (copied c.key ∷ [])) u → a u ≡ b u) → gives o a ≡ gives o b
    gives_reads None e a b fa fb agree = agree (copied c.key) (at_head (copied c.key) [])
    gives_reads (Some rule) e a b fa fb agree = rule_reads rule e a b fa fb agree

    pub value_valid_at : (a : Unknown → Value) → Valid a → IsValueOf (domain_at spec c.key.target) (value_of spec types c a)
    value_valid_at a fits = gives_valid (rule_of spec c) refl a fits

    pub value_below_at : (a b : Unknown → Value) → Valid a → Valid b → Below a b → IsBelowIn (domain_at spec c.key.target) (value_of spec types c a) (value_of spec types c b)
    value_below_at a b fa fb below = gives_below (rule_of spec c) refl a b fa fb below

    pub value_reads_at : (a b : Unknown → Value) → Valid a → Valid b → ((u : Unknown) → Contains (reads_of spec c) u → a u ≡ b u) → value_of spec types c a ≡ value_of spec types c b
    value_reads_at a b fa fb agree = gives_reads (rule_of spec c) refl a b fa fb agree

  lattice_at : (u : Unknown) → IsLattice (is_valid (domain_at spec u)) (least_of (domain_at spec u)) (joined_of (domain_at spec u)) (is_below (domain_at spec u))
  lattice_at u = are_lattices (domain_at spec u) (lawful u)

pub systems_monotone : SystemsAreMonotone
systems_monotone spec types analysed tree cs us hc hu =
    let laws = lattice_at spec types analysed tree cs us hc hu in
    let told = λ (u : Unknown) (v : Value). values_told (domain_at spec u) (unknown_lawful spec analysed.lawful u) v in
    record {
      keys_once = once spec tree cs us hc hu;
      target_used = λ c h. target_listed spec tree cs us hc hu c h;
      reads_used = λ c u h r. reads_listed spec tree cs us hc hu c u h r;
      bottom_fits = λ u used. (laws u).joins.least_valid;
      join_fits = λ u a b used fa fb. (laws u).joins.joined_valid a b fa fb;
      eval_fits = λ c a h fits. (told c.key.target (value_of spec types c a)).1 (value_valid_at spec types analysed tree cs us hc hu c (listed_constraint spec tree cs us hc hu c h) a fits);
      leq_join = λ u a b used fa fb h. ((laws u).order a b fa fb).0 h;
      join_leq = λ u a b used fa fb e. ((laws u).order a b fa fb).1 e;
      idempotent = λ u a used fa. (laws u).joins.idempotent a fa;
      commutative = λ u a b used fa fb. (laws u).joins.commutative a b fa fb;
      associative = λ u a b c used fa fb fc. (laws u).joins.associative a b c fa fb fc;
      neutral = λ u a used fa. (laws u).joins.neutral a fa;
      eval_monotone = λ c a b h fa fb below.
          let is = listed_constraint spec tree cs us hc hu c h in
          (orders_told (domain_at spec c.key.target) (unknown_lawful spec analysed.lawful c.key.target) (value_of spec types c a) (value_of spec types c b)
          (value_valid_at spec types analysed tree cs us hc hu c is a fa) (value_valid_at spec types analysed tree cs us hc hu c is b fb)).1
          (value_below_at spec types analysed tree cs us hc hu c is a b fa fb below);
      eval_reads = λ c a b h fa fb agree. value_reads_at spec types analysed tree cs us hc hu c (listed_constraint spec tree cs us hc hu c h) a b fa fb (λ u read. agree u (has_from by_parts.unknown parts_tell.unknowns (reads_of spec c) u read));
    }

pub solutions_one : SolutionsAreOne
solutions_one spec types analysed tree a b sa sb u is =
    let cs = sa.constraints in
    let us = sa.unknowns in
    let same_cs : sb.constraints ≡ cs = constraints_one spec tree sb.constraints cs sb.are_constraints sa.are_constraints in
    let same_us : sb.unknowns ≡ us = unknowns_one spec tree sb.unknowns us sb.are_unknowns sa.are_unknowns in
    let other = subst (λ (ds : List Constraint). IsLeast by_parts (valid_system spec types ds us) b) same_cs (subst (λ (vs : List Unknown). IsLeast by_parts (valid_system spec types sb.constraints vs) b) same_us sb.least) in
    least_unique by_parts parts_tell (valid_system spec types cs us) (systems_monotone spec types analysed tree cs us sa.are_constraints sa.are_unknowns) a b sa.least other u (listed_unknown spec tree cs us sa.are_constraints sa.are_unknowns u is)
