-- The system of some tree's constraints over what they bring is lawful, whichever tree it is.
use Rattle.std.proofs.Common.{◌≡◌, Bool, true, false, List, Option, Some, None, refl, sym, ap, ◌∙◌, true≢false}
use Rattle.std.proofs.lemmas.Grind.{not_there}
use Rattle.flow_term.specs.declared.graph.Unknown.{Unknown}
use Rattle.flow_term.specs.declared.value.Bound.{Bound}
use Rattle.flow_term.specs.declared.value.Value.{Value}
use Rattle.flow_syntax.specs.declared.property.PropRule.{PropRule}
use Rattle.flow_syntax.specs.declared.spec.Spec.{Spec}
use Rattle.flow_syntax.specs.ExprFaults.{trigger_scope}
use Rattle.flow_syntax.specs.Types.{Typing}
use Rattle.constraint_theory.specs.Systems.{ConstraintSystem, Fits, Fitting, IsKey, IsLawful}
use Rattle.value_domains.specs.Values.{is_of_sort}
use Rattle.value_heights.specs.Ranked.{IsRanked, ranked_of}
use Rattle.value_heights.proofs.Fitting.{are_ranked}
use Rattle.value_heights.proofs.Told.{values_told}
use Rattle.expr_meaning.specs.SpecRanges.{domains_of}
use Rattle.expr_meaning.specs.Typing.{IsBoundAs, Suits, Variable}
use Rattle.typed_bodies.specs.Anywhere.{used_by, variables_at}
use Rattle.tree_constraints.specs.declared.constraint.Constraint.{Constraint}
use Rattle.tree_constraints.specs.Constraints.{rule_of, situation_of, value_of}
use Rattle.tree_constraints.specs.Laws.{IsAnalysed}
use Rattle.tree_constraints.specs.Orders.{by_parts}
use Rattle.tree_constraints.specs.Solutions.{domain_at}
use Rattle.tree_constraints.proofs.Applied.{applied}
use Rattle.tree_constraints.proofs.Facts.{listed_constraint, listed_unknown}
use Rattle.tree_constraints.proofs.Numbers.{number_is}
use Rattle.tree_constraints.proofs.Situations.{can_evaluate, number_lawful, unknown_lawful}
use Rattle.tree_constraints.proofs.Solved.{fits_valid, systems_lawful}
use Rattle.tree_solutions.specs.Analysis.{IsOfTree}
use Rattle.tree_solutions.specs.Brought.{brought, brought_system}
use Rattle.tree_solutions.specs.Laws.{BroughtSystemsAreLawful, RulesCanBeEvaluated}
use Rattle.tree_solutions.proofs.Made.{keep_to_brought}

-- a test that holds whatever is there holds where something is
pub told : {P : Type 0} (b : Bool) → ∥ P ∥₁ → (P → b ≡ true) → b ≡ true
told true some f = refl
told false some f = absurd (not_there some (λ p. true≢false (sym (f p))))

bound_told : {P : Type 0} (v : Option Variable) (b : Option Bound) → ∥ P ∥₁ → (P → IsBoundAs v b) → IsBoundAs v b
bound_told (Some v) (Some b) some f = told (is_of_sort v.sort b.value) some f
bound_told None None some f = tt
bound_told (Some v) None some f = absurd (not_there some f)
bound_told None (Some b) some f = absurd (not_there some f)

module _ (spec : Spec) (types : List Typing) (analysed : IsAnalysed spec types) (cs : List Constraint) (us : List Unknown) (some : ∥ IsOfTree spec cs us ∥₁) where
  abbrev t : ConstraintSystem Constraint Unknown Value
  t = brought_system spec types cs us

  law : IsOfTree spec cs us → IsLawful by_parts t
  law is = systems_lawful spec types analysed (brought spec cs) is.tree cs us is.are_constraints is.are_unknowns (keep_to_brought spec types analysed is.tree cs us is.are_constraints is.are_unknowns)

  ranked : (u : Unknown) → IsRanked (ranked_of (brought spec cs) (domain_at spec u))
  ranked u = are_ranked (brought spec cs) (domain_at spec u) (unknown_lawful spec analysed.lawful u)

  fits_told : (c : Constraint) (a : Unknown → Value) → IsKey by_parts t c → Fitting by_parts t a → Fits t c.key.target (value_of spec types c a)
  fits_told c a known fa = told (t.fits c.key.target (value_of spec types c a)) some (λ is. (law is).monotone.eval_fits c a known fa)

  below_itself : (u : Unknown) (x y : Value) → Fits t u y → x ≡ y → t.leq u x y ≡ true
  below_itself u x y fy e = ap (λ (z : Value). t.leq u z y) e ∙ ((ranked u).lattice.order y y fy fy).1 ((ranked u).lattice.joins.idempotent y fy)

  -- values that are below each other are one
  both_below : (u : Unknown) (x y : Value) → Fits t u x → Fits t u y → t.leq u x y ≡ true → t.leq u y x ≡ true → x ≡ y
  both_below u x y fx fy one other =
      sym (((ranked u).lattice.order y x fy fx).0 other) ∙ (ranked u).lattice.joins.commutative y x fy fx ∙ ((ranked u).lattice.order x y fx fy).0 one

  pub lawful : IsLawful by_parts t
  lawful = record {
    monotone = record {
      keys_once = told _ some (λ is. (law is).monotone.keys_once);
      target_used = λ c h. told _ some (λ is. (law is).monotone.target_used c h);
      reads_used = λ c u h r. told _ some (λ is. (law is).monotone.reads_used c u h r);
      bottom_fits = λ u used. (ranked u).lattice.joins.least_valid;
      join_fits = λ u a b used fa fb. (ranked u).lattice.joins.joined_valid a b fa fb;
      eval_fits = λ c a h fa. fits_told c a h fa;
      leq_join = λ u a b used fa fb h. ((ranked u).lattice.order a b fa fb).0 h;
      join_leq = λ u a b used fa fb e. ((ranked u).lattice.order a b fa fb).1 e;
      idempotent = λ u a used fa. (ranked u).lattice.joins.idempotent a fa;
      commutative = λ u a b used fa fb. (ranked u).lattice.joins.commutative a b fa fb;
      associative = λ u a b c used fa fb fc. (ranked u).lattice.joins.associative a b c fa fb fc;
      neutral = λ u a used fa. (ranked u).lattice.joins.neutral a fa;
      eval_monotone = λ c a b h fa fb below. told _ some (λ is. (law is).monotone.eval_monotone c a b h fa fb below);
      eval_reads = λ c a b h fa fb agree.
          let x = value_of spec types c a in
          let y = value_of spec types c b in
          let u = c.key.target in
          both_below u x y (fits_told c a h fa) (fits_told c b h fb) (told (t.leq u x y) some (λ is. below_itself u x y (fits_told c b h fb) ((law is).monotone.eval_reads c a b h fa fb agree)))
          (told (t.leq u y x) some (λ is. below_itself u y x (fits_told c a h fa) (sym ((law is).monotone.eval_reads c a b h fa fb agree))));
    };
    ranks = record {
      rank_within = λ u a used fa. (ranked u).rank_within a fa;
      rank_rises = λ u a b used fa fb h above. (ranked u).rank_rises a b fa fb h above;
    };
  }

  module _ (c : Constraint) (known : IsKey by_parts t c) (rule : PropRule) (e : rule_of spec c ≡ Some rule) (a : Unknown → Value) (fits : Fitting by_parts t a) where
    can : IsOfTree spec cs us → Suits (used_by spec rule.body) (variables_at (trigger_scope rule.trigger)) (situation_of spec c a)
    can is =
        let one = listed_constraint spec is.tree cs us is.are_constraints is.are_unknowns c known in
        can_evaluate spec is.tree (λ n p at. number_is spec analysed.typed.faultless n p at) analysed.lawful c one rule (applied spec is.tree c one rule e) a
        (λ u of_tree. (values_told (domain_at spec u) (unknown_lawful spec analysed.lawful u) (a u)).0 (fits_valid (brought spec cs) spec types cs us a fits u (listed_unknown spec is.tree cs us is.are_constraints is.are_unknowns u of_tree)))

    pub evaluated : Suits (used_by spec rule.body) (variables_at (trigger_scope rule.trigger)) (situation_of spec c a)
    evaluated = record {
      bound = λ x h. bound_told _ _ some (λ is. (can is).bound x h);
      reads = λ p side h.
          let domain = domains_of spec p in
          let value = (situation_of spec c a).reads p side in
          let decided = values_told domain (number_lawful spec analysed.lawful p) value in
          decided.0 (told _ some (λ is. decided.1 ((can is).reads p side h)));
    }

pub systems_are_lawful : BroughtSystemsAreLawful
systems_are_lawful = lawful

pub rules_evaluated : RulesCanBeEvaluated
rules_evaluated = evaluated
