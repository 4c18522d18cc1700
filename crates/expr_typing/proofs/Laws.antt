-- The expressions of a specification without faults have the types with which they are listed.
use Rattle.std.proofs.Common.{◌≡◌, List, [], ◌∷◌, map, Option, Some, None, refl, sym, ap, subst, ◌∙◌}
use Rattle.std.specs.Prelude.{Contains}
use Rattle.std.specs.List.{AllByRecursion, flat_map}
use Rattle.flow_syntax.specs.declared.expr.Expr.{Expr}
use Rattle.flow_syntax.specs.declared.message.Message.{Message}
use Rattle.flow_syntax.specs.declared.property.PropDecl.{PropDecl}
use Rattle.flow_syntax.specs.declared.property.PropRule.{PropRule}
use Rattle.flow_syntax.specs.declared.property.Trigger.{Trigger}
use Rattle.flow_syntax.specs.declared.property.Trigger.TheVariants as trigger
use Rattle.flow_syntax.specs.declared.spec.Spec.{Spec}
use Rattle.flow_syntax.specs.Binders.{Bound, bound_in, variable_of}
use Rattle.flow_syntax.specs.DeclFaults.{unknown, property}
use Rattle.flow_syntax.specs.Expressions.{expr_layer}
use Rattle.flow_syntax.specs.ExprFaults.{body, condition, body_of, expected_body, message_scope, trigger_scope}
use Rattle.flow_syntax.specs.Occurrences.{Occurrence, parts_of, optional, expected_truth}
use Rattle.flow_syntax.specs.ExprTypes.{HasType, expected_type, infers, HaveTypes, none as have_none, next as have_next, wholes_of}
use Rattle.flow_syntax.specs.Faults.{HasNoFault, declaration, expression}
use Rattle.flow_syntax.specs.Inferred.{Inferred, inferred, is, property_named}
use Rattle.flow_syntax.specs.Types.{Typing, lattice, lattice_of, truth}
use Rattle.flow_syntax.specs.Expected.{Expected, known, inferred_in, own_choice, if_inferred_in}
use Rattle.flow_syntax.proofs.Listed.{Contains_here, Contains_behind}
use Rattle.expr_typing.specs.Listing.{AreListed, none, next, listed_type, FaultlessExpressionsHaveTypes}
use Rattle.expr_typing.proofs.Clean.{all_append, IsClean, inferred_own, fits, names_right, part_clean}
use Rattle.expr_typing.proofs.Shown.{HasSort, IsSorted, parts_sound}
use Rattle.expr_typing.proofs.Typed.{IsTyped, by_expected, by_inferred, IsTypedPart, typed_parts}

-- the listed type is one that is expected or inferred
listed_right : (spec : Spec) (p : Occurrence) → IsTyped p.expected (inferred spec p.scope p.expr) → HasType spec p (listed_type p.expected (inferred spec p.scope p.expr))
listed_right spec p typed = by p.expected refl typed
  where
    by : (w : Expected) → p.expected ≡ w → IsTyped w (inferred spec p.scope p.expr) → HasType spec p (listed_type w (inferred spec p.scope p.expr))
    by (known t) e h = expected_type e
    by w e (by_expected t k) = subst (λ (v : Expected). HasType spec p (listed_type v (inferred spec p.scope p.expr))) (sym k) (expected_type (e ∙ k))
    by (inferred_in shape) e (by_inferred t k) = infers (k ∙ ap (λ u. is (listed_type (inferred_in shape) u)) (sym k))
    by (own_choice shape) e (by_inferred t k) = infers (k ∙ ap (λ u. is (listed_type (own_choice shape) u)) (sym k))
    by (if_inferred_in shape) e (by_inferred t k) = infers (k ∙ ap (λ u. is (listed_type (if_inferred_in shape) u)) (sym k))

module _ (spec : Spec) where
  -- An expression has no faults, and has a type.
  abbrev pub IsGood : Occurrence → Type 0
  IsGood p = IsClean spec p × IsTypedPart spec p

  pub good_parts : (ps : List Occurrence) → ((q : Occurrence) → Contains ps q → IsClean spec q) → AllByRecursion (IsTypedPart spec) ps → AllByRecursion IsGood ps
  good_parts [] clean h = tt
  good_parts (p ∷ ps) clean h = ((clean p (Contains_here p ps), h.0), good_parts ps (λ q among. clean q (Contains_behind p ps q among)) h.1)

  pub typed_inside : (p : Occurrence) (ts : List Typing) → IsGood p → AreListed spec (parts_of spec p) ts → AllByRecursion IsGood (parts_of spec p)
  typed_inside p ts good listed =
      good_parts (parts_of spec p) (λ q. part_clean spec p q good.0)
      (typed_parts spec p.scope good.1.0 p.expected (expr_layer p.expr) (subst (λ (u : Inferred). IsTyped p.expected u) (inferred_own spec p good.0) good.1.1) (fits spec p good.0) (names_right spec p good.0) (parts_sound spec p ts listed good.0))

  have_types : (ps : List Occurrence) (ts : List Typing) → AreListed spec ps ts → AllByRecursion IsGood ps → HaveTypes spec ps ts
  have_types _ _ none good = have_none
  have_types _ _ (next p ps inside others d e) good =
      have_next p ps (listed_type p.expected (inferred spec p.scope p.expr)) inside others (listed_right spec p good.0.1.1) (have_types (parts_of spec p) inside d (typed_inside p inside good.0 d)) (have_types ps others e good.1)

  -- WHOLE EXPRESSIONS

  pub sorted_variables : (bs : List Bound) → AllByRecursion HasSort (map variable_of bs)
  sorted_variables [] = tt
  sorted_variables (b ∷ bs) = ((b.sort, refl), sorted_variables bs)

  pub sorted_rule : (t : Trigger) → IsSorted (trigger_scope t)
  sorted_rule (trigger.Forward p) = sorted_variables (bound_in p)
  sorted_rule (trigger.Backward p) = sorted_variables (bound_in p)
  sorted_rule (trigger.AtStart p) = sorted_variables (bound_in p)
  sorted_rule (trigger.AtEnd p) = sorted_variables (bound_in p)

  module _ (faultless : HasNoFault spec) where
    body_expected : (rule : PropRule) → Contains spec.rules rule → (u : Inferred) → IsTyped (expected_body (property_named spec rule.property.text)) u
    body_expected rule among u = by (property_named spec rule.property.text) refl
      where
        by : (o : Option PropDecl) → property_named spec rule.property.text ≡ o → IsTyped (expected_body o) u
        by (Some p) e = by_expected (lattice (lattice_of p.lattice)) refl
        by None e = absurd (faultless _ _ (declaration (unknown rule.property (property rule among e) refl)))

    pub good_body : (rule : PropRule) → Contains spec.rules rule → IsGood (body_of spec rule)
    good_body rule among = (λ at kind h. faultless at kind (expression (body rule kind among h)), (sorted_rule rule.trigger, body_expected rule among _))

    pub good_condition : (m : Message) → Contains spec.messages m → AllByRecursion IsGood (optional (message_scope m) expected_truth m.condition)
    good_condition m among = by m.condition refl
      where
        by : (c : Option Expr) → m.condition ≡ c → AllByRecursion IsGood (optional (message_scope m) expected_truth c)
        by None is_none = tt
        by (Some e) is_some = ((λ at kind h. faultless at kind (expression (condition m e kind among is_some h)), (sorted_variables (bound_in m.pattern), by_expected truth refl)), tt)

    good_bodies : (rules : List PropRule) → ((rule : PropRule) → Contains rules rule → Contains spec.rules rule) → AllByRecursion IsGood (map (body_of spec) rules)
    good_bodies [] within = tt
    good_bodies (rule ∷ rules) within = (good_body rule (within rule (Contains_here rule rules)), good_bodies rules (λ r among. within r (Contains_behind rule rules r among)))

    good_conditions : (ms : List Message) → ((m : Message) → Contains ms m → Contains spec.messages m) → AllByRecursion IsGood (flat_map (λ m. optional (message_scope m) expected_truth m.condition) ms)
    good_conditions [] within = tt
    good_conditions (m ∷ ms) within =
        all_append IsGood (optional (message_scope m) expected_truth m.condition) (flat_map (λ m. optional (message_scope m) expected_truth m.condition) ms) (good_condition m (within m (Contains_here m ms)))
        (good_conditions ms (λ n among. within n (Contains_behind m ms n among)))

    pub good_wholes : AllByRecursion IsGood (wholes_of spec)
    good_wholes =
        all_append IsGood (map (body_of spec) spec.rules) (flat_map (λ m. optional (message_scope m) expected_truth m.condition) spec.messages) (good_bodies spec.rules (λ r among. among)) (good_conditions spec.messages (λ m among. among))

pub faultless_have_types : FaultlessExpressionsHaveTypes
faultless_have_types spec types faultless listed = have_types spec (wholes_of spec) types listed (good_wholes spec faultless)
