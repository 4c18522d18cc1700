-- The bodies of a prepared specification rise.
use Rattle.std.proofs.Common.{◌≡◌, false, List, Option, Some, None, subst}
use Rattle.std.specs.Prelude.{slice_get}
use Rattle.std.proofs.lemmas.Bool.{true≢false}
use Rattle.flow_term.specs.declared.value.Value.{Value}
use Rattle.flow_syntax.specs.declared.property.Mode.{Mode}
use Rattle.flow_syntax.specs.declared.property.Mode.TheVariants as mode
use Rattle.flow_syntax.specs.declared.property.PropDecl.{PropDecl}
use Rattle.flow_syntax.specs.declared.property.PropRule.{PropRule}
use Rattle.flow_syntax.specs.declared.spec.Spec.{Spec}
use Rattle.flow_syntax.specs.ExprFaults.{trigger_scope}
use Rattle.flow_syntax.specs.Types.{Typing, lattice, lattice_of}
use Rattle.flow_syntax.proofs.Matches.{found_among}
use Rattle.expr_typing.proofs.Kept.{types_kept}
use Rattle.expr_meaning.specs.Meaning.{Meaning, Sense, Situation, Usable, a_truth, a_value, an_element, property_number, value_in}
use Rattle.expr_meaning.specs.Modes.{mode_of}
use Rattle.expr_meaning.specs.Monotone.{FollowsBy, IsBelowAs}
use Rattle.expr_meaning.specs.Ranges.{values}
use Rattle.expr_meaning.specs.SpecRanges.{property_domain, ranges_of, usable_in}
use Rattle.expr_meaning.specs.Typing.{IsIn}
use Rattle.flow_modes.specs.Modes.{is_refused}
use Rattle.typed_bodies.proofs.Good.{bodies_good}
use Rattle.typed_bodies.proofs.Tables.{range_lawful}
use Rattle.typed_bodies.specs.Accepted.{CanApply, HasLawfulTables, IsGoodBody, rule_domain, sense_of}
use Rattle.value_domains.specs.Domains.{Domain, IsBelowIn, IsValueOf}
use Rattle.value_domains.specs.Lawful.{IsLawful}
use Rattle.value_domains.specs.inner.DomainLaws.{domain_laws, domain_order}
use Rattle.flow_eval.proofs.Causes.{lawful_by_names, monotone_by_names}
use Rattle.flow_eval.specs.Accepted.{HasLawfulLattices, HasMonotoneFunctions, IsAccepted}
use Rattle.flow_eval.specs.Laws.{BodiesOfReadyRise, IsRisingBody, ReadyIsAnalysed}
use Rattle.flow_eval.specs.Tables.{types_in}
use Rattle.flow_eval.specs.declared.ready.Ready.{Ready}

below_itself : (d : Domain) → IsLawful d → (v : Value) → IsValueOf d v → IsBelowIn d v v
below_itself d lawful v h = (domain_order d lawful v v h h).1 ((domain_laws d lawful).idempotent v h)

-- what is fixed rises too, since each value is below itself
fixed_rises : (d : Domain) → IsLawful d → (x y : Meaning) → IsIn (values d) x → x ≡ y → IsBelowAs (values d) x y
fixed_rises d lawful (a_value v) y is same = subst (λ (m : Meaning). IsBelowIn d v (value_in m)) same (below_itself d lawful v is)
fixed_rises d lawful (an_element e) y is same = absurd is
fixed_rises d lawful (a_truth b) y is same = absurd is

module _ (usable : Usable) (IsPossible : Situation → Type 0) (d : Domain) (lawful : IsLawful d) (sense : Sense) (value : (at : Situation) → IsPossible at → IsIn (values d) (sense at)) where
  up_by : (m : Mode) → is_refused m ≡ false → FollowsBy usable IsPossible (values d) sense m → FollowsBy usable IsPossible (values d) sense mode.Up
  up_by mode.Fixed good follows = λ low high a b lower. fixed_rises d lawful (sense low) (sense high) (value low a) (follows low high a b lower)
  up_by mode.Up good follows = follows
  up_by mode.Down good follows = absurd (true≢false good)
  up_by mode.Mixed good follows = absurd (true≢false good)

property_lawful : (spec : Spec) → HasLawfulTables spec → (o : Option PropDecl) → IsLawful (property_domain spec.lattices o)
property_lawful spec tables (Some p) = range_lawful spec tables.lattices (lattice (lattice_of p.lattice))
property_lawful spec tables None = tt

rising_body : (spec : Spec) (types : List Typing) (rule : PropRule) → HasLawfulTables spec → IsGoodBody spec types rule → is_refused (mode_of (ranges_of spec types) rule.body) ≡ false → IsRisingBody spec types rule
rising_body spec types rule tables body good = record {
  value = body.value;
  rises = up_by (usable_in spec (trigger_scope rule.trigger)) (CanApply spec rule) (rule_domain spec rule)
      (property_lawful spec tables (slice_get spec.properties (property_number spec rule.property.text))) (sense_of spec types rule.body) body.value
      (mode_of (ranges_of spec types) rule.body) good body.follows;
}

lattices_lawful : (ready : Ready) → HasLawfulLattices ready.spec.spec
lattices_lawful ready l among = lawful_by_names ready.spec.spec ready.spec.faultless l among (ready.lawful l among)

functions_monotone : (ready : Ready) → HasMonotoneFunctions ready.spec.spec
functions_monotone ready f among = monotone_by_names ready.spec.spec ready.spec.faultless ready.spec.small_functions f among (ready.monotone f among)

pub ready_accepted : (ready : Ready) → IsAccepted ready.spec.spec (types_in ready.spec)
ready_accepted ready = record { lattices = lattices_lawful ready; functions = functions_monotone ready; rules = ready.modes }

pub ready_analysed : ReadyIsAnalysed
ready_analysed ready =
    let spec = ready.spec.spec in
    record {
      accepted = ready_accepted ready;
      typed = record { faultless = ready.spec.faultless; distinct = ready.spec.distinct; are = types_kept spec (types_in ready.spec) ready.spec.faultless ready.spec.typed };
      lawful = record { lattices = lattices_lawful ready; monotone = λ x f e. functions_monotone ready f (found_among _ spec.functions f e) };
    }

pub bodies_rise : BodiesOfReadyRise
bodies_rise ready rule among =
    let is = ready_analysed ready in
    rising_body ready.spec.spec (types_in ready.spec) rule is.lawful (bodies_good ready.spec.spec (types_in ready.spec) is.typed is.lawful rule among) (ready.modes rule among)
