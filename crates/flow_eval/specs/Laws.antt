-- What holds of accepted specifications.
use Rattle.std.specs.Prelude.{◌≡◌, List, Contains}
use Rattle.flow_syntax.specs.declared.property.Mode.TheVariants as mode
use Rattle.flow_syntax.specs.declared.property.PropRule.{PropRule}
use Rattle.flow_syntax.specs.declared.spec.Spec.{Spec}
use Rattle.flow_syntax.specs.declared.spec.TypedSpec.{TypedSpec}
use Rattle.flow_syntax.specs.ExprFaults.{trigger_scope}
use Rattle.flow_syntax.specs.Types.{Typing}
use Rattle.expr_meaning.specs.Meaning.{Situation}
use Rattle.expr_meaning.specs.Monotone.{FollowsBy}
use Rattle.expr_meaning.specs.Ranges.{values}
use Rattle.expr_meaning.specs.SpecRanges.{usable_in}
use Rattle.expr_meaning.specs.Typing.{IsIn}
use Rattle.typed_bodies.specs.Accepted.{CanApply, HasLawfulTables, IsTypedBy, rule_domain, sense_of}
use Rattle.flow_eval.specs.Accepted.{IsAccepted, IsRefusedFor}
use Rattle.flow_eval.specs.Tables.{types_in}
use Rattle.flow_eval.specs.declared.ready.Ready.{Ready}
use Rattle.flow_eval.specs.declared.refusal.PrepareRefusal.{PrepareRefusal}

-- A specification with these types of its expressions is accepted, or refused for one cause, and never both.
pub record HasOneAnswer (spec : Spec) (types : List Typing) : Type 0 where
  pub one_cause : (why other : PrepareRefusal) → IsRefusedFor spec types why → IsRefusedFor spec types other → why ≡ other
  pub not_both : (why : PrepareRefusal) → IsAccepted spec types → ¬ IsRefusedFor spec types why

abbrev pub SpecificationsHaveOneAnswer : Type 0
SpecificationsHaveOneAnswer = (spec : TypedSpec) → HasOneAnswer spec.spec (types_in spec)

-- What a prepared specification is: accepted, and so one with types, lawful tables and rules that rise.
pub record IsAnalysed (spec : Spec) (types : List Typing) : Type 0 where
  pub accepted : IsAccepted spec types
  pub typed : IsTypedBy spec types
  pub lawful : HasLawfulTables spec

abbrev pub ReadyIsAnalysed : Type 0
ReadyIsAnalysed = (ready : Ready) → IsAnalysed ready.spec.spec (types_in ready.spec)

-- The body of a rule gives a value of its property's domain wherever the rule can be applied, and a greater one, or the same, where what it reads is greater.
pub record IsRisingBody (spec : Spec) (types : List Typing) (rule : PropRule) : Type 0 where
  pub value : (at : Situation) → CanApply spec rule at → IsIn (values (rule_domain spec rule)) (sense_of spec types rule.body at)
  pub rises : FollowsBy (usable_in spec (trigger_scope rule.trigger)) (CanApply spec rule) (values (rule_domain spec rule)) (sense_of spec types rule.body) mode.Up

abbrev pub BodiesOfReadyRise : Type 0
BodiesOfReadyRise = (ready : Ready) (rule : PropRule) → Contains ready.spec.spec.rules rule → IsRisingBody ready.spec.spec (types_in ready.spec) rule
