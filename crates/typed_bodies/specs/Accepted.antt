-- What holds of the bodies and conditions of an accepted specification.
use Rattle.std.specs.Prelude.{◌≡◌, ℕ, List, Contains, Some}
use Rattle.std.specs.List.{AllZip}
use Rattle.flow_term.specs.declared.value.Bound.{Bound}
use Rattle.flow_syntax.specs.declared.expr.Expr.{Expr}
use Rattle.flow_syntax.specs.declared.message.Message.{Message}
use Rattle.flow_syntax.specs.declared.pattern.Pattern.{Pattern}
use Rattle.flow_syntax.specs.declared.property.PropRule.{PropRule}
use Rattle.flow_syntax.specs.declared.spec.Spec.{Spec}
use Rattle.flow_syntax.specs.declared.tables.FunctionDecl.{FunctionDecl}
use Rattle.flow_syntax.specs.declared.tables.TableDecl.{TableDecl}
use Rattle.flow_syntax.specs.Accepted.{HasDistinctExpressions}
use Rattle.flow_syntax.specs.Binders.{bound_in}
use Rattle.flow_syntax.specs.ExprFaults.{trigger_pattern, trigger_scope, message_scope}
use Rattle.flow_syntax.specs.ExprTypes.{AreTypes}
use Rattle.flow_syntax.specs.Faults.{HasNoFault}
use Rattle.flow_syntax.specs.Inferred.{function_named}
use Rattle.value_domains.specs.Values.{IsOfSort}
use Rattle.flow_syntax.specs.Types.{Typing}
use Rattle.expr_meaning.specs.Ranges.{values, truths}
use Rattle.value_domains.specs.Domains.{Domain, table_of}
use Rattle.expr_meaning.specs.SpecRanges.{Agrees, domains_of, usable_in, variables_of, ranges_of}
use Rattle.expr_meaning.specs.Functions.{IsMonotone}
use Rattle.value_domains.specs.Lawful.{IsLawfulTable}
use Rattle.expr_meaning.specs.Meaning.{Situation, Sense, meaning, property_number, bound_to}
use Rattle.expr_meaning.specs.Modes.{mode_of}
use Rattle.expr_meaning.specs.Monotone.{FollowsBy}
use Rattle.expr_meaning.specs.Typing.{IsIn, Suits, IsBoundAs, variable_of}

-- a specification without faults, whose expressions are told apart and have these types
pub record IsTypedBy (spec : Spec) (types : List Typing) : Type 0 where
  pub faultless : HasNoFault spec
  pub distinct : HasDistinctExpressions spec
  pub are : AreTypes spec types

-- the declared lattices are lattices, and the declared functions are monotone
pub record HasLawfulTables (spec : Spec) : Type 0 where
  pub lattices : (l : TableDecl) → Contains spec.lattices l → IsLawfulTable (table_of (Some l))
  pub monotone : (x : List ℕ) (f : FunctionDecl) → function_named spec x ≡ Some f → IsMonotone spec f

-- what an expression of the specification means
abbrev pub sense_of : Spec → List Typing → Expr → Sense
sense_of spec types e = meaning spec (ranges_of spec types) e

-- the domain of the property of a rule
abbrev pub rule_domain : Spec → PropRule → Domain
rule_domain spec rule = domains_of spec (property_number spec rule.property.text)

-- a rule can be applied: the variables of its pattern are bound, and each value that it can read is one of the property's domain
abbrev pub CanApply : Spec → PropRule → Situation → Type 0
CanApply spec rule = Suits (usable_in spec (trigger_scope rule.trigger)) (variables_of (trigger_pattern rule.trigger))

abbrev pub CanReport : Spec → Message → Situation → Type 0
CanReport spec m = Suits (usable_in spec (message_scope m)) (variables_of m.pattern)

module _ (spec : Spec) (types : List Typing) where
  -- the body of a rule gives a value of its property's domain, and follows what it reads by its mode
  pub record IsGoodBody (rule : PropRule) : Type 0 where
    pub value : (at : Situation) → CanApply spec rule at → IsIn (values (rule_domain spec rule)) (sense_of spec types rule.body at)
    pub follows : FollowsBy (usable_in spec (trigger_scope rule.trigger)) (CanApply spec rule) (values (rule_domain spec rule)) (sense_of spec types rule.body) (mode_of (ranges_of spec types) rule.body)

  -- the condition of a message gives a truth, and follows what it reads by its mode
  pub record IsGoodCondition (m : Message) (e : Expr) : Type 0 where
    pub truth : (at : Situation) → CanReport spec m at → IsIn truths (sense_of spec types e at)
    pub follows : FollowsBy (usable_in spec (message_scope m)) (CanReport spec m) truths (sense_of spec types e) (mode_of (ranges_of spec types) e)

abbrev pub BodiesAreGood : Type 0
BodiesAreGood = (spec : Spec) (types : List Typing) → IsTypedBy spec types → HasLawfulTables spec → (rule : PropRule) → Contains spec.rules rule → IsGoodBody spec types rule

abbrev pub ConditionsAreGood : Type 0
ConditionsAreGood = (spec : Spec) (types : List Typing) → IsTypedBy spec types → HasLawfulTables spec → (m : Message) (e : Expr) → Contains spec.messages m → m.condition ≡ Some e → IsGoodCondition spec types m e

-- the types give each expression of the specification its range
abbrev pub TypesAgree : Type 0
TypesAgree = (spec : Spec) (types : List Typing) → IsTypedBy spec types → Agrees spec types (ranges_of spec types)

-- a pattern's variables that are bound in their order, as a match binds them, are bound by their names
abbrev pub MatchesBind : Type 0
MatchesBind = (p : Pattern) (bs : List Bound) → AllZip (λ v b. (v.name ≡ b.name) × IsOfSort v.sort b.value) (bound_in p) bs → (x : List ℕ) → IsBoundAs (variable_of (variables_of p) x) (bound_to bs x)
