-- Which bodies rise with what they read, and the fault at the first that doesn't.
use Rattle.std.specs.Prelude.{◌≡◌, Bool, true, false, List, map, find, Contains, Option}
use Rattle.std.specs.Option.{option_map}
use Rattle.flow_syntax.specs.declared.expr.Expr.{Expr, out-Expr}
use Rattle.flow_syntax.specs.declared.property.Mode.{Mode}
use Rattle.flow_syntax.specs.declared.property.Mode.TheVariants as mode
use Rattle.flow_syntax.specs.declared.property.PropRule.{PropRule}
use Rattle.flow_syntax.specs.declared.spec.TypedSpec.{TypedSpec}
use Rattle.flow_syntax.specs.Types.{typing_of}
use Rattle.expr_meaning.specs.Modes.{mode_of}
use Rattle.expr_meaning.specs.Ranges.{Range}
use Rattle.expr_meaning.specs.SpecRanges.{ranges_of}
use Rattle.flow_modes.specs.declared.check.ModeFault.{ModeFault}

-- whether a body may not have the mode
abbrev pub is_refused : Mode → Bool
is_refused mode.Down = true
is_refused mode.Mixed = true
is_refused m = false

-- the ranges of the expressions of a specification, from the types that it keeps
abbrev pub typed_ranges : TypedSpec → Expr → Range
typed_ranges spec = ranges_of spec.spec (map typing_of spec.types)

-- The body of each rule is `Fixed` or `Up`.
abbrev pub HaveGoodModes : TypedSpec → Type 0
HaveGoodModes spec = (rule : PropRule) → Contains spec.spec.rules rule → is_refused (mode_of (typed_ranges spec) rule.body) ≡ false

-- the place and the mode of a rule's body
abbrev pub body_fault : (Expr → Range) → PropRule → ModeFault
body_fault range rule = record { place = (out-Expr rule.body).place; mode = mode_of range rule.body }

-- the fault of the first rule whose body is `Down` or `Mixed`
abbrev pub first_fault_by : (Expr → Range) → List PropRule → Option ModeFault
first_fault_by range rules = option_map (body_fault range) (find (λ rule. is_refused (mode_of range rule.body)) rules)

abbrev pub first_mode_fault : TypedSpec → Option ModeFault
first_mode_fault spec = first_fault_by (typed_ranges spec) spec.spec.rules
