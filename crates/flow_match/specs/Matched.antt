-- The rules that match at a position.
use Rattle.std.specs.Prelude.{ℕ, ◌+◌, Bool, true, false, ◌&&◌, not, List, [], ◌∷◌, ◌++◌, Option, Some, None, bytes_eq, cond, option_map}
use Rattle.std.specs.List.{position_from}
use Rattle.std.specs.Option.{option_or}
use Rattle.flow_term.specs.declared.term.Term.{Term}
use Rattle.flow_term.specs.declared.value.Bound.{Bound}
use Rattle.flow_term.specs.Trees.{At}
use Rattle.flow_syntax.specs.declared.property.PropDecl.{PropDecl}
use Rattle.flow_syntax.specs.declared.property.PropRule.{PropRule}
use Rattle.flow_syntax.specs.declared.property.Trigger.{Trigger}
use Rattle.flow_syntax.specs.declared.property.Trigger.TheVariants as trigger
use Rattle.flow_syntax.specs.declared.spec.Spec.{Spec}
use Rattle.flow_syntax.specs.ExprFaults.{trigger_pattern}
use Rattle.flow_syntax.specs.Matching.{matches}
use Rattle.flow_match.specs.declared.matched.Matched.{Matched}
use Rattle.flow_match.specs.declared.matched.RuleHit.{RuleHit}
use Rattle.flow_match.specs.Bindings.{bindings_at}

-- whether it is a rule for start or end nodes
abbrev pub is_boundary : Trigger → Bool
is_boundary (trigger.AtStart p) = true
is_boundary (trigger.AtEnd p) = true
is_boundary _ = false

-- whether a rule is an ordinary rule, or a boundary rule, of the property of this name
abbrev pub is_rule_of : List ℕ → Bool → PropRule → Bool
is_rule_of name true rule = bytes_eq name rule.property.text && is_boundary rule.trigger
is_rule_of name false rule = bytes_eq name rule.property.text && not (is_boundary rule.trigger)

-- a rule that binds these variables
abbrev pub hit_of : ℕ → Bool → ℕ → List Bound → RuleHit
hit_of property boundary n bs = record { property = property; rule = n; boundary = boundary; bindings = bs }

-- what a rule with this number gives, where it is one of the property and matches
abbrev pub hit_by : ℕ → List ℕ → Bool → Term → List ℕ → ℕ → PropRule → Option RuleHit
hit_by property name boundary t path n rule = cond (is_rule_of name boundary rule) (option_map (hit_of property boundary n) (bindings_at (trigger_pattern rule.trigger) t path)) None

-- what the first of these, numbered from here on, gives that gives something
abbrev pub first_some : {X Y : Type 0} → (ℕ → X → Option Y) → ℕ → List X → Option Y
first_some f n [] = None
first_some f n (x ∷ xs) = option_or (f n x) (first_some f (n + 1) xs)

-- the first of the rules that is one of the property and matches
abbrev pub first_hit : ℕ → List ℕ → Bool → Term → List ℕ → List PropRule → Option RuleHit
first_hit property name boundary t path rules = first_some (hit_by property name boundary t path) 0 rules

abbrev pub as_list : Option RuleHit → List RuleHit
as_list (Some h) = h ∷ []
as_list None = []

-- of a property its first ordinary rule that matches, and then its first boundary rule that matches
abbrev pub hits_of : List PropRule → Term → List ℕ → ℕ → PropDecl → List RuleHit
hits_of rules t path n p = as_list (first_hit n p.name.text false t path rules) ++ as_list (first_hit n p.name.text true t path rules)

-- those of these properties, numbered from here on
abbrev pub hits_from : List PropRule → Term → List ℕ → ℕ → List PropDecl → List RuleHit
hits_from rules t path n [] = []
hits_from rules t path n (p ∷ ps) = hits_of rules t path n p ++ hits_from rules t path (n + 1) ps

-- what matches at a term that stands at a path
abbrev pub matched : Spec → Term → List ℕ → Matched
matched spec t path = record { control = position_from (λ rule. matches rule.head t) 0 spec.control; hits = hits_from spec.rules t path 0 spec.properties }

-- what matches at a position of a tree
abbrev pub matched_in : Spec → Term → List ℕ → Option Matched
matched_in spec tree path = option_map (λ t. matched spec t path) (At tree path)
