-- The constraints of a tree: which there are, what each reads, and what value it gives.
use Rattle.std.specs.Prelude.{◌≡◌, ℕ, ◌+◌, Bool, true, false, List, [], ◌∷◌, ◌++◌, map, filter, Contains, Option, None, IsSome, slice_get, option_map, option_and_then}
use Rattle.std.specs.Option.{option_map_or}
use Rattle.flow_term.specs.declared.graph.Node.{Node}
use Rattle.flow_term.specs.declared.graph.NodeKind.{NodeKind}
use Rattle.flow_term.specs.declared.graph.NodeKind.TheVariants as kind
use Rattle.flow_term.specs.declared.graph.Unknown.{Unknown}
use Rattle.flow_term.specs.declared.term.Term.{Term}
use Rattle.flow_term.specs.declared.value.Value.{Value}
use Rattle.flow_term.specs.declared.value.Value.TheVariants as value
use Rattle.flow_term.specs.Trees.{At}
use Rattle.flow_syntax.specs.declared.expr.Side.{Side}
use Rattle.flow_syntax.specs.declared.expr.Side.TheVariants as side
use Rattle.flow_syntax.specs.declared.property.Direction.{Direction}
use Rattle.flow_syntax.specs.declared.property.Direction.TheVariants as direction
use Rattle.flow_syntax.specs.declared.property.PropDecl.{PropDecl}
use Rattle.flow_syntax.specs.declared.property.PropRule.{PropRule}
use Rattle.flow_syntax.specs.declared.spec.Spec.{Spec}
use Rattle.flow_syntax.specs.DeclFaults.{direction_of}
use Rattle.flow_syntax.specs.Graph.{IsEdge, IsNode}
use Rattle.flow_syntax.specs.Types.{Typing}
use Rattle.flow_match.specs.declared.matched.RuleHit.{RuleHit}
use Rattle.flow_match.specs.Matched.{first_hit}
use Rattle.expr_meaning.specs.Meaning.{Situation, property_number, value_in}
use Rattle.typed_bodies.specs.Accepted.{sense_of}
use Rattle.typed_bodies.specs.Anywhere.{reads_at}
use Rattle.tree_constraints.specs.declared.constraint.Constraint.{Constraint}
use Rattle.tree_constraints.specs.declared.constraint.Key.{Key}
use Rattle.tree_constraints.specs.declared.constraint.Origin.{Origin}
use Rattle.tree_constraints.specs.declared.constraint.Origin.TheVariants as origin

-- UNKNOWNS

abbrev pub unknown_at : Node → List ℕ → Unknown
unknown_at n x = record { node = n; property = x }

-- An unknown of a tree is a node of it and a property.
pub record IsUnknownOf (spec : Spec) (tree : Term) (u : Unknown) : Type 0 where
  pub node : IsNode spec tree u.node
  pub property : PropDecl
  pub declared : Contains spec.properties property
  pub named : u.property ≡ property.name.text

-- KEYS

-- the node of an edge at which a property's value arrives, and the one from which it comes
abbrev pub arrives : Direction → Node → Node → Node
arrives direction.Forward from to = to
arrives direction.Backward from to = from

abbrev pub comes : Direction → Node → Node → Node
comes direction.Forward from to = from
comes direction.Backward from to = to

-- where control begins, in a property's direction
abbrev pub begins : Direction → NodeKind
begins direction.Forward = kind.Start
begins direction.Backward = kind.End

-- the first rule that matches at an unknown, an ordinary one or one for a boundary, with its bindings
abbrev pub hit_at : Spec → Term → Bool → Unknown → Option RuleHit
hit_at spec tree boundary u = option_and_then (λ t. first_hit (property_number spec u.property) u.property boundary t u.node.path spec.rules) (At tree u.node.path)

abbrev pub key_along : PropDecl → Direction → Node → Node → Key
key_along p d from to = record { target = unknown_at (arrives d from to) p.name.text; origin = origin.Along (comes d from to) }

abbrev pub key_of_boundary : PropDecl → Node → Key
key_of_boundary p n = record { target = unknown_at n p.name.text; origin = origin.Boundary }

-- A constraint of a tree has this key:
pub data IsKeyOf (spec : Spec) (tree : Term) (k : Key) : Type 0 where
  -- one of each property along each edge
  along : (p : PropDecl) (from to : Node) → Contains spec.properties p → IsEdge spec tree from to → k ≡ key_along p (direction_of spec p) from to → IsKeyOf spec tree k
  -- and one of each property at each node where control begins, if a rule for that matches there
  at_boundary : (p : PropDecl) (n : Node) → Contains spec.properties p → IsNode spec tree n → n.kind ≡ begins (direction_of spec p)
      → IsSome (hit_at spec tree true (unknown_at n p.name.text)) → k ≡ key_of_boundary p n → IsKeyOf spec tree k

-- CONSTRAINTS

-- the ordinary rule for edges: only a node that is a position itself has one
abbrev pub ordinary_hit : Spec → Term → Unknown → NodeKind → Option RuleHit
ordinary_hit spec tree u kind.Node = hit_at spec tree false u
ordinary_hit spec tree u _ = None

-- the rule that gives the value of the constraint with a target and an origin
abbrev pub hit_of : Spec → Term → Unknown → Origin → Option RuleHit
hit_of spec tree u origin.Boundary = hit_at spec tree true u
hit_of spec tree u (origin.Along n) = ordinary_hit spec tree u u.node.kind

-- the constraint with a key: its value is that of the rule, or is copied where there is none
abbrev pub constraint_of : Spec → Term → Key → Constraint
constraint_of spec tree k =
    let hit = hit_of spec tree k.target k.origin in
    record { key = k; rule = option_map (λ h. h.rule) hit; bindings = option_map_or (λ h. h.bindings) hit [] }

-- a constraint of a tree
pub record IsConstraint (spec : Spec) (tree : Term) (c : Constraint) : Type 0 where
  pub key : IsKeyOf spec tree c.key
  pub whole : c ≡ constraint_of spec tree c.key

-- WHAT A CONSTRAINT READS AND GIVES: nothing but the constraint enters

-- the node from which the value comes; at a boundary it is the target's own
abbrev pub source : Node → Origin → Node
source n origin.Boundary = n
source n (origin.Along m) = m

-- the node at a side
abbrev pub node_at : Key → Side → Node
node_at k side.This = k.target.node
node_at k side.Prev = source k.target.node k.origin
node_at k side.Next = source k.target.node k.origin

-- the unknown that a constraint without a rule copies
abbrev pub copied : Key → Unknown
copied k = unknown_at (source k.target.node k.origin) k.target.property

abbrev pub rule_of : Spec → Constraint → Option PropRule
rule_of spec c = option_and_then (λ i. slice_get spec.rules i) c.rule

abbrev pub sides : List Side
sides = side.This ∷ side.Prev ∷ side.Next ∷ []

-- of these properties, numbered from here on, the unknowns at the sides at which they are read
abbrev pub reads_from : Key → (ℕ → Side → Bool) → ℕ → List PropDecl → List Unknown
reads_from k is_read n [] = []
reads_from k is_read n (p ∷ ps) = map (λ s. unknown_at (node_at k s) p.name.text) (filter (is_read n) sides) ++ reads_from k is_read (n + 1) ps

-- the unknowns that a constraint reads
abbrev pub reads_of : Spec → Constraint → List Unknown
reads_of spec c = option_map_or (λ rule. reads_from c.key (reads_at spec rule.body) 0 spec.properties) (rule_of spec c) (copied c.key ∷ [])

-- the value of a property, by its number, at a side; bottom where there is no such property
abbrev pub value_at_side : Spec → Key → (Unknown → Value) → ℕ → Side → Value
value_at_side spec k a n s = option_map_or (λ p. a (unknown_at (node_at k s) p.name.text)) (slice_get spec.properties n) value.Bottom

-- where the rule of a constraint is evaluated, under an assignment
abbrev pub situation_of : Spec → Constraint → (Unknown → Value) → Situation
situation_of spec c a = record { bindings = c.bindings; reads = value_at_side spec c.key a }

-- the value that a constraint gives under an assignment, where the expressions of the specification have these types
abbrev pub value_of : Spec → List Typing → Constraint → (Unknown → Value) → Value
value_of spec types c a = option_map_or (λ rule. value_in (sense_of spec types rule.body (situation_of spec c a))) (rule_of spec c) (a (copied c.key))
