-- The constraints and the unknowns of a tree, listed by its nodes, its edges and the properties.
use Rattle.std.specs.Prelude.{Bool, true, false, cond, List, [], ◌++◌, filter, map, Option, Some, option_map}
use Rattle.std.specs.List.{flat_map}
use Rattle.std.specs.Option.{option_map_or, option_to_list}
use Rattle.std.specs.Ordering.{eq_by_cmp}
use Rattle.flow_term.specs.declared.graph.Edge.{Edge}
use Rattle.flow_term.specs.declared.graph.Node.{Node}
use Rattle.flow_term.specs.declared.graph.NodeKind.{NodeKind}
use Rattle.flow_term.specs.declared.graph.NodeKind.TheVariants as kind
use Rattle.flow_term.specs.declared.graph.Unknown.{Unknown}
use Rattle.flow_term.specs.declared.term.Term.{Term}
use Rattle.flow_term.specs.Orders.{node_cmp}
use Rattle.flow_syntax.specs.declared.property.Direction.{Direction}
use Rattle.flow_syntax.specs.declared.property.Direction.TheVariants as direction
use Rattle.flow_syntax.specs.declared.spec.Spec.{Spec}
use Rattle.flow_match.specs.declared.matched.RuleHit.{RuleHit}
use Rattle.tree_constraints.specs.declared.constraint.Constraint.{Constraint}
use Rattle.tree_constraints.specs.declared.constraint.Origin.{Origin}
use Rattle.tree_constraints.specs.declared.constraint.Origin.TheVariants as origin
use Rattle.tree_constraints.specs.Constraints.{arrives, comes, hit_at, ordinary_hit, unknown_at}
use Rattle.tree_listing.specs.declared.property.Property.{Property}

-- EDGES BY DIRECTION

abbrev pub same_node : Node → Node → Bool
same_node = eq_by_cmp node_cmp

-- the end of an edge at which a property's value arrives, and the one from which it comes
abbrev pub arrives_by : Direction → Edge → Node
arrives_by d e = arrives d e.from e.to

abbrev pub comes_by : Direction → Edge → Node
comes_by d e = comes d e.from e.to

-- the nodes from which values come to a node, in the order of the edges
abbrev pub origins : Direction → List Edge → Node → List Node
origins d edges n = map (comes_by d) (filter (λ e. same_node (arrives_by d e) n) edges)

-- whether control begins at nodes of this kind, in a direction
abbrev pub begins_at : Direction → NodeKind → Bool
begins_at direction.Forward kind.Start = true
begins_at direction.Backward kind.End = true
begins_at _ _ = false

-- CONSTRAINTS

-- the constraint that this rule gives, or that copies where there is none
abbrev pub constraint_by : Option RuleHit → Unknown → Origin → Constraint
constraint_by hit u o = record {
  key = record { target = u; origin = o };
  rule = option_map (λ h. h.rule) hit;
  bindings = option_map_or (λ h. h.bindings) hit [];
}

-- the constraint of a property at a node from another node: the rule is found once, whatever the origin
abbrev pub constraint_from : Spec → Term → Node → Property → Node → Constraint
constraint_from spec tree n p o = constraint_by (ordinary_hit spec tree (unknown_at n p.name) n.kind) (unknown_at n p.name) (origin.Along o)

-- its constraint at a boundary, if it has one
abbrev pub boundary_at : Spec → Term → Node → Property → List Constraint
boundary_at spec tree n p = cond (begins_at p.direction n.kind)
    (option_to_list (option_map (λ hit. constraint_by (Some hit) (unknown_at n p.name) origin.Boundary) (hit_at spec tree true (unknown_at n p.name)))) []

-- those that aim at a property at a node, the boundary first
abbrev pub listed_at : Spec → Term → List Edge → Node → Property → List Constraint
listed_at spec tree edges n p = boundary_at spec tree n p ++ map (constraint_from spec tree n p) (origins p.direction edges n)

-- those that aim at a node
abbrev pub listed_at_node : Spec → Term → List Property → List Edge → Node → List Constraint
listed_at_node spec tree properties edges n = flat_map (listed_at spec tree edges n) properties

-- all, by node, property and origin
abbrev pub listed : Spec → Term → List Property → List Node → List Edge → List Constraint
listed spec tree properties nodes edges = flat_map (listed_at_node spec tree properties edges) nodes

-- UNKNOWNS

abbrev pub unknowns_at : List Property → Node → List Unknown
unknowns_at properties n = map (λ p. unknown_at n p.name) properties

-- all, by node and property
abbrev pub listed_unknowns : List Property → List Node → List Unknown
listed_unknowns properties nodes = flat_map (unknowns_at properties) nodes
