-- The rules of a property among those that match at a position.
use Rattle.std.specs.Prelude.{ℕ, Bool, true, false, ◌==◌, ◌&&◌, cond, List, [], ◌∷◌, ◌++◌, map, Option, Some, None, find, option_map}
use Rattle.std.specs.Option.{option_to_list}
use Rattle.flow_term.specs.declared.graph.Edge.{Edge}
use Rattle.flow_term.specs.declared.graph.Node.{Node}
use Rattle.flow_term.specs.declared.graph.NodeKind.{NodeKind}
use Rattle.flow_term.specs.declared.graph.NodeKind.TheVariants as kind
use Rattle.flow_match.specs.declared.matched.RuleHit.{RuleHit}
use Rattle.tree_constraints.specs.declared.constraint.Constraint.{Constraint}
use Rattle.tree_constraints.specs.declared.constraint.Origin.TheVariants as origin
use Rattle.tree_constraints.specs.Constraints.{unknown_at}
use Rattle.tree_listing.specs.declared.property.Property.{Property}
use Rattle.tree_listing.specs.Listing.{begins_at, constraint_by, origins}

abbrev pub same_truth : Bool → Bool → Bool
same_truth true b = b
same_truth false true = false
same_truth false false = true

-- whether it is a rule of the property with this number, an ordinary one or one for a boundary
abbrev pub is_hit_of : ℕ → Bool → RuleHit → Bool
is_hit_of property boundary h = (h.property == property) && same_truth h.boundary boundary

-- the ordinary rule for edges
abbrev pub ordinary_in : List RuleHit → ℕ → NodeKind → Option RuleHit
ordinary_in hits property kind.Node = find (is_hit_of property false) hits
ordinary_in hits property _ = None

-- the constraint of a property at a boundary, if it has one
abbrev pub boundary_by : List RuleHit → ℕ → Node → Property → List Constraint
boundary_by hits declared n p = cond (begins_at p.direction n.kind)
    (option_to_list (option_map (λ hit. constraint_by (Some hit) (unknown_at n p.name) origin.Boundary) (find (is_hit_of declared true) hits))) []

-- those that aim at a property at a node where these rules match
abbrev pub listed_by : List RuleHit → ℕ → List Edge → Node → Property → List Constraint
listed_by hits declared edges n p = boundary_by hits declared n p ++ map (λ o. constraint_by (ordinary_in hits declared n.kind) (unknown_at n p.name) (origin.Along o)) (origins p.direction edges n)

-- those that aim at these properties, each with its number
abbrev pub listed_at_each : List RuleHit → List ℕ → List Property → List Edge → Node → List Constraint
listed_at_each hits numbers [] edges n = []
listed_at_each hits [] (p ∷ ps) edges n = []
listed_at_each hits (declared ∷ numbers) (p ∷ ps) edges n = listed_by hits declared edges n p ++ listed_at_each hits numbers ps edges n
