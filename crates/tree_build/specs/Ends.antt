-- Where constraints stand, by numbers.
use Rattle.std.specs.Prelude.{◌≡◌, ◌+◌, ◌*◌, ◌<◌, ℕ, All, List, [], get_or, length, map}
use Rattle.std.specs.List.{AllZip, position_or_len}
use Rattle.flow_term.specs.declared.term.Term.{Term}
use Rattle.flow_syntax.specs.declared.spec.Spec.{Spec}
use Rattle.tree_constraints.specs.Orders.{by_parts}
use Rattle.tree_listing.specs.Given.{AreNodes, AreProperties}
use Rattle.tree_listing.specs.Listing.{listed_unknowns}
use Rattle.flow_term.specs.declared.graph.Node.{Node}
use Rattle.flow_syntax.specs.declared.property.Direction.TheVariants as direction
use Rattle.tree_constraints.specs.declared.constraint.Constraint.{Constraint}
use Rattle.tree_constraints.specs.Constraints.{source}
use Rattle.tree_listing.specs.declared.property.Property.{Property}
use Rattle.tree_build.specs.declared.ends.Ends.{Ends}
use Rattle.tree_build.specs.Numbers.{node_of}

-- what stands where no property does
abbrev pub no_property : Property
no_property = record { name = []; direction = direction.Forward }

abbrev pub property_at : List Property → ℕ → Property
property_at properties j = get_or properties j no_property

-- A node and a name have this number and this place.
pub record StandsAt (properties : List Property) (nodes : List Node) (number place : ℕ) (node : Node) (name : List ℕ) : Type 0 where
  pub number_within : number < length nodes
  pub place_within : place < length properties
  pub node_is : node_of nodes number ≡ node
  pub name_is : (property_at properties place).name ≡ name

-- The numbers of a constraint's target and of the node from which its value comes.
pub record IsEnds (properties : List Property) (nodes : List Node) (e : Ends) (c : Constraint) : Type 0 where
  pub target : StandsAt properties nodes e.number e.place c.key.target.node c.key.target.property
  pub origin_within : e.origin < length nodes
  pub origin_is : node_of nodes e.origin ≡ source c.key.target.node c.key.origin

-- Each constraint has its numbers beside it.
abbrev pub AreEnds : List Property → List Node → List Ends → List Constraint → Type 0
AreEnds properties nodes ends cs = AllZip (IsEnds properties nodes) ends cs

-- the number of a constraint's target, where each node has so many properties
abbrev pub unknown_number : ℕ → Ends → ℕ
unknown_number properties e = e.number * properties + e.place

-- the numbers that are worked out from where constraints stand are those of their targets
abbrev pub TargetsAreRight : Type 0
TargetsAreRight = (spec : Spec) (tree : Term) (properties : List Property) (nodes : List Node) (ends : List Ends) (cs : List Constraint) → AreProperties spec properties → AreNodes spec tree nodes → AreEnds properties nodes ends cs
    → All (λ e. unknown_number (length properties) e < length (listed_unknowns properties nodes)) ends
    × (map (unknown_number (length properties)) ends ≡ map (λ c. position_or_len (by_parts.unknown c.key.target) (listed_unknowns properties nodes)) cs)
