-- What holds of the lists of a tree's constraints and unknowns, as sentences.
use Rattle.std.specs.Prelude.{◌≡◌, ℕ, ◌+◌, ◌*◌, List, length, Contains, Some, slice_get}
use Rattle.std.specs.List.{position_or_len}
use Rattle.std.specs.List.Sorted.{IsStrictlySortedBy}
use Rattle.flow_term.specs.declared.graph.Edge.{Edge}
use Rattle.flow_term.specs.declared.graph.Node.{Node}
use Rattle.flow_term.specs.declared.graph.Unknown.{Unknown}
use Rattle.flow_term.specs.declared.term.Term.{Term}
use Rattle.flow_term.specs.Orders.{node_cmp}
use Rattle.flow_syntax.specs.declared.spec.Spec.{Spec}
use Rattle.flow_syntax.specs.Graph.{IsEdge, IsNode}
use Rattle.tree_constraints.specs.declared.constraint.Constraint.{Constraint}
use Rattle.tree_constraints.specs.Constraints.{IsConstraint, IsUnknownOf, reads_of, source, unknown_at}
use Rattle.tree_constraints.specs.Orders.{by_parts}
use Rattle.tree_constraints.specs.Solutions.{AreConstraints, AreUnknowns}
use Rattle.tree_listing.specs.declared.property.Property.{Property}
use Rattle.tree_listing.specs.Given.{AreEdges, AreNodes, AreProperties, name_cmp}
use Rattle.tree_listing.specs.Listing.{listed, listed_unknowns}

-- what is listed by properties, nodes and edges are the constraints and the unknowns of the tree
abbrev pub ListingIsExact : Type 0
ListingIsExact = (spec : Spec) (tree : Term) (properties : List Property) (nodes : List Node) (edges : List Edge) → AreProperties spec properties → AreNodes spec tree nodes → AreEdges spec tree edges
    → AreConstraints spec tree (listed spec tree properties nodes edges) × AreUnknowns spec tree (listed_unknowns properties nodes)

-- each specification has a list of its properties
abbrev pub PropertiesExist : Type 0
PropertiesExist = (spec : Spec) → (properties : List Property) × AreProperties spec properties

-- and one at most
abbrev pub PropertiesAreOne : Type 0
PropertiesAreOne = (spec : Spec) (ps qs : List Property) → AreProperties spec ps → AreProperties spec qs → ps ≡ qs

-- a tree whose nodes and edges are listed has a list of its constraints and one of its unknowns
abbrev pub TreesHaveLists : Type 0
TreesHaveLists = (spec : Spec) (tree : Term) (nodes : List Node) (edges : List Edge) → AreNodes spec tree nodes → AreEdges spec tree edges
    → (cs : List Constraint) × (us : List Unknown) × AreConstraints spec tree cs × AreUnknowns spec tree us

-- an edge leads from a node to a node
abbrev pub EdgesJoinNodes : Type 0
EdgesJoinNodes = (spec : Spec) (tree : Term) (from to : Node) → IsEdge spec tree from to → IsNode spec tree from × IsNode spec tree to

-- The target of a constraint and what it reads are unknowns of the tree, and its value comes from a node of it.
pub record IsInUse (spec : Spec) (tree : Term) (c : Constraint) : Type 0 where
  pub target : IsUnknownOf spec tree c.key.target
  pub origin : IsNode spec tree (source c.key.target.node c.key.origin)
  pub reads : (u : Unknown) → Contains (reads_of spec c) u → IsUnknownOf spec tree u

-- all that a tree's constraints name is in use
abbrev pub ConstraintsAreInUse : Type 0
ConstraintsAreInUse = (spec : Spec) (tree : Term) (c : Constraint) → IsConstraint spec tree c → IsInUse spec tree c

-- there are as many unknowns as nodes times properties
abbrev pub UnknownsAreCounted : Type 0
UnknownsAreCounted = (properties : List Property) (nodes : List Node) → length (listed_unknowns properties nodes) ≡ length nodes * length properties

-- the unknown of a property at a node stands at the node's number times the number of properties, and the property's place
abbrev pub UnknownsAreByPlace : Type 0
UnknownsAreByPlace = (properties : List Property) (nodes : List Node) (i j : ℕ) (n : Node) (p : Property) → slice_get nodes i ≡ Some n → slice_get properties j ≡ Some p
    → slice_get (listed_unknowns properties nodes) (i * length properties + j) ≡ Some (unknown_at n p.name)

-- in order, that is its number
abbrev pub NumbersAreByPlace : Type 0
NumbersAreByPlace = (properties : List Property) (nodes : List Node) → IsStrictlySortedBy name_cmp properties → IsStrictlySortedBy node_cmp nodes
    → (i j : ℕ) (n : Node) (p : Property) → slice_get nodes i ≡ Some n → slice_get properties j ≡ Some p
    → position_or_len (by_parts.unknown (unknown_at n p.name)) (listed_unknowns properties nodes) ≡ i * length properties + j
