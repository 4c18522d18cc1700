-- What the constraints of a tree are listed by: its nodes and edges as lists, and the properties by name.
use Rattle.std.specs.Prelude.{◌≡◌, ◌↔◌, List, Contains}
use Rattle.std.specs.List.Sorted.{IsStrictlySortedBy}
use Rattle.std.specs.Ordering.{nat_cmp}
use Rattle.std.specs.Cmp.Lexicographic.{slice_cmp}
use Rattle.std.specs.declared.cmp.Ordering.{Ordering}
use Rattle.flow_term.specs.declared.graph.Edge.{Edge}
use Rattle.flow_term.specs.declared.graph.Node.{Node}
use Rattle.flow_term.specs.declared.term.Term.{Term}
use Rattle.flow_term.specs.Orders.{edge_cmp, node_cmp}
use Rattle.flow_syntax.specs.declared.property.PropDecl.{PropDecl}
use Rattle.flow_syntax.specs.declared.spec.Spec.{Spec}
use Rattle.flow_syntax.specs.DeclFaults.{direction_of}
use Rattle.flow_syntax.specs.Graph.{IsEdge, IsNode}
use Rattle.tree_listing.specs.declared.property.Property.{Property}

-- These are the nodes of the tree, in order.
pub record AreNodes (spec : Spec) (tree : Term) (nodes : List Node) : Type 0 where
  pub exactly : (n : Node) → Contains nodes n ↔ IsNode spec tree n
  pub ordered : IsStrictlySortedBy node_cmp nodes

-- These are the edges of the tree, in order.
pub record AreEdges (spec : Spec) (tree : Term) (edges : List Edge) : Type 0 where
  pub exactly : (e : Edge) → Contains edges e ↔ IsEdge spec tree e.from e.to
  pub ordered : IsStrictlySortedBy edge_cmp edges

-- by the bytes of the name
abbrev pub name_cmp : Property → Property → Ordering
name_cmp p q = slice_cmp nat_cmp p.name q.name

-- the property that is declared so
abbrev pub property_of : Spec → PropDecl → Property
property_of spec p = record { name = p.name.text; direction = direction_of spec p }

-- These are the properties of the specification, in order of their names.
pub record AreProperties (spec : Spec) (properties : List Property) : Type 0 where
  pub declared : (p : Property) → Contains properties p → (decl : PropDecl) × Contains spec.properties decl × (property_of spec decl ≡ p)
  pub all : (decl : PropDecl) → Contains spec.properties decl → Contains properties (property_of spec decl)
  pub ordered : IsStrictlySortedBy name_cmp properties
