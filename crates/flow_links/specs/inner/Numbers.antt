-- Points by their numbers, and links as arrows between numbers.
use Rattle.std.specs.Prelude.{◌≡◌, ℕ, ◌<◌, ◌⊎◌, ◌↔◌, Bool, List, [], ◌∷◌, ◌++◌, length, Some, Contains, slice_get}
use Rattle.flow_term.specs.declared.graph.Edge.{Edge}
use Rattle.flow_term.specs.declared.graph.Link.{Link}
use Rattle.flow_term.specs.declared.graph.Node.{Node}
use Rattle.flow_term.specs.declared.graph.Point.{Point}
use Rattle.flow_term.specs.contracts.graph.PointPartialEq.TheImpl as derived
use Rattle.flow_syntax.specs.Graph.{point_of}
use Rattle.flow_links.specs.Below.{link}
use Rattle.flow_links.specs.inner.Reach.{IsArrow, Leads}

-- A link of the list leads from the point with the number j to the point with the number k.
pub record IsLinkAt (links : List Link) (points : List Point) (j k : ℕ) : Type 0 where
  pub a : Point
  pub b : Point
  pub at_source : slice_get points j ≡ Some a
  pub at_target : slice_get points k ≡ Some b
  pub among : Contains links (link a b)

-- whether `==` finds two points the same
abbrev pub is_same_point : Point → Point → Bool
is_same_point = derived.ghosts.eq

-- No point has two numbers.
abbrev pub HasOwnNumbers : List Point → Type 0
HasOwnNumbers points = (i j : ℕ) (p : Point) → slice_get points i ≡ Some p → slice_get points j ≡ Some p → i ≡ j

-- The points of the links are numbered by their places, and the arrows are exactly the links.
pub record IsGraphOf (links : List Link) (points : List Point) (rows : List (List ℕ)) : Type 0 where
  pub own : HasOwnNumbers points
  pub sizes : length rows ≡ length points
  pub has : (x : Link) → Contains links x → Contains points x.from × Contains points x.to
  pub arrows : (j k : ℕ) → IsArrow rows j k ↔ IsLinkAt links points j k

-- A point has this number after it was asked for: it had it, or it is a last one, without arrows.
pub record IsNumbered (before : List Point) (rows_before : List (List ℕ)) (after : List Point) (rows_after : List (List ℕ)) (p : Point) (n : ℕ) : Type 0 where
  pub own : HasOwnNumbers after
  pub at : slice_get after n ≡ Some p
  pub either : ((after ≡ before) × (rows_after ≡ rows_before)) ⊎ ((after ≡ before ++ p ∷ []) × (rows_after ≡ rows_before ++ [] ∷ []))

-- The edge begins at the node with the number j, and arrows lead from there to its end.
pub record IsEdgeFrom (points : List Point) (rows : List (List ℕ)) (j : ℕ) (e : Edge) : Type 0 where
  pub at_source : slice_get points j ≡ Some (point_of e.from)
  pub k : ℕ
  pub at_target : slice_get points k ≡ Some (point_of e.to)
  pub leads : Leads points rows j k

-- The edge begins at a node with a number below n.
pub record IsEdgeBelow (points : List Point) (rows : List (List ℕ)) (n : ℕ) (e : Edge) : Type 0 where
  pub j : ℕ
  pub below : j < n
  pub edge : IsEdgeFrom points rows j e

-- The edge leads from the source to a node with one of these numbers.
pub record IsEdgeTo (points : List Point) (source : Node) (numbers : List ℕ) (e : Edge) : Type 0 where
  pub from : e.from ≡ source
  pub k : ℕ
  pub among : Contains numbers k
  pub at_target : slice_get points k ≡ Some (point_of e.to)
