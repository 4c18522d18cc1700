-- Ways in a graph of numbered points.
use Rattle.std.specs.Prelude.{◌≡◌, ℕ, List, [], Some, Contains, slice_get, unwrap_or}
use Rattle.flow_term.specs.declared.graph.Point.{Point}
use Rattle.flow_syntax.specs.Graph.{IsInner}
use Rattle.way_theory.specs.Ways.{Way}

-- the successors of a number, where each row lists those of its own number
abbrev pub row : List (List ℕ) → ℕ → List ℕ
row rows j = unwrap_or (slice_get rows j) []

-- An arrow leads from a number to another.
abbrev pub IsArrow : List (List ℕ) → ℕ → ℕ → Type 0
IsArrow rows j k = Contains (row rows j) k

-- The point with this number is an `In` or an `Out` point.
pub record IsInnerAt (points : List Point) (k : ℕ) : Type 0 where
  pub p : Point
  pub at : slice_get points k ≡ Some p
  pub inner : IsInner p

-- one or more arrows lead from a number to another, and all numbers between are those of `In` and `Out` points
abbrev pub Leads : List Point → List (List ℕ) → ℕ → ℕ → Type 0
Leads points rows = Way (IsInnerAt points) (IsArrow rows)
