-- The outer nodes of an entered position, which are its first or its last ones, by its shape.
use Rattle.std.specs.Prelude.{◌≡◌, ℕ, ◌+◌, ◌-◌, ◌<◌, ◌^◌, true, false, List, Option, Some, None, Contains, length, slice_get}
use Rattle.flow_term.specs.declared.graph.Node.{Node}
use Rattle.flow_term.specs.declared.graph.NodeKind.TheVariants as kind
use Rattle.flow_syntax.specs.Graph.{below}
use Rattle.path_tree.specs.declared.tree.PathTree.{PathTree}
use Rattle.path_tree.specs.Shapes.{PartAt, children_of}
use Rattle.rule_plans.specs.declared.stop.Stop.{Stop}
use Rattle.rule_plans.specs.declared.stop.Stop.TheVariants.{Entry, Start, End, This, ChildEntry, Child}
use Rattle.rule_plans.specs.Hops.{Leads}
use Rattle.graph_shape.specs.declared.kept.Kept.{Kept}
use Rattle.graph_shape.specs.declared.outer.Side.{Side}
use Rattle.graph_shape.specs.declared.outer.Side.TheVariants.{First, Last}
use Rattle.graph_shape.specs.declared.plans.Plans.{Plans}
use Rattle.graph_shape.specs.Shapes.{bits_of, summary_of, would_pass}
use Rattle.graph_shape.specs.Steps.{steps_for}

-- the node that a stop is at a position, if it is one
abbrev pub stop_node : List ℕ → Stop → Option Node
stop_node path Start = Some (record { path = path; kind = kind.Start })
stop_node path End = Some (record { path = path; kind = kind.End })
stop_node path This = Some (record { path = path; kind = kind.Node })
stop_node path (Child k) = Some (record { path = below path k; kind = kind.Node })
stop_node path _ = None

-- the number of the item of n that comes k-th, from the front or from the back
abbrev pub item_at : Side → ℕ → ℕ → ℕ
item_at First n k = k
item_at Last n k = n - (k + 1)

-- the items that come before the k-th would be passed
abbrev pub ArePassedBefore : Side → List (PathTree Kept) → ℕ → Type 0
ArePassedBefore side ss k = (j : ℕ) (d : PathTree Kept) → j < k → slice_get ss (item_at side (length ss) j) ≡ Some d → would_pass d ≡ true

-- The outer nodes of an entered position: at a stop that its entry reaches, of a child whose entry its entry reaches,
-- and, in a list, of an item before which all would be passed. On the side of last nodes the plans are turned round, and items come from the back.
pub data IsOuterIn (plans : Plans) (side : Side) (n : Node) : PathTree Kept → List ℕ → Type 0 where
  at_stop : (s : PathTree Kept) (path : List ℕ) (u : Stop) → (summary_of s).list ≡ false → Leads (steps_for plans (summary_of s).rule) (bits_of (children_of s)) Entry u → stop_node path u ≡ Some n → IsOuterIn plans side n s path
  at_child : (s : PathTree Kept) (path : List ℕ) (k : ℕ) (c : PathTree Kept) → (summary_of s).list ≡ false → Leads (steps_for plans (summary_of s).rule) (bits_of (children_of s)) Entry (ChildEntry k)
      → slice_get (children_of s) k ≡ Some c → IsOuterIn plans side n c (below path k) → IsOuterIn plans side n s path
  at_item : (s : PathTree Kept) (path : List ℕ) (k : ℕ) (c : PathTree Kept) → (summary_of s).list ≡ true → k < length (children_of s) → ArePassedBefore side (children_of s) k
      → slice_get (children_of s) (item_at side (length (children_of s)) k) ≡ Some c → IsOuterIn plans side n c (below path (item_at side (length (children_of s)) k)) → IsOuterIn plans side n s path

-- An outer node of the child with this number.
pub record IsOuterOfChild (plans : Plans) (side : Side) (ss : List (PathTree Kept)) (path : List ℕ) (k : ℕ) (n : Node) : Type 0 where
  pub child : PathTree Kept
  pub at : slice_get ss k ≡ Some child
  pub outer : IsOuterIn plans side n child (below path k)

-- A node at a stop, or an outer node of the child whose entry the stop is.
pub data IsOpenedAt (plans : Plans) (side : Side) (ss : List (PathTree Kept)) (path : List ℕ) (u : Stop) (n : Node) : Type 0 where
  node_there : stop_node path u ≡ Some n → IsOpenedAt plans side ss path u n
  child_there : (k : ℕ) → u ≡ ChildEntry k → IsOuterOfChild plans side ss path k n → IsOpenedAt plans side ss path u n

pub record IsOpened (plans : Plans) (side : Side) (ss : List (PathTree Kept)) (path : List ℕ) (stops : List Stop) (n : Node) : Type 0 where
  pub stop : Stop
  pub among : Contains stops stop
  pub opens : IsOpenedAt plans side ss path stop n

-- An outer node of one of the m items that come first, where all before it would be passed.
pub record IsOuterOfItems (plans : Plans) (side : Side) (ss : List (PathTree Kept)) (path : List ℕ) (m : ℕ) (n : Node) : Type 0 where
  pub k : ℕ
  pub before : k < m
  pub passed : ArePassedBefore side ss k
  pub outer : IsOuterOfChild plans side ss path (item_at side (length ss) k) n

-- no position has more than 2^32 children
abbrev pub HasFewChildren : PathTree Kept → Type 0
HasFewChildren s = (rest : List ℕ) (part : PathTree Kept) → PartAt s rest ≡ Some part → length (children_of part) < 2 ^ 32

abbrev pub HaveFewChildren : List (PathTree Kept) → Type 0
HaveFewChildren ss = (k : ℕ) (s : PathTree Kept) → slice_get ss k ≡ Some s → HasFewChildren s
