-- The control-flow graph of a tree: its links, nodes and edges.
use Rattle.std.specs.Prelude.{◌≡◌, ℕ, ◌+◌, ◌<◌, Bool, false, IsTrue, List, [], ◌∷◌, ◌++◌, length, Option, Some, option_map, Contains, slice_get}
use Rattle.std.specs.List.{AllByRecursion}
use Rattle.flow_term.specs.declared.term.Term.{Term}
use Rattle.flow_term.specs.declared.graph.Point.{Point}
use Rattle.flow_term.specs.declared.graph.Point.TheVariants as point
use Rattle.flow_term.specs.declared.graph.Node.{Node}
use Rattle.flow_term.specs.declared.graph.NodeKind.{NodeKind}
use Rattle.flow_term.specs.declared.graph.NodeKind.TheVariants as kind
use Rattle.flow_term.specs.Trees.{At, children}
use Rattle.flow_syntax.specs.declared.rule.FlowRule.{FlowRule}
use Rattle.flow_syntax.specs.declared.rule.Chain.{Chain}
use Rattle.flow_syntax.specs.declared.rule.Item.{Item}
use Rattle.flow_syntax.specs.declared.rule.ItemKind.{ItemKind}
use Rattle.flow_syntax.specs.declared.rule.ItemKind.TheVariants as item
use Rattle.flow_syntax.specs.declared.spec.Spec.{Spec}
use Rattle.flow_term.specs.Annotations.{term_layer}
use Rattle.flow_syntax.specs.Matching.{is_list}
use Rattle.flow_syntax.specs.Control.{argument, rule_for, entered_at, Counts, CountsBy}

-- the position of a child
abbrev pub below : List ℕ → ℕ → List ℕ
below path n = path ++ n ∷ []

-- the position of the child that the head of a rule at a position calls x
abbrev pub child_called : FlowRule → List ℕ → List ℕ → Option (List ℕ)
child_called rule path x = option_map (below path) (argument rule x)

-- the point of an item on the left of an arrow, for a rule at a position
abbrev pub leaving : FlowRule → List ℕ → ItemKind → Option Point
leaving rule path item.Entry = Some (point.In path)
leaving rule path item.Exit = Some (point.Out path)
leaving rule path item.Start = Some (point.Start path)
leaving rule path item.End = Some (point.End path)
leaving rule path item.This = Some (point.Node path)
leaving rule path (item.Whole x) = option_map point.Out (child_called rule path x)
leaving rule path (item.Single x) = option_map point.Node (child_called rule path x)

-- the same on the right of an arrow
abbrev pub arriving : FlowRule → List ℕ → ItemKind → Option Point
arriving rule path item.Entry = Some (point.In path)
arriving rule path item.Exit = Some (point.Out path)
arriving rule path item.Start = Some (point.Start path)
arriving rule path item.End = Some (point.End path)
arriving rule path item.This = Some (point.Node path)
arriving rule path (item.Whole x) = option_map point.In (child_called rule path x)
arriving rule path (item.Single x) = option_map point.Node (child_called rule path x)

-- Two items stand side by side in a list.
abbrev pub AreConsecutive : {X : Type 0} → List X → X → X → Type 0
AreConsecutive xs a b = (k : ℕ) × (slice_get xs k ≡ Some a) × (slice_get xs (k + 1) ≡ Some b)

-- A term is a list with this many items.
abbrev pub IsListOf : Term → ℕ → Type 0
IsListOf t n = IsTrue (is_list (term_layer t)) × (length (children t) ≡ n)

-- The links that a position makes, by its term, the rule that matches it, and whether the position is entered:
pub data LinksAt (matching : Option FlowRule) (entered : Bool) (t : Term) (path : List ℕ) (a b : Point) : Type 0 where
  -- between consecutive items of a chain of the rule, if the position counts
  in_chain : (rule : FlowRule) (chain : Chain) (left right : Item) → CountsBy matching entered rule → Contains rule.chains chain → AreConsecutive chain.items left right
      → leaving rule path left.kind ≡ Some a → arriving rule path right.kind ≡ Some b → LinksAt matching entered t path a b
  -- through an entered empty list
  through_empty : IsTrue entered → IsListOf t 0 → a ≡ point.In path → b ≡ point.Out path → LinksAt matching entered t path a b
  -- into the first item of an entered list
  into_first : (n : ℕ) → IsTrue entered → IsListOf t (n + 1) → a ≡ point.In path → b ≡ point.In (below path 0) → LinksAt matching entered t path a b
  -- out of each item of an entered list and into the next
  to_next : (n k : ℕ) → IsTrue entered → IsListOf t n → k + 1 < n → a ≡ point.Out (below path k) → b ≡ point.In (below path (k + 1)) → LinksAt matching entered t path a b
  -- out of the last item of an entered list
  from_last : (n : ℕ) → IsTrue entered → IsListOf t (n + 1) → a ≡ point.Out (below path n) → b ≡ point.Out path → LinksAt matching entered t path a b
  -- through every other entered position, unless it counts by a plain rule
  through_other : IsTrue entered → is_list (term_layer t) ≡ false → ((rule : FlowRule) → matching ≡ Some rule → IsTrue rule.root)
      → a ≡ point.In path → b ≡ point.Out path → LinksAt matching entered t path a b

-- A link of a tree is one that a position of it makes.
pub record IsLink (spec : Spec) (tree : Term) (a b : Point) : Type 0 where
  pub path : List ℕ
  pub t : Term
  pub position : At tree path ≡ Some t
  pub made : LinksAt (rule_for spec t) (entered_at spec tree path) t path a b

-- the point of a node
abbrev pub point_of_kind : NodeKind → List ℕ → Point
point_of_kind kind.Start path = point.Start path
point_of_kind kind.Node path = point.Node path
point_of_kind kind.End path = point.End path

abbrev pub point_of : Node → Point
point_of n = point_of_kind n.kind n.path

-- A node of a tree is a point that a chain of a counting rule names, other than `In` and `Out`.
pub record IsNode (spec : Spec) (tree : Term) (n : Node) : Type 0 where
  pub path : List ℕ
  pub rule : FlowRule
  pub counts : Counts spec tree path rule
  pub chain : Chain
  pub has_chain : Contains rule.chains chain
  pub it : Item
  pub has_item : Contains chain.items it
  pub named : leaving rule path it.kind ≡ Some (point_of n)

-- the points inside an edge are `In` and `Out` points
abbrev pub IsInner : Point → Type 0
IsInner (point.In path) = Unit {0}
IsInner (point.Out path) = Unit {0}
IsInner _ = ⊥

-- Each two consecutive points are a link.
abbrev pub IsLinked : Spec → Term → List Point → Type 0
IsLinked spec tree [] = Unit {0}
IsLinked spec tree (a ∷ []) = Unit {0}
IsLinked spec tree (a ∷ b ∷ points) = IsLink spec tree a b × IsLinked spec tree (b ∷ points)

-- An edge leads from a node to a node along a list of links whose inner points are `In` and `Out` points.
pub record IsEdge (spec : Spec) (tree : Term) (from to : Node) : Type 0 where
  pub inner : List Point
  pub passes : AllByRecursion IsInner inner
  pub linked : IsLinked spec tree (point_of from ∷ inner ++ point_of to ∷ [])
