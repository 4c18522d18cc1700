-- What a position makes, and what it knows of its children.
use Rattle.std.specs.Prelude.{◌≡◌, ℕ, Bool, List, Some, slice_get}
use Rattle.flow_term.specs.declared.term.Term.{Term}
use Rattle.flow_term.specs.declared.graph.Node.{Node}
use Rattle.flow_term.specs.declared.graph.Point.{Point}
use Rattle.flow_term.specs.declared.graph.Point.TheVariants as point
use Rattle.flow_term.specs.Trees.{children}
use Rattle.flow_syntax.specs.declared.spec.Spec.{Spec}
use Rattle.flow_syntax.specs.Control.{enters_child, rule_for}
use Rattle.flow_syntax.specs.Graph.{below, IsInner, LinksAt, point_of}
use Rattle.flow_links.specs.Below.{LinksBelow}
use Rattle.way_theory.specs.Ways.{Way}
use Rattle.way_theory.specs.Parts.{IsFirst, IsLast, Passes, Step}

-- the labels of the exits of a position: there is the way onward alone
pub data Exit : Type 0 where
  onward : Exit

-- the point by which a position is left with a label
abbrev pub exit_at : List ℕ → Exit → Point
exit_at path onward = point.Out path

-- ** of the position itself

module _ (spec : Spec) (entered : Bool) (t : Term) (path : List ℕ) where
  -- The node is a first one of the position: a way leads to it from the entry.
  abbrev pub HasFirst : Node → Type 0
  HasFirst n = Way IsInner (LinksBelow spec entered t path) (point.In path) (point_of n)

  -- The node is a last one before this exit.
  abbrev pub HasLast : Exit → Node → Type 0
  HasLast e n = Way IsInner (LinksBelow spec entered t path) (point_of n) (exit_at path e)

  -- The position is passed from its entry to this exit without a node.
  abbrev pub IsPassed : Exit → Type 0
  IsPassed e = Way IsInner (LinksBelow spec entered t path) (point.In path) (exit_at path e)

-- ** of its children

-- A link that a position at or below the child with this number makes.
pub record LinksOfChild (spec : Spec) (entered : Bool) (t : Term) (path : List ℕ) (k : ℕ) (a b : Point) : Type 0 where
  pub child : Term
  pub is : slice_get (children t) k ≡ Some child
  pub links : LinksBelow spec (enters_child (rule_for spec t) entered t k) child (below path k) a b

abbrev pub child_entry : List ℕ → ℕ → Point
child_entry path k = point.In (below path k)

abbrev pub child_exit : List ℕ → ℕ → Exit → Point
child_exit path k e = exit_at (below path k) e

module _ (spec : Spec) (entered : Bool) (t : Term) (path : List ℕ) where
  -- the links that the position makes
  abbrev pub own_links : Point → Point → Type 0
  own_links = LinksAt (rule_for spec t) entered t path

  -- the first and last nodes of a child, and to which exits control passes it without one
  abbrev pub child_first : ℕ → Point → Type 0
  child_first = IsFirst IsInner (LinksOfChild spec entered t path) (child_entry path)

  abbrev pub child_last : ℕ → Exit → Point → Type 0
  child_last = IsLast IsInner (LinksOfChild spec entered t path) (child_exit path)

  abbrev pub child_passes : ℕ → Exit → Type 0
  child_passes = Passes IsInner (LinksOfChild spec entered t path) (child_entry path) (child_exit path)

  -- the steps of a position that knows no more of its children
  abbrev pub own_steps : Point → Point → Type 0
  own_steps = Step own_links (child_entry path) (child_exit path) child_first child_last child_passes
