-- The links that the positions below a term make, and what a list of links gains.
use Rattle.std.specs.Prelude.{◌≡◌, ℕ, ◌<◌, ◌⊎◌, ◌↔◌, Bool, false, List, ◌++◌, Some, Contains, get_or, slice_get}
use Rattle.flow_term.specs.declared.term.Term.{Term}
use Rattle.flow_term.specs.declared.graph.Point.{Point}
use Rattle.flow_term.specs.declared.graph.Link.{Link}
use Rattle.flow_term.specs.contracts.graph.LinkPartialEq.TheImpl as derived
use Rattle.flow_term.specs.Trees.{At, children}
use Rattle.flow_syntax.specs.declared.spec.Spec.{Spec}
use Rattle.flow_syntax.specs.Control.{entered_below, rule_for}
use Rattle.flow_syntax.specs.Graph.{LinksAt, below}

abbrev pub link : Point → Point → Link
link a b = record { from = a; to = b }

-- whether `==` finds two links the same
abbrev pub is_same_link : Link → Link → Bool
is_same_link = derived.ghosts.eq

-- The new list has the links of the old one and those of which P holds.
pub record Adds (old new : List Link) (P : Point → Point → Type 0) : Type 0 where
  pub each : (a b : Point) → Contains new (link a b) ↔ (Contains old (link a b) ⊎ P a b)

-- A link that a position at or below a term makes, where the term stands at this path.
pub record LinksBelow (spec : Spec) (entered : Bool) (t : Term) (path : List ℕ) (a b : Point) : Type 0 where
  pub rest : List ℕ
  pub u : Term
  pub position : At t rest ≡ Some u
  pub made : LinksAt (rule_for spec u) (entered_below spec entered t rest) u (path ++ rest) a b

-- A link that a position at or below one of the first n children makes, where the marks say which of them are entered.
pub record LinksInChildren (spec : Spec) (marks : List Bool) (t : Term) (path : List ℕ) (n : ℕ) (a b : Point) : Type 0 where
  pub k : ℕ
  pub first : k < n
  pub child : Term
  pub is : slice_get (children t) k ≡ Some child
  pub inside : LinksBelow spec (get_or marks k false) child (below path k) a b
