-- Which constraints and unknowns differ between two trees, as sentences.
use Rattle.std.specs.Prelude.{◌≡◌, ◌⊎◌, ℕ, List, Contains}
use Rattle.flow_term.specs.declared.graph.Edge.{Edge}
use Rattle.flow_term.specs.declared.graph.Node.{Node}
use Rattle.flow_term.specs.declared.term.Term.{Term}
use Rattle.flow_term.specs.Trees.{At}
use Rattle.flow_syntax.specs.declared.spec.Spec.{Spec}
use Rattle.flow_syntax.specs.Graph.{IsNode}
use Rattle.tree_constraints.specs.declared.constraint.Constraint.{Constraint}
use Rattle.tree_constraints.specs.declared.constraint.Key.{Key}
use Rattle.tree_constraints.specs.Constraints.{IsConstraint, IsKeyOf, IsUnknownOf}
use Rattle.tree_listing.specs.declared.property.Property.{Property}
use Rattle.tree_listing.specs.Given.{AreProperties}
use Rattle.tree_listing.specs.Listing.{listed_unknowns}
use Rattle.tree_changes.specs.Changes.{AreAround, IsGraphChange, IsMatchedAlike, IsOn, gone_around}
use Rattle.tree_changes.specs.Differences.{IsDifference}

-- a position with the same term is matched alike
abbrev pub SameTermsMatchAlike : Type 0
SameTermsMatchAlike = (spec : Spec) (old new : Term) (path : List ℕ) → At old path ≡ At new path → IsMatchedAlike spec old new path

-- each constraint is on the gone part of the graph, aims at a changed position, or is one of the new tree
abbrev pub OthersStay : Type 0
OthersStay = (spec : Spec) (old new : Term) (gone_nodes added_nodes : List Node) (gone_edges added_edges : List Edge) (changed : List (List ℕ)) → IsGraphChange spec old new gone_nodes added_nodes gone_edges added_edges changed
    → (c : Constraint) → IsConstraint spec old c → IsOn spec gone_nodes gone_edges c.key ⊎ (Contains changed c.key.target.node.path ⊎ IsConstraint spec new c)

-- what is on the gone part of the graph is no key of the new tree
abbrev pub WhatIsOnGoneIsGone : Type 0
WhatIsOnGoneIsGone = (spec : Spec) (old new : Term) (gone_nodes added_nodes : List Node) (gone_edges added_edges : List Edge) (changed : List (List ℕ)) → IsGraphChange spec old new gone_nodes added_nodes gone_edges added_edges changed
    → (k : Key) → IsOn spec gone_nodes gone_edges k → IsKeyOf spec new k → ⊥

-- the gone constraints are those on the gone part, and of those at changed positions the ones that the new tree hasn't
abbrev pub GoneByParts : Type 0
GoneByParts = (spec : Spec) (old new : Term) (gone_nodes added_nodes : List Node) (gone_edges added_edges : List Edge) (changed : List (List ℕ)) (on old_at new_at : List Constraint)
    → IsGraphChange spec old new gone_nodes added_nodes gone_edges added_edges changed → AreAround spec old new gone_nodes gone_edges changed on old_at new_at
    → IsDifference (IsConstraint spec old) (IsConstraint spec new) (gone_around on old_at new_at)

-- the unknowns that only one tree has are those at the nodes that only it has
abbrev pub UnknownsGoWithNodes : Type 0
UnknownsGoWithNodes = (spec : Spec) (old new : Term) (properties : List Property) (nodes : List Node) → AreProperties spec properties → IsDifference (IsNode spec old) (IsNode spec new) nodes
    → IsDifference (IsUnknownOf spec old) (IsUnknownOf spec new) (listed_unknowns properties nodes)
