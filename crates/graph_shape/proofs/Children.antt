-- The children of a position by their paths, and the items of a list.
use Rattle.std.proofs.Common.{◌≡◌, ◌↔◌, ℕ, true, List, [], ◌∷◌, IsTrue, length, refl, ap, arith, length-append}
use Rattle.std.specs.Prelude.{None}
use Rattle.flow_term.specs.declared.term.Term.{Term}
use Rattle.flow_term.specs.declared.graph.Node.{Node}
use Rattle.flow_term.specs.Annotations.{term_layer}
use Rattle.flow_term.specs.Trees.{children}
use Rattle.flow_syntax.specs.declared.spec.Spec.{Spec}
use Rattle.flow_syntax.specs.Control.{rule_for}
use Rattle.flow_syntax.specs.Graph.{below, point_of}
use Rattle.flow_syntax.specs.Matching.{is_list}
use Rattle.way_theory.specs.Lists.{ArePassed, IsFirstFrom, IsLastBefore, IsPassedFrom, onward_through, out_at}
use Rattle.graph_laws.specs.Owners.{HasPlacedItems}
use Rattle.graph_laws.specs.Parts.{onward, HasFirst, HasLast, IsPassed, child_first, child_last, child_passes}
use Rattle.graph_laws.proofs.Apart.{cancel}
use Rattle.graph_laws.proofs.ListPositions.{lists_known}

-- a child stands elsewhere than its parent, and than another child
pub never_child : (path : List ℕ) (k : ℕ) → ¬ (path ≡ below path k)
never_child path k h = absurd (omega (arith, ap length h, length-append path (k ∷ [])))

pub same_child : (path : List ℕ) (j k : ℕ) → below path j ≡ below path k → j ≡ k
same_child path j k h = let e : j ∷ [] ≡ k ∷ [] = cancel path (j ∷ []) (k ∷ []) h in cc

module _ (spec : Spec) (placed : HasPlacedItems spec) (t : Term) (path : List ℕ) (of_list : IsTrue (is_list (term_layer t))) (no_rule : rule_for spec t ≡ None) where
  -- the first nodes of an entered list are those of an item before which all are passed
  pub list_firsts : (n : Node) → HasFirst spec true t path n ↔ IsFirstFrom onward (length (children t)) (child_first spec true t path) (child_passes spec true t path) 0 (point_of n)
  list_firsts n = (lists_known spec placed t path of_list no_rule).first n

  -- its last nodes are those of an item behind which all are passed
  pub list_lasts : (n : Node) → HasLast spec true t path onward n ↔ IsLastBefore onward (length (children t)) (child_last spec true t path) (child_passes spec true t path) onward (point_of n)
  list_lasts n = (lists_known spec placed t path of_list no_rule).last onward n

  -- it is passed where all its items are
  pub list_passed : IsPassed spec true t path onward ↔ ArePassed onward (child_passes spec true t path) 0 (length (children t))
  list_passed = let both = (lists_known spec placed t path of_list no_rule).passes onward in (λ w. all (both.0 w), λ p. both.1 (onward_through refl p))
    where
      all : IsPassedFrom onward (length (children t)) (child_passes spec true t path) 0 onward → ArePassed onward (child_passes spec true t path) 0 (length (children t))
      all (onward_through e p) = p
      all (out_at k other from within passed p) = absurd (other refl)
