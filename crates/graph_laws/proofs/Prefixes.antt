-- The owner of an edge stands at a common prefix of the paths of its nodes.
use Rattle.std.proofs.Common.{◌≡◌, ℕ, Bool, List, [], ◌∷◌, ◌++◌, sym, ap, ◌∙◌, inl, inr, append-nil}
use Rattle.flow_term.specs.declared.term.Term.{Term}
use Rattle.flow_term.specs.declared.graph.Point.{Point}
use Rattle.flow_term.specs.declared.graph.Point.TheVariants as point
use Rattle.flow_syntax.specs.declared.spec.Spec.{Spec}
use Rattle.flow_syntax.specs.Control.{rule_for}
use Rattle.flow_syntax.specs.Graph.{IsInner, below, point_of}
use Rattle.way_theory.specs.Ways.{Way, by_link, over}
use Rattle.way_theory.specs.Parts.{own_link, enter, leave, pass}
use Rattle.way_theory.proofs.PartLemmas.{way_at}
use Rattle.graph_laws.specs.Laws.{OwnersAreCommonPrefixes}
use Rattle.graph_laws.specs.Owners.{HasPlacedItems}
use Rattle.graph_laws.specs.Parts.{Exit, LinksOfChild, child_entry, child_exit, exit_at, own_links, own_steps}
use Rattle.graph_laws.proofs.Apart.{IsAtChild, IsNear, exit_path, links_near, parts_apart, path_of}
use Rattle.graph_laws.proofs.Nodes.{path_of_node}

-- a point of a position at or below a path
abbrev IsUnder : List ℕ → Point → Type 0
IsUnder path x = (rest : List ℕ) × (path_of x ≡ path ++ rest)

near_under : (path : List ℕ) (x : Point) → IsNear path x → IsUnder path x
near_under path x (inl e) = ([], e ∙ sym (append-nil path))
near_under path x (inr w) = (w.0 ∷ [], w.1)

child_under : (path : List ℕ) (k : ℕ) (x : Point) → IsAtChild path k x → IsUnder path x
child_under path k x w = (k ∷ w.0, w.1)

exit_under : (path : List ℕ) (k : ℕ) (e : Exit) (x : Point) → x ≡ child_exit path k e → IsUnder path x
exit_under path k e x is = (k ∷ [], ap path_of is ∙ exit_path (below path k) e)

module _ (spec : Spec) (placed : HasPlacedItems spec) (entered : Bool) (t : Term) (path : List ℕ) where
  in_child : (k : ℕ) (a b : Point) → Way IsInner (LinksOfChild spec entered t path k) a b → IsAtChild path k a × IsAtChild path k b
  in_child k a b w = way_at IsInner (own_links spec entered t path) (LinksOfChild spec entered t path) (point.In path) (exit_at path) (child_entry path) (child_exit path)
      (IsAtChild path) (parts_apart spec placed entered t path) k a b w

  step_under : (a b : Point) → own_steps spec entered t path a b → IsUnder path a × IsUnder path b
  step_under a b (own_link l) = let n = links_near (rule_for spec t) entered t path a b l in (near_under path a n.0, near_under path b n.1)
  step_under a b (enter k f n) = ((k ∷ [], ap path_of f), child_under path k b (in_child k (child_entry path k) b n.way).1)
  step_under a b (leave k e f n) = (child_under path k a (in_child k a (child_exit path k e) n.way).0, exit_under path k e b f)
  step_under a b (pass k e f g w) = ((k ∷ [], ap path_of f), exit_under path k e b g)

  steps_under : (a b : Point) → Way IsInner (own_steps spec entered t path) a b → IsUnder path a × IsUnder path b
  steps_under a _ (by_link b s) = step_under a b s
  steps_under a _ (over m b w i s) = ((steps_under a m w).0, (step_under m b s).1)

pub owners_prefix : OwnersAreCommonPrefixes
owners_prefix spec placed entered t path from to w =
    let u = steps_under spec placed entered t path (point_of from) (point_of to) w in
    ((u.0.0, sym (path_of_node from.kind from.path) ∙ u.0.1), (u.1.0, sym (path_of_node to.kind to.path) ∙ u.1.1))
