-- The edges of the positions at and below a term, by its shape.
use Rattle.std.specs.Prelude.{◌≡◌, ℕ, ◌==◌, Bool, true, false, ◌&&◌, ◌||◌, List, Option, Some, None, cond, get_or, slice_get}
use Rattle.std.specs.List.{list_any}
use Rattle.flow_term.specs.declared.graph.Edge.{Edge}
use Rattle.flow_syntax.specs.Graph.{below}
use Rattle.path_tree.specs.declared.tree.PathTree.{PathTree}
use Rattle.path_tree.specs.Shapes.{children_of}
use Rattle.rule_plans.specs.declared.stop.Stop.{Stop}
use Rattle.rule_plans.specs.declared.stop.Stop.TheVariants.{ChildEntry, ChildExit}
use Rattle.rule_plans.specs.declared.stop.Step.{Step}
use Rattle.graph_shape.specs.declared.kept.Kept.{Kept}
use Rattle.graph_shape.specs.Shapes.{summary_of}
use Rattle.graph_shape.specs.Steps.{steps_for}
use Rattle.graph_edges.specs.declared.plans.BothPlans.{BothPlans}
use Rattle.graph_edges.specs.Owned.{IsOwnedIn}

-- whether the rule with this number is a root rule
abbrev pub is_root : List Bool → Option ℕ → Bool
is_root roots None = false
is_root roots (Some n) = get_or roots n false

-- whether a position counts: it is entered, or a root rule matches it
abbrev pub counts : BothPlans → Bool → PathTree Kept → Bool
counts plans entered s = is_root plans.roots (summary_of s).rule || entered

-- whether a stop is the entry, or the exit, of the child with this number
abbrev pub is_entry_of : ℕ → Stop → Bool
is_entry_of k (ChildEntry j) = j == k
is_entry_of k _ = false

abbrev pub is_exit_of : ℕ → Stop → Bool
is_exit_of k (ChildExit j) = j == k
is_exit_of k _ = false

-- whether a step leads into the child, or out of it
abbrev pub touches : ℕ → Step → Bool
touches k step = is_entry_of k step.to || is_exit_of k step.from

-- whether the child with this number is entered: each of an entered list; of another position that counts, where a step leads into it or out of it
abbrev pub enters_part : BothPlans → Bool → PathTree Kept → ℕ → Bool
enters_part plans entered s k = cond (summary_of s).list entered (counts plans entered s && list_any (touches k) (steps_for plans.forth (summary_of s).rule))

-- The edges of the positions at and below a term: of the position itself, if it counts, and of those at and below its children.
pub data IsEdgeBelow (plans : BothPlans) (e : Edge) : Bool → PathTree Kept → List ℕ → Type 0 where
  here : (entered : Bool) (s : PathTree Kept) (path : List ℕ) → counts plans entered s ≡ true → IsOwnedIn plans s path e → IsEdgeBelow plans e entered s path
  in_child : (entered : Bool) (s : PathTree Kept) (path : List ℕ) (k : ℕ) (c : PathTree Kept) → slice_get (children_of s) k ≡ Some c → IsEdgeBelow plans e (enters_part plans entered s k) c (below path k) → IsEdgeBelow plans e entered s path
