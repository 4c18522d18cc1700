-- A shape after a replacement.
use Rattle.std.specs.Prelude.{◌≡◌, ℕ, List, [], ◌∷◌, Some, slice_get, slice_set, option_map, unwrap_or}
use Rattle.flow_term.specs.declared.term.Term.{Term}
use Rattle.flow_term.specs.Trees.{Put, children}
use Rattle.flow_syntax.specs.declared.spec.Spec.{Spec}
use Rattle.path_tree.specs.declared.tree.PathTree.{PathTree, roll-PathTree}
use Rattle.path_tree.specs.Shapes.{children_of, value_of}
use Rattle.graph_shape.specs.declared.kept.Kept.{Kept}
use Rattle.graph_shape.specs.declared.kept.Summary.{Summary}
use Rattle.graph_shape.specs.Shapes.{IsSummaryOf}

-- the shape in which the part at the path is the new one, and the positions above it have these summaries, from the root on; what matches above stays
abbrev pub PutShape : PathTree Kept → List ℕ → List Summary → PathTree Kept → PathTree Kept
PutShape s [] vs n = n
PutShape s (k ∷ path) [] n = s
PutShape s (k ∷ path) (v ∷ vs) n = roll-PathTree Kept (record { value = record (value_of s) { summary = v }; children = unwrap_or (option_map (λ c. slice_set (children_of s) k (PutShape c path vs n)) (slice_get (children_of s) k)) (children_of s) })

-- the summaries of the positions above a replacement
abbrev pub AreSummaries : Spec → Term → List ℕ → Term → List Summary → Type 0
AreSummaries spec t [] new vs = Unit {0}
AreSummaries spec t (k ∷ path) new [] = ⊥
AreSummaries spec t (k ∷ path) new (v ∷ vs) = IsSummaryOf spec (Put t (k ∷ path) new) v × ((child : Term) → slice_get (children t) k ≡ Some child → AreSummaries spec child path new vs)
