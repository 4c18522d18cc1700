-- The lists of a shape are as long as those of its term.
use Rattle.std.proofs.Common.{◌≡◌, ℕ, ◌<◌, ◌^◌, List, [], ◌∷◌, length, Option, Some, None, refl, sym, subst, ◌∙◌, arith}
use Rattle.std.specs.Prelude.{slice_get, option_and_then}
use Rattle.std.proofs.lemmas.Option.{same_Some, slice_get_within, get_or_from_slice_get}
use Rattle.flow_term.specs.declared.term.Term.{Term}
use Rattle.flow_term.specs.Trees.{children, term_size}
use Rattle.flow_syntax.specs.declared.spec.Spec.{Spec}
use Rattle.flow_links.proofs.SizeLemmas.{child_smaller, few_children}
use Rattle.path_tree.specs.declared.tree.PathTree.{PathTree}
use Rattle.path_tree.specs.Shapes.{PartAt, children_of}
use Rattle.graph_shape.specs.declared.kept.Kept.{Kept}
use Rattle.graph_shape.specs.Outer.{HasFewChildren}
use Rattle.graph_shape.specs.Shapes.{IsShapeOf}
use Rattle.graph_shape.proofs.ChildBits.{got_child}
use Rattle.graph_shape.proofs.ShapeParts.{shapes_of}

few_at : (spec : Spec) (rest : List ℕ) (t : Term) (s part : PathTree Kept) → IsShapeOf spec t s → term_size t < 2 ^ 32 → PartAt s rest ≡ Some part → length (children_of part) < 2 ^ 32
few_at spec [] t s part shape small at =
    let count : length (children_of s) ≡ length (children t) = (shapes_of spec t s shape).count in
    subst (λ (x : PathTree Kept). length (children_of x) < 2 ^ 32) (same_Some s part at) (omega (arith, count, few_children t, small))
few_at spec (k ∷ rest) t s part shape small at = by (slice_get (children_of s) k) refl at (λ child c sub less h. few_at spec rest child c part sub less h)
  where
    by : (o : Option (PathTree Kept)) → slice_get (children_of s) k ≡ o → option_and_then (λ (c : PathTree Kept). PartAt c rest) o ≡ Some part
        → ((child : Term) (c : PathTree Kept) → IsShapeOf spec child c → term_size child < 2 ^ 32 → PartAt c rest ≡ Some part → length (children_of part) < 2 ^ 32) → length (children_of part) < 2 ^ 32
    by None is h inner = cc
    by (Some c) is h inner =
        let shapes = shapes_of spec t s shape in
        let u = got_child (children t) (children_of s) k c shapes.count is in
        let p = shapes.each k u.0 u.1 in
        let less : term_size u.0 < term_size t = child_smaller t (children t) k u.0 refl (slice_get_within (children t) k u.0 u.1) (sym (get_or_from_slice_get (children t) k u.0 u.0 u.1)) in
        inner u.0 c (subst (λ (x : PathTree Kept). IsShapeOf spec u.0 x) (same_Some p.shape c (sym p.at ∙ is)) p.is) (omega (arith, less, small)) h

-- A small term's shape has few children everywhere.
pub few_children_of : (spec : Spec) (t : Term) (s : PathTree Kept) → IsShapeOf spec t s → term_size t < 2 ^ 32 → HasFewChildren s
few_children_of spec t s shape small rest part at = few_at spec rest t s part shape small at
