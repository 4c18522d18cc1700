-- Shapes from the shapes of the children, and back.
use Rattle.std.proofs.Common.{◌≡◌, ℕ, List, [], ◌∷◌, length, Option, Some, None, refl, sym, ap, subst, ◌∙◌}
use Rattle.std.specs.Prelude.{slice_get, option_and_then}
use Rattle.std.proofs.lemmas.Option.{same_Some}
use Rattle.flow_term.specs.declared.term.Term.{Term}
use Rattle.flow_term.specs.Trees.{At, children}
use Rattle.flow_syntax.specs.declared.spec.Spec.{Spec}
use Rattle.path_tree.specs.declared.tree.PathTree.{PathTree, roll-PathTree, out-roll-PathTree}
use Rattle.path_tree.specs.Shapes.{PartAt, children_of, value_of}
use Rattle.graph_shape.specs.declared.kept.Kept.{Kept}
use Rattle.graph_shape.specs.Shapes.{AreShapesOf, IsSummaryOf, IsPartOf, IsShapeOf, summary_of}

module _ (spec : Spec) where
  -- a shape from what is kept of the position and the shapes of the children
  pub shape_from : (t : Term) (s : PathTree Kept) → IsSummaryOf spec t (summary_of s) → AreShapesOf spec (children t) (children_of s) → IsShapeOf spec t s
  shape_from t s kept parts = record { each = λ rest u at. by rest u at }
    where
      below_at : (k : ℕ) (rest : List ℕ) (u : Term) (o : Option Term) → slice_get (children t) k ≡ o → option_and_then (λ child. At child rest) o ≡ Some u → IsPartOf spec u s (k ∷ rest)
      below_at k rest u None is at = cc
      below_at k rest u (Some child) is at =
          let c = parts.each k child is in
          let p = c.is.each rest u at in
          record { part = p.part; at = ap (option_and_then (λ (x : PathTree Kept). PartAt x rest)) c.at ∙ p.at; kept = p.kept; count = p.count }

      by : (rest : List ℕ) (u : Term) → At t rest ≡ Some u → IsPartOf spec u s rest
      by [] u at =
          let same : t ≡ u = same_Some t u at in
          record { part = s; at = refl; kept = subst (λ (x : Term). IsSummaryOf spec x (summary_of s)) same kept; count = parts.count ∙ ap (λ (x : Term). length (children x)) same }
      by (k ∷ rest) u at = below_at k rest u (slice_get (children t) k) refl at

  here : (t : Term) (s : PathTree Kept) → IsShapeOf spec t s → IsPartOf spec t s []
  here t s shape = shape.each [] t refl

  -- what is kept of the position itself
  pub kept_of : (t : Term) (s : PathTree Kept) → IsShapeOf spec t s → IsSummaryOf spec t (summary_of s)
  kept_of t s shape = let p = here t s shape in subst (λ (x : PathTree Kept). IsSummaryOf spec t (summary_of x)) (sym (same_Some s p.part p.at)) p.kept

  part_at : (s : PathTree Kept) (k : ℕ) (part : PathTree Kept) (o : Option (PathTree Kept)) → slice_get (children_of s) k ≡ o → option_and_then (λ (c : PathTree Kept). Some c) o ≡ Some part → slice_get (children_of s) k ≡ Some part
  part_at s k part None is h = cc
  part_at s k part (Some c) is h = is ∙ h

  -- and the shapes of the children
  pub shapes_of : (t : Term) (s : PathTree Kept) → IsShapeOf spec t s → AreShapesOf spec (children t) (children_of s)
  shapes_of t s shape = record {
    count = (let p = here t s shape in subst (λ (x : PathTree Kept). length (children_of x) ≡ length (children t)) (sym (same_Some s p.part p.at)) p.count);
    each = λ k child is.
        let p = shape.each (k ∷ []) child (ap (option_and_then (λ (x : Term). Some x)) is) in
        let found : slice_get (children_of s) k ≡ Some p.part = part_at s k p.part (slice_get (children_of s) k) refl p.at in
        record {
          shape = p.part;
          at = found;
          is = record { each = λ rest u at. below_part k child p.part is found rest u at };
        };
  }
    where
      below_part : (k : ℕ) (child : Term) (part : PathTree Kept) → slice_get (children t) k ≡ Some child → slice_get (children_of s) k ≡ Some part → (rest : List ℕ) (u : Term) → At child rest ≡ Some u → IsPartOf spec u part rest
      below_part k child part is found rest u at =
          let q = shape.each (k ∷ rest) u (ap (option_and_then (λ (x : Term). At x rest)) is ∙ at) in
          record { part = q.part; at = sym (ap (option_and_then (λ (x : PathTree Kept). PartAt x rest)) found) ∙ q.at; kept = q.kept; count = q.count }

  -- a shape that was just put together
  pub rolled : (t : Term) (k : Kept) (ss : List (PathTree Kept)) → IsSummaryOf spec t k.summary → AreShapesOf spec (children t) ss → IsShapeOf spec t (roll-PathTree Kept (record { value = k; children = ss }))
  rolled t k ss kept parts =
      let s : PathTree Kept = roll-PathTree Kept (record { value = k; children = ss }) in
      let e = out-roll-PathTree Kept (record { value = k; children = ss }) in
      let value : k ≡ value_of s = sym (cc (e)) in
      let below : ss ≡ children_of s = sym (cc (e)) in
      shape_from t s
      (subst (λ (x : Kept). IsSummaryOf spec t x.summary) value kept)
      (subst (λ (x : List (PathTree Kept)). AreShapesOf spec (children t) x) below parts)
