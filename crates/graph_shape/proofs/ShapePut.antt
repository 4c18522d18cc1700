-- The shape after a replacement is that of the tree after it.
use Rattle.std.proofs.Common.{◌≡◌, ℕ, zero, suc, ◌==◌, Bool, true, false, List, [], ◌∷◌, length, Option, Some, None, refl, sym, ap, subst, ◌∙◌}
use Rattle.std.specs.Prelude.{slice_get, slice_set, option_map, option_and_then, unwrap_or}
use Rattle.std.proofs.lemmas.Option.{same_Some}
use Rattle.std.proofs.lemmas.Bool.{eqb-true, eqb-false}
use Rattle.flow_term.specs.declared.term.Term.{Term}
use Rattle.flow_term.specs.Trees.{At, Put, children, with_children}
use Rattle.flow_syntax.specs.declared.spec.Spec.{Spec}
use Rattle.path_tree.specs.declared.tree.PathTree.{PathTree}
use Rattle.path_tree.specs.Shapes.{children_of, value_of}
use Rattle.graph_laws.proofs.Replaced.{children_replaced, get_set_other, get_set_same}
use Rattle.graph_shape.specs.declared.kept.Kept.{Kept}
use Rattle.graph_shape.specs.declared.kept.Summary.{Summary}
use Rattle.graph_shape.specs.Shapes.{AreShapesOf, IsSummaryOf, IsShapeAt, IsShapeOf}
use Rattle.graph_shape.specs.Replaced.{AreSummaries, PutShape}
use Rattle.graph_shape.proofs.ShapeParts.{rolled, shapes_of}

len_set : {X : Type 0} (xs : List X) (n : ℕ) (x : X) → length (slice_set xs n x) ≡ length xs
len_set [] n x = refl
len_set (y ∷ xs) zero x = refl
len_set (y ∷ xs) (suc n) x = ap suc (len_set xs n x)

module _ (spec : Spec) where
  -- one child's shape after another
  pub shapes_set : (ts : List Term) (ss : List (PathTree Kept)) (k : ℕ) (u v : Term) (s r : PathTree Kept) → slice_get ts k ≡ Some v → slice_get ss k ≡ Some r → AreShapesOf spec ts ss → IsShapeOf spec u s
      → AreShapesOf spec (slice_set ts k u) (slice_set ss k s)
  shapes_set ts ss k u v s r there here are shape = record {
    count = len_set ss k s ∙ are.count ∙ sym (len_set ts k u);
    each = λ j t at. by j t (j == k) refl at;
  }
    where
      by : (j : ℕ) (t : Term) (b : Bool) → (j == k) ≡ b → slice_get (slice_set ts k u) j ≡ Some t → IsShapeAt spec t (slice_set ss k s) j
      by j t true e at =
          let same : j ≡ k = eqb-true j k e in
          let term : u ≡ t = same_Some u t (sym (get_set_same ts k v u there) ∙ ap (slice_get (slice_set ts k u)) (sym same) ∙ at) in
          record { shape = s; at = ap (slice_get (slice_set ss k s)) same ∙ get_set_same ss k r s here; is = subst (λ (x : Term). IsShapeOf spec x s) term shape }
      by j t false e at =
          let c = are.each j t (sym (get_set_other ts k j u (eqb-false j k e)) ∙ at) in
          record { shape = c.shape; at = get_set_other ss k j s (eqb-false j k e) ∙ c.at; is = c.is }

  child_set : (t : Term) (k : ℕ) (u : Term) → children (with_children t (slice_set (children t) k u)) ≡ slice_set (children t) k u
  child_set t k u = children_replaced t k u

  one_down : (t : Term) (s : PathTree Kept) (k : ℕ) (path : List ℕ) (v : Summary) (vs : List Summary) (new : Term) (n : PathTree Kept) → IsShapeOf spec t s → IsSummaryOf spec (Put t (k ∷ path) new) v
      → (child : Term) → slice_get (children t) k ≡ Some child → ((c : PathTree Kept) → IsShapeOf spec child c → IsShapeOf spec (Put child path new) (PutShape c path vs n))
      → IsShapeOf spec (Put t (k ∷ path) new) (PutShape s (k ∷ path) (v ∷ vs) n)
  one_down t s k path v vs new n shape kept child is inner =
      let shapes = shapes_of spec t s shape in
      let c = shapes.each k child is in
      let put : Put t (k ∷ path) new ≡ with_children t (slice_set (children t) k (Put child path new)) =
      ap (λ (o : Option Term). unwrap_or (option_map (λ x. with_children t (slice_set (children t) k (Put x path new))) o) t) is in
      let list : unwrap_or (option_map (λ x. slice_set (children_of s) k (PutShape x path vs n)) (slice_get (children_of s) k)) (children_of s) ≡ slice_set (children_of s) k (PutShape c.shape path vs n) =
      ap (λ (o : Option (PathTree Kept)). unwrap_or (option_map (λ x. slice_set (children_of s) k (PutShape x path vs n)) o) (children_of s)) c.at in
      let parts_are : AreShapesOf spec (slice_set (children t) k (Put child path new)) (slice_set (children_of s) k (PutShape c.shape path vs n)) =
      shapes_set (children t) (children_of s) k (Put child path new) child (PutShape c.shape path vs n) c.shape is c.at shapes (inner c.shape c.is) in
      rolled spec (Put t (k ∷ path) new) (record (value_of s) { summary = v }) _ kept
      (subst (λ (x : List (PathTree Kept)). AreShapesOf spec (children (Put t (k ∷ path) new)) x) (sym list)
      (subst (λ (x : List Term). AreShapesOf spec x (slice_set (children_of s) k (PutShape c.shape path vs n))) (sym (ap children put ∙ child_set t k (Put child path new))) parts_are))

  found : (t : Term) (k : ℕ) (path : List ℕ) (old : Term) (o : Option Term) → slice_get (children t) k ≡ o → option_and_then (λ c. At c path) o ≡ Some old → (child : Term) × (slice_get (children t) k ≡ Some child) × (At child path ≡ Some old)
  found t k path old None is h = cc
  found t k path old (Some child) is h = (child, is, h)

  -- the shape after a replacement
  pub shape_put : (path : List ℕ) (t : Term) (s : PathTree Kept) (vs : List Summary) (old new : Term) (n : PathTree Kept) → IsShapeOf spec t s → At t path ≡ Some old → AreSummaries spec t path new vs → IsShapeOf spec new n
      → IsShapeOf spec (Put t path new) (PutShape s path vs n)
  shape_put [] t s vs old new n shape at records is = is
  shape_put (k ∷ path) t s [] old new n shape at records is = absurd records
  shape_put (k ∷ path) t s (v ∷ vs) old new n shape at records is =
      let f = found t k path old (slice_get (children t) k) refl at in
      one_down t s k path v vs new n shape records.0 f.0 f.1 (λ c sub. shape_put path f.0 c vs old new n sub f.2 (records.1 f.0 f.1) is)
