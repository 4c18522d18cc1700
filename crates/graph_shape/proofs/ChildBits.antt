-- Whether a position is passed, by what is kept of its children.
use Rattle.std.proofs.Common.{◌≡◌, ◌↔◌, ℕ, zero, suc, Bool, true, IsTrue, List, [], ◌∷◌, length, map, Some, refl, sym, ap, subst, ◌∙◌, arith}
use Rattle.std.specs.Prelude.{slice_get}
use Rattle.std.proofs.lemmas.Option.{same_Some}
use Rattle.flow_term.specs.declared.term.Term.{Term}
use Rattle.flow_term.specs.declared.graph.Point.TheVariants as point
use Rattle.flow_term.specs.Trees.{children}
use Rattle.flow_syntax.specs.declared.spec.Spec.{Spec}
use Rattle.flow_syntax.specs.Control.{enters_child, rule_for}
use Rattle.flow_syntax.specs.Graph.{IsInner, below}
use Rattle.flow_links.specs.Below.{LinksBelow}
use Rattle.path_tree.specs.declared.tree.PathTree.{PathTree}
use Rattle.rule_plans.specs.Hops.{IsPassed}
use Rattle.way_theory.specs.Ways.{Way}
use Rattle.graph_laws.specs.Owners.{HasPlacedItems}
use Rattle.graph_laws.specs.Parts.{onward, child_entry, child_exit, child_passes}
use Rattle.graph_laws.proofs.Wholes.{of_child, there}
use Rattle.graph_shape.specs.declared.kept.Kept.{Kept}
use Rattle.graph_shape.specs.Shapes.{AreShapesOf, IsShapeOf, bits_of, would_pass}
use Rattle.graph_shape.proofs.ShapeParts.{kept_of}

pub get_map : {X Y : Type 0} (f : X → Y) (xs : List X) (k : ℕ) (x : X) → slice_get xs k ≡ Some x → slice_get (map f xs) k ≡ Some (f x)
get_map f [] k x h = cc
get_map f (y ∷ xs) zero x h = ap Some (ap f (same_Some y x h))
get_map f (y ∷ xs) (suc k) x h = get_map f xs k x h

pub got_map : {X Y : Type 0} (f : X → Y) (xs : List X) (k : ℕ) (y : Y) → slice_get (map f xs) k ≡ Some y → (x : X) × (slice_get xs k ≡ Some x) × (f x ≡ y)
got_map f [] k y h = cc
got_map f (x ∷ xs) zero y h = (x, refl, same_Some (f x) y h)
got_map f (x ∷ xs) (suc k) y h = got_map f xs k y h

pub got_child : (ts : List Term) (ss : List (PathTree Kept)) (k : ℕ) (s : PathTree Kept) → length ss ≡ length ts → slice_get ss k ≡ Some s → (t : Term) × (slice_get ts k ≡ Some t)
got_child [] [] k s e h = cc
got_child [] (x ∷ ss) k s e h = absurd (omega (arith, e))
got_child (t ∷ ts) [] k s e h = cc
got_child (t ∷ ts) (x ∷ ss) zero s e h = (t, refl)
got_child (t ∷ ts) (x ∷ ss) (suc k) s e h = got_child ts ss k s (omega (arith, e)) h

module _ (spec : Spec) (placed : HasPlacedItems spec) (t : Term) (path : List ℕ) (ss : List (PathTree Kept)) (shapes : AreShapesOf spec (children t) ss) where
  -- the bit of an entered child that is there
  pub child_bit : (k : ℕ) (child : Term) (s : PathTree Kept) → slice_get (children t) k ≡ Some child → IsShapeOf spec child s → enters_child (rule_for spec t) true t k ≡ true
      → IsTrue (would_pass s) ↔ child_passes spec true t path k onward
  child_bit k child s is shape entered =
      let bit = (kept_of spec child s shape).passes (below path k) in
      let ways = of_child spec true t path k child is (point.In (below path k)) (point.Out (below path k)) in (
        λ h. ways.1 (subst (λ (b : Bool). Way IsInner (LinksBelow spec b child (below path k)) (point.In (below path k)) (point.Out (below path k))) (sym entered) (bit.0 h)),
        λ w. bit.1 (subst (λ (b : Bool). Way IsInner (LinksBelow spec b child (below path k)) (point.In (below path k)) (point.Out (below path k))) entered (ways.0 w)),
      )

  -- the bits of entered children say which are passed
  pub passed_by_bits : (k : ℕ) → enters_child (rule_for spec t) true t k ≡ true → IsPassed (bits_of ss) k ↔ child_passes spec true t path k onward
  passed_by_bits k entered = (
    λ h.
        let s = got_map would_pass ss k true h in
        let c = got_child (children t) ss k s.0 shapes.count s.1 in
        let p = shapes.each k c.0 c.1 in
        let same : p.shape ≡ s.0 = same_Some p.shape s.0 (sym p.at ∙ s.1) in
        (child_bit k c.0 s.0 c.1 (subst (λ (x : PathTree Kept). IsShapeOf spec c.0 x) same p.is) entered).0 s.2,
    λ w.
        let c = there spec true t path k (child_entry path k) (child_exit path k onward) w in
        let p = shapes.each k c.0 c.1 in
        let bit : would_pass p.shape ≡ true = (child_bit k c.0 p.shape c.1 p.is entered).1 w in
        get_map would_pass ss k p.shape p.at ∙ ap Some bit,
  )
