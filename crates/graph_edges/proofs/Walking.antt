-- What the walk over a shape adds.
use Rattle.std.proofs.Common.{◌≡◌, ◌↔◌, ◌⊎◌, ℕ, ◌+◌, ◌<◌, Bool, true, List, length, Some, sym, subst, ◌∙◌, inl, inr, arith}
use Rattle.std.specs.Prelude.{slice_get}
use Rattle.std.proofs.Math.Nat.{eq-or-lt_of_le}
use Rattle.std.proofs.lemmas.Option.{same_Some, slice_get_within}
use Rattle.flow_term.specs.declared.graph.Edge.{Edge}
use Rattle.flow_syntax.specs.Graph.{below}
use Rattle.path_tree.specs.declared.tree.PathTree.{PathTree}
use Rattle.path_tree.specs.Shapes.{children_of}
use Rattle.graph_shape.specs.declared.kept.Kept.{Kept}
use Rattle.graph_edges.specs.declared.plans.BothPlans.{BothPlans}
use Rattle.graph_edges.specs.Below.{IsEdgeBelow, counts, enters_part, here, in_child}
use Rattle.graph_edges.specs.Owned.{IsOwnedIn}
use Rattle.graph_edges.specs.inner.Taken.{IsEdgeInChild, IsEdgeInChildren}

module _ (plans : BothPlans) (entered : Bool) (s : PathTree Kept) (path : List ℕ) where
  pub no_children : (e : Edge) → ¬ IsEdgeInChildren plans entered s path 0 e
  no_children e h = absurd (let f : h.k < 0 = h.before in omega arith)

  pub one_child : (m : ℕ) (e : Edge) → (IsEdgeInChildren plans entered s path m e ⊎ IsEdgeInChild plans entered s path m e) ↔ IsEdgeInChildren plans entered s path (m + 1) e
  one_child m e = (
    λ h. elim h [
      | inl a ↦ record { k = a.k; before = (let f : a.k < m = a.before in omega arith); inside = a.inside }
      | inr b ↦ record { k = m; before = omega arith; inside = b }
    ],
    λ h. elim (eq-or-lt_of_le (let f : h.k < m + 1 = h.before in omega arith)) [
      | inl same ↦ inr (subst (λ (i : ℕ). IsEdgeInChild plans entered s path i e) same h.inside)
      | inr less ↦ inl (record { k = h.k; before = less; inside = h.inside })
    ],
  )

  pub child_edges : (k : ℕ) (c : PathTree Kept) (p : List ℕ) (b : Bool) → slice_get (children_of s) k ≡ Some c → p ≡ below path k → b ≡ enters_part plans entered s k → (e : Edge)
      → IsEdgeBelow plans e b c p ↔ IsEdgeInChild plans entered s path k e
  child_edges k c p b at f g e = (
    λ h. record { child = c; at = at; inside = subst (λ (q : List ℕ). IsEdgeBelow plans e (enters_part plans entered s k) c q) f (subst (λ (x : Bool). IsEdgeBelow plans e x c p) g h) },
    λ h. subst (λ (x : Bool). IsEdgeBelow plans e x c p) (sym g) (subst (λ (q : List ℕ). IsEdgeBelow plans e (enters_part plans entered s k) c q) (sym f)
        (subst (λ (x : PathTree Kept). IsEdgeBelow plans e (enters_part plans entered s k) x (below path k)) (same_Some h.child c (sym h.at ∙ at)) h.inside)),
  )

  pub edges_below : (e : Edge) → (((counts plans entered s ≡ true) × IsOwnedIn plans s path e) ⊎ IsEdgeInChildren plans entered s path (length (children_of s)) e) ↔ IsEdgeBelow plans e entered s path
  edges_below e = (
    λ h. elim h [ inl o ↦ here entered s path o.0 o.1 | inr c ↦ in_child entered s path c.k c.inside.child c.inside.at c.inside.inside ],
    λ h. back h,
  )
    where
      back : IsEdgeBelow plans e entered s path → ((counts plans entered s ≡ true) × IsOwnedIn plans s path e) ⊎ IsEdgeInChildren plans entered s path (length (children_of s)) e
      back (here _ _ _ c o) = inl (c, o)
      back (in_child _ _ _ k c is h) = inr (record { k = k; before = slice_get_within (children_of s) k c is; inside = record { child = c; at = is; inside = h } })
