-- The edges of a tree are the ways between nodes in the graph of its links.
use Rattle.std.proofs.Common.{◌≡◌, ℕ, ◌+◌, ◌<◌, List, [], ◌∷◌, ◌++◌, length, Some, sym, ap, subst, ◌∙◌, inl, inr, arith}
use Rattle.std.specs.Prelude.{◌⊎◌, ◌↔◌, Contains, slice_get}
use Rattle.std.specs.List.{AllByRecursion}
use Rattle.std.proofs.Math.Nat.{eq-or-lt_of_le}
use Rattle.std.proofs.lemmas.Option.{slice_get_within, same_Some}
use Rattle.std.proofs.lemmas.List.Elements.{Contains-push, Contains-push_cases, Contains-append_left}
use Rattle.flow_term.specs.declared.graph.Edge.{Edge}
use Rattle.flow_term.specs.declared.graph.Link.{Link}
use Rattle.flow_term.specs.declared.graph.Node.{Node}
use Rattle.flow_term.specs.declared.graph.Point.{Point}
use Rattle.flow_term.specs.declared.term.Term.{Term}
use Rattle.flow_syntax.specs.declared.spec.Spec.{Spec}
use Rattle.flow_syntax.specs.Graph.{IsEdge, IsInner, IsLink, IsLinked, point_of}
use Rattle.flow_links.specs.Below.{link}
use Rattle.flow_links.specs.inner.Gains.{Gains}
use Rattle.flow_links.specs.inner.Numbers.{IsEdgeBelow, IsEdgeFrom, IsEdgeTo, IsGraphOf, IsLinkAt}
use Rattle.way_theory.specs.Ways.{by_link, over}
use Rattle.flow_links.specs.inner.Reach.{IsArrow, Leads}
use Rattle.flow_syntax.proofs.LinkEnds.{inner_is_no_node}
use Rattle.flow_links.proofs.EndLemmas.{point_of_injective}
use Rattle.flow_links.proofs.NumberLemmas.{index_in}
use Rattle.flow_links.proofs.SetLemmas.{none_in_nil, Gains-all}

-- an edge by its ends
pub edge_at : (points : List Point) (number : ℕ) (p : Point) (source from to : Node) → slice_get points number ≡ Some p → p ≡ point_of to → from ≡ source → (e : Edge)
    → (e ≡ (let made : Edge = record { from = from; to = to } in made)) ↔ ((e.from ≡ source) × (slice_get points number ≡ Some (point_of e.to)))
edge_at points number p source from to at is same e = (
  λ h. (ap (λ (x : Edge). x.from) h ∙ same, at ∙ ap Some (is ∙ ap (λ (x : Edge). point_of x.to) (sym h))),
  λ h. let target : e.to ≡ to = point_of_injective e.to to (same_Some (point_of e.to) (point_of to) (sym h.1 ∙ at ∙ ap Some is)) in
      let start : e.from ≡ from = h.0 ∙ sym same in
      λ i. record { from = start i; to = target i },
)

pub no_edge_at : (points : List Point) (number : ℕ) (p : Point) (source : Node) → slice_get points number ≡ Some p → IsInner p → (e : Edge)
    → ¬ ((e.from ≡ source) × (slice_get points number ≡ Some (point_of e.to)))
no_edge_at points number p source at inner e h = inner_is_no_node p e.to inner (same_Some p (point_of e.to) (sym at ∙ h.1))

-- the edges to one number more
pub edges_to_more : (points : List Point) (source : Node) (numbers : List ℕ) (n : ℕ) (e : Edge)
    → (IsEdgeTo points source numbers e ⊎ ((e.from ≡ source) × (slice_get points n ≡ Some (point_of e.to)))) ↔ IsEdgeTo points source (numbers ++ n ∷ []) e
edges_to_more points source numbers n e = (
  λ h. elim h [
    | inl p ↦ record { from = p.from; k = p.k; among = Contains-append_left numbers (n ∷ []) p.k p.among; at_target = p.at_target }
    | inr p ↦ record { from = p.0; k = n; among = Contains-push numbers n; at_target = p.1 }
  ],
  λ p. elim (Contains-push_cases numbers n p.k p.among) [
    | inl before ↦ inl (record { from = p.from; k = p.k; among = before; at_target = p.at_target })
    | inr same ↦ inr (p.from, ap (slice_get points) same ∙ p.at_target)
  ],
)

pub no_edges_to : (points : List Point) (source : Node) (e : Edge) → ¬ IsEdgeTo points source [] e
no_edges_to points source e p = none_in_nil p.k p.among

-- the edges from a node are those to the nodes that are reached
pub edges_from : (points : List Point) (rows : List (List ℕ)) (from : ℕ) (p : Point) (source : Node) (found slice : List ℕ) → slice ≡ found → Gains [] found (Leads points rows from)
    → slice_get points from ≡ Some p → p ≡ point_of source → (e : Edge) → IsEdgeTo points source slice e ↔ IsEdgeFrom points rows from e
edges_from points rows from p source found slice same gains at is e = (
  λ h. record {
    at_source = at ∙ ap Some (is ∙ ap point_of (sym h.from));
    k = h.k;
    at_target = h.at_target;
    leads = (Gains-all gains h.k).0 (subst (λ (ks : List ℕ). Contains ks h.k) same h.among);
  },
  λ h. record {
    from = point_of_injective e.from source (same_Some (point_of e.from) (point_of source) (sym h.at_source ∙ at ∙ ap Some is));
    k = h.k;
    among = subst (λ (ks : List ℕ). Contains ks h.k) (sym same) ((Gains-all gains h.k).1 h.leads);
    at_target = h.at_target;
  },
)

pub no_edges_from : (points : List Point) (rows : List (List ℕ)) (from : ℕ) (p : Point) → slice_get points from ≡ Some p → IsInner p → (e : Edge) → ¬ IsEdgeFrom points rows from e
no_edges_from points rows from p at inner e h = inner_is_no_node p e.from inner (same_Some p (point_of e.from) (sym at ∙ h.at_source))

-- the edges from one number more
pub edges_below_more : (points : List Point) (rows : List (List ℕ)) (n : ℕ) (e : Edge) → (IsEdgeBelow points rows n e ⊎ IsEdgeFrom points rows n e) ↔ IsEdgeBelow points rows (n + 1) e
edges_below_more points rows n e = (
  λ h. elim h [
    | inl p ↦ record { j = p.j; below = (let f : p.j < n = p.below in omega arith); edge = p.edge }
    | inr p ↦ record { j = n; below = omega arith; edge = p }
  ],
  λ p. by p (eq-or-lt_of_le (let f : p.j < n + 1 = p.below in omega arith)),
)
  where
    by : (p : IsEdgeBelow points rows (n + 1) e) → (p.j ≡ n) ⊎ (p.j < n) → IsEdgeBelow points rows n e ⊎ IsEdgeFrom points rows n e
    by p (inr before) = inl (record { j = p.j; below = before; edge = p.edge })
    by p (inl same) = inr (subst (λ (j : ℕ). IsEdgeFrom points rows j e) same p.edge)

pub no_edges_below : (points : List Point) (rows : List (List ℕ)) (e : Edge) → ¬ IsEdgeBelow points rows 0 e
no_edges_below points rows e p = let f : p.j < 0 = p.below in absurd (omega arith)

-- each target of an arrow has a number
pub arrows_within : (links : List Link) (points : List Point) (rows : List (List ℕ)) → IsGraphOf links points rows → (j k : ℕ) → IsArrow rows j k → k < length points
arrows_within links points rows graph j k arrow = let at : IsLinkAt links points j k = (graph.arrows j k).0 arrow in slice_get_within points k at.b at.at_target

module _ (spec : Spec) (tree : Term) (links : List Link) (exact : (x : Link) → Contains links x ↔ IsLink spec tree x.from x.to) (points : List Point) (rows : List (List ℕ)) (graph : IsGraphOf links points rows) where
  -- a link from a numbered point is an arrow
  arrow_of : (j : ℕ) (a b : Point) → slice_get points j ≡ Some a → IsLink spec tree a b → (k : ℕ) × (slice_get points k ≡ Some b) × IsArrow rows j k
  arrow_of j a b at made =
      let among : Contains links (link a b) = (exact (link a b)).1 made in
      let to : (k : ℕ) × (slice_get points k ≡ Some b) = index_in points b (graph.has (link a b) among).1 in
      (to.0, to.1, (graph.arrows j to.0).1 (record { a = a; b = b; at_source = at; at_target = to.1; among = among }))

  -- links over inner points lead on
  follow : (from : ℕ) (inner : List Point) (target : Point) (j : ℕ) (a : Point) → slice_get points j ≡ Some a → ((k : ℕ) → IsArrow rows j k → Leads points rows from k) → AllByRecursion IsInner inner
      → IsLinked spec tree (a ∷ inner ++ target ∷ []) → (k : ℕ) × (slice_get points k ≡ Some target) × Leads points rows from k
  follow from [] target j a at reach all linked =
      let next : (k : ℕ) × (slice_get points k ≡ Some target) × IsArrow rows j k = arrow_of j a target at linked.0 in
      (next.0, next.1, reach next.0 next.2)
  follow from (b ∷ inner) target j a at reach all linked =
      let next : (k : ℕ) × (slice_get points k ≡ Some b) × IsArrow rows j k = arrow_of j a b at linked.0 in
      follow from inner target next.0 b next.1 (λ k arrow. over next.0 k (reach next.0 next.2) (record { p = b; at = next.1; inner = all.0 }) arrow) all.1 linked.1

  -- an arrow is the link between its points
  between : (j k : ℕ) (a b : Point) → slice_get points j ≡ Some a → slice_get points k ≡ Some b → IsArrow rows j k → IsLink spec tree a b
  between j k a b at_a at_b arrow =
      let at : IsLinkAt links points j k = (graph.arrows j k).0 arrow in
      subst (λ (p : Point). IsLink spec tree p b) (same_Some at.a a (sym at.at_source ∙ at_a))
      (subst (λ (p : Point). IsLink spec tree at.a p) (same_Some at.b b (sym at.at_target ∙ at_b)) ((exact (link at.a at.b)).0 at.among))

  -- one link more at the end
  linked_on : (a : Point) (inner : List Point) (m b : Point) → IsLinked spec tree (a ∷ inner ++ m ∷ []) → IsLink spec tree m b → IsLinked spec tree (a ∷ (inner ++ m ∷ []) ++ b ∷ [])
  linked_on a [] m b linked made = (linked.0, (made, tt))
  linked_on a (x ∷ inner) m b linked made = (linked.0, linked_on x inner m b linked.1 made)

  all_on : (inner : List Point) (m : Point) → AllByRecursion IsInner inner → IsInner m → AllByRecursion IsInner (inner ++ m ∷ [])
  all_on [] m all h = (h, tt)
  all_on (x ∷ inner) m all h = (all.0, all_on inner m all.1 h)

  -- a way is a list of links
  way : (j : ℕ) (a : Point) → slice_get points j ≡ Some a → (k : ℕ) (b : Point) → slice_get points k ≡ Some b → Leads points rows j k
      → (inner : List Point) × AllByRecursion IsInner inner × IsLinked spec tree (a ∷ inner ++ b ∷ [])
  way j a at_j k b at_k (by_link to arrow) = ([], tt, (between j k a b at_j at_k arrow, tt))
  way j a at_j k b at_k (over mid to leads inner arrow) =
      let first : (passed : List Point) × AllByRecursion IsInner passed × IsLinked spec tree (a ∷ passed ++ inner.p ∷ []) = way j a at_j mid inner.p inner.at leads in
      (first.0 ++ inner.p ∷ [], all_on first.0 inner.p first.1 inner.inner, linked_on a first.0 inner.p b first.2 (between mid k inner.p b inner.at at_k arrow))

  pub edges_are_ways : (e : Edge) → IsEdgeBelow points rows (length points) e ↔ IsEdge spec tree e.from e.to
  edges_are_ways e = (
    λ h. let found : (passed : List Point) × AllByRecursion IsInner passed × IsLinked spec tree (point_of e.from ∷ passed ++ point_of e.to ∷ []) =
        way h.j (point_of e.from) h.edge.at_source h.edge.k (point_of e.to) h.edge.at_target h.edge.leads in
        record { inner = found.0; passes = found.1; linked = found.2 },
    λ h. from_edge h,
  )
    where
      first_numbered : (inner : List Point) (a b : Point) → IsLinked spec tree (a ∷ inner ++ b ∷ []) → Contains points a
      first_numbered [] a b linked = (graph.has (link a b) ((exact (link a b)).1 linked.0)).0
      first_numbered (x ∷ inner) a b linked = (graph.has (link a x) ((exact (link a x)).1 linked.0)).0

      from_edge : IsEdge spec tree e.from e.to → IsEdgeBelow points rows (length points) e
      from_edge h =
          let start : (j : ℕ) × (slice_get points j ≡ Some (point_of e.from)) = index_in points (point_of e.from) (first_numbered h.inner (point_of e.from) (point_of e.to) h.linked) in
          let end : (k : ℕ) × (slice_get points k ≡ Some (point_of e.to)) × Leads points rows start.0 k =
          follow start.0 h.inner (point_of e.to) start.0 (point_of e.from) start.1 (λ k arrow. by_link k arrow) h.passes h.linked in
          record {
            j = start.0;
            below = slice_get_within points start.0 (point_of e.from) start.1;
            edge = record { at_source = start.1; k = end.0; at_target = end.1; leads = end.2 };
          }
