-- What is listed are the constraints and unknowns of the tree.
use Rattle.std.proofs.Common.{◌≡◌, ℕ, Bool, true, false, cond, List, [], Option, Some, None, refl, sym, ap, subst, ◌∙◌, inl, inr, map, filter, true≢false}
use Rattle.std.specs.Prelude.{Contains, IsSome, is_some, option_map}
use Rattle.std.specs.Option.{option_to_list}
use Rattle.std.specs.List.Sorted.{IsStrictlySortedBy}
use Rattle.std.specs.Ordering.{nat_cmp, ordering_then, is_eq}
use Rattle.std.specs.Cmp.{Equal-is}
use Rattle.std.specs.Cmp.Lexicographic.{slice_cmp}
use Rattle.std.specs.declared.cmp.Ordering.{Ordering}
use Rattle.std.specs.declared.cmp.Ordering.TheVariants.{Less, Equal, Greater}
use Rattle.std.proofs.lemmas.List.Elements.{Contains-append_left, Contains-append_right, Contains-append_cases}
use Rattle.std.proofs.lemmas.List.Kept.{IsStrictlySortedBy-filter}
use Rattle.flow_term.specs.declared.graph.Edge.{Edge}
use Rattle.flow_term.specs.declared.graph.Node.{Node}
use Rattle.flow_term.specs.declared.graph.NodeKind.{NodeKind}
use Rattle.flow_term.specs.declared.graph.NodeKind.TheVariants as kind
use Rattle.flow_term.specs.declared.graph.Unknown.{Unknown}
use Rattle.flow_term.specs.declared.term.Term.{Term}
use Rattle.flow_term.specs.GraphLaws.{nodes_ordered, same_nodes}
use Rattle.flow_term.specs.Orders.{edge_cmp, node_cmp}
use Rattle.flow_syntax.specs.declared.property.Direction.{Direction}
use Rattle.flow_syntax.specs.declared.property.Direction.TheVariants as direction
use Rattle.flow_syntax.specs.declared.spec.Spec.{Spec}
use Rattle.flow_syntax.specs.Graph.{IsEdge, IsNode}
use Rattle.flow_syntax.proofs.LinkEnds.{edge_leaves_node, edge_reaches_node}
use Rattle.flow_match.specs.declared.matched.RuleHit.{RuleHit}
use Rattle.tree_constraints.specs.declared.constraint.Constraint.{Constraint}
use Rattle.tree_constraints.specs.declared.constraint.Key.{Key}
use Rattle.tree_constraints.specs.declared.constraint.Origin.TheVariants as origin
use Rattle.tree_constraints.specs.Constraints.{arrives, begins, comes, constraint_of, hit_at, unknown_at, IsKeyOf, along, at_boundary, IsConstraint, IsUnknownOf}
use Rattle.tree_constraints.specs.Orders.{constraint_cmp, unknown_cmp, origin_cmp}
use Rattle.tree_constraints.specs.Solutions.{AreConstraints, AreUnknowns}
use Rattle.tree_constraints.proofs.Exact.{unknown_ties}
use Rattle.tree_constraints.proofs.Facts.{copied_used, reads_used, target_used}
use Rattle.tree_constraints.proofs.Lists.{none_in_nil, at_head, cons_cases, filter_has, map_has, map_from, flat_map_has, flat_map_from}
use Rattle.tree_listing.specs.declared.property.Property.{Property}
use Rattle.tree_listing.specs.Given.{AreNodes, AreEdges, AreProperties, name_cmp, property_of}
use Rattle.tree_listing.specs.Laws.{ListingIsExact, TreesHaveLists, EdgesJoinNodes, ConstraintsAreInUse}
use Rattle.tree_listing.specs.Listing.{same_node, arrives_by, comes_by, origins, begins_at, constraint_by, constraint_from, boundary_at, listed_at, listed_at_node, listed, unknowns_at, listed_unknowns}
use Rattle.tree_listing.proofs.Members.{filter_from, sorted_append, sorted_nil, sorted_one, sorted_map, sorted_flat_map}
use Rattle.tree_listing.proofs.Properties.{properties_exist}

-- NODES BY THEIR ORDER

pub told_node : (a b : Node) → same_node a b ≡ true → a ≡ b
told_node a b h = same_nodes a b (nodes_ordered a b ∙ (Equal-is (node_cmp a b)).0 h)

first_ties : (a b : Ordering) → ordering_then a b ≡ Equal → a ≡ Equal
first_ties Less b h = cc
first_ties Equal b h = refl
first_ties Greater b h = cc

pub node_ties : (a : Node) → node_cmp a a ≡ Equal
node_ties a = first_ties (node_cmp a a) (slice_cmp nat_cmp [] []) (unknown_ties (unknown_at a []))

names_rise : (n : Node) (p q : Property) → name_cmp p q ≡ Less → unknown_cmp (unknown_at n p.name) (unknown_at n q.name) ≡ Less
names_rise n p q h = ap (λ o. ordering_then o (name_cmp p q)) (node_ties n) ∙ h

nodes_rise : (n m : Node) (x y : List ℕ) → node_cmp n m ≡ Less → unknown_cmp (unknown_at n x) (unknown_at m y) ≡ Less
nodes_rise n m x y h = ap (λ o. ordering_then o (slice_cmp nat_cmp x y)) h

-- WHERE CONTROL BEGINS

told_begin : (d : Direction) (k : NodeKind) → begins_at d k ≡ true → k ≡ begins d
told_begin direction.Forward kind.Start h = refl
told_begin direction.Forward kind.Node h = cc
told_begin direction.Forward kind.End h = cc
told_begin direction.Backward kind.Start h = cc
told_begin direction.Backward kind.Node h = cc
told_begin direction.Backward kind.End h = refl

begins_itself : (d : Direction) → begins_at d (begins d) ≡ true
begins_itself direction.Forward = refl
begins_itself direction.Backward = refl

-- ORIGINS

-- edges that arrive at one node are in the order of the nodes from which they come
then_first : (a b : Ordering) → b ≡ Equal → ordering_then a b ≡ Less → a ≡ Less
then_first Less b e h = refl
then_first Equal b e h = sym e ∙ h
then_first Greater b e h = cc

comes_rising : (d : Direction) (x y : Edge) → arrives_by d x ≡ arrives_by d y → edge_cmp x y ≡ Less → node_cmp (comes_by d x) (comes_by d y) ≡ Less
comes_rising direction.Forward x y e h = then_first (node_cmp x.from y.from) (node_cmp x.to y.to) (ap (λ n. node_cmp x.to n) (sym e) ∙ node_ties x.to) h
comes_rising direction.Backward x y e h = ap (λ o. ordering_then o (node_cmp x.to y.to)) (sym (ap (λ n. node_cmp x.from n) (sym e) ∙ node_ties x.from)) ∙ h

origins_sorted : (d : Direction) (edges : List Edge) (n : Node) → IsStrictlySortedBy edge_cmp edges → IsStrictlySortedBy node_cmp (origins d edges n)
origins_sorted d edges n h =
    let test : Edge → Bool = λ e. same_node (arrives_by d e) n in
    sorted_map edge_cmp node_cmp (comes_by d) (filter test edges)
    (λ x y cx cy less. comes_rising d x y (told_node (arrives_by d x) n (filter_from test edges x cx).1 ∙ sym (told_node (arrives_by d y) n (filter_from test edges y cy).1)) less)
    (IsStrictlySortedBy-filter edge_cmp test edges h)

origins_from : (d : Direction) (edges : List Edge) (n o : Node) → Contains (origins d edges n) o → (e : Edge) × Contains edges e × (arrives_by d e ≡ n) × (comes_by d e ≡ o)
origins_from d edges n o h =
    let test : Edge → Bool = λ e. same_node (arrives_by d e) n in
    let w = map_from (comes_by d) (filter test edges) o h in
    let kept = filter_from test edges w.0 w.1 in
    (w.0, kept.0, told_node (arrives_by d w.0) n kept.1, w.2)

origins_has : (d : Direction) (edges : List Edge) (e : Edge) → Contains edges e → Contains (origins d edges (arrives_by d e)) (comes_by d e)
origins_has d edges e h =
    let test : Edge → Bool = λ x. same_node (arrives_by d x) (arrives_by d e) in
    map_has (comes_by d) (filter test edges) e (filter_has test edges e h (ap is_eq (node_ties (arrives_by d e))))

-- A CONSTRAINT AT A BOUNDARY

module _ (f : RuleHit → Constraint) where
  abbrev given : Bool → Option RuleHit → List Constraint
  given b o = cond b (option_to_list (option_map f o)) []

  given_from : (b : Bool) (o : Option RuleHit) (c : Constraint) → Contains (given b o) c → (b ≡ true) × (hit : RuleHit) × (o ≡ Some hit) × (f hit ≡ c)
  given_from true None c h = absurd (none_in_nil c h)
  given_from true (Some hit) c h = elim (cons_cases (f hit) [] c h) [
    | inl e ↦ (refl, hit, refl, e)
    | inr t ↦ absurd (none_in_nil c t)
  ]
  given_from false o c h = absurd (none_in_nil c h)

  given_has : (b : Bool) (o : Option RuleHit) (hit : RuleHit) → b ≡ true → o ≡ Some hit → Contains (given b o) (f hit)
  given_has b o hit eb eo = subst (λ (v : Bool). Contains (given v o) (f hit)) (sym eb) (subst (λ (p : Option RuleHit). Contains (given true p) (f hit)) (sym eo) (at_head (f hit) []))

  given_sorted : (b : Bool) (o : Option RuleHit) → IsStrictlySortedBy constraint_cmp (given b o)
  given_sorted true None = sorted_nil constraint_cmp
  given_sorted true (Some hit) = sorted_one constraint_cmp (f hit)
  given_sorted false o = sorted_nil constraint_cmp

is_there : {X : Type 0} (o : Option X) → IsSome o → (x : X) × (o ≡ Some x)
is_there None h = absurd (true≢false (sym h))
is_there (Some x) h = (x, refl)

is_found : {X : Type 0} (o : Option X) (x : X) → o ≡ Some x → IsSome o
is_found o x e = ap is_some e

-- CONSTRAINTS

module _ (spec : Spec) (tree : Term) where
  abbrev by_boundary : Node → Property → RuleHit → Constraint
  by_boundary n p hit = constraint_by (Some hit) (unknown_at n p.name) origin.Boundary

  abbrev boundary_hit : Node → Property → Option RuleHit
  boundary_hit n p = hit_at spec tree true (unknown_at n p.name)

  boundary_from : (n : Node) (p : Property) (c : Constraint) → Contains (boundary_at spec tree n p) c → (begins_at p.direction n.kind ≡ true) × (hit : RuleHit) × (boundary_hit n p ≡ Some hit) × (by_boundary n p hit ≡ c)
  boundary_from n p c h = given_from (by_boundary n p) (begins_at p.direction n.kind) (boundary_hit n p) c h

  along_from : (edges : List Edge) (n : Node) (p : Property) (c : Constraint) → Contains (map (constraint_from spec tree n p) (origins p.direction edges n)) c
      → (e : Edge) × Contains edges e × (arrives_by p.direction e ≡ n) × (constraint_from spec tree n p (comes_by p.direction e) ≡ c)
  along_from edges n p c h =
      let w = map_from (constraint_from spec tree n p) (origins p.direction edges n) c h in
      let o = origins_from p.direction edges n w.0 w.1 in
      (o.0, o.1, o.2, ap (constraint_from spec tree n p) o.3 ∙ w.2)

  listed_target : (edges : List Edge) (n : Node) (p : Property) (c : Constraint) → Contains (listed_at spec tree edges n p) c → c.key.target ≡ unknown_at n p.name
  listed_target edges n p c h = elim (Contains-append_cases (boundary_at spec tree n p) (map (constraint_from spec tree n p) (origins p.direction edges n)) c h) [
    | inl b ↦ ap (λ (x : Constraint). x.key.target) (sym (boundary_from n p c b).3)
    | inr m ↦ ap (λ (x : Constraint). x.key.target) (sym (along_from edges n p c m).3)
  ]

  -- ORDER

  same_target : (c d : Constraint) → unknown_cmp c.key.target d.key.target ≡ Equal → origin_cmp c.key.origin d.key.origin ≡ Less → constraint_cmp c d ≡ Less
  same_target c d e h = ap (λ o. ordering_then o (origin_cmp c.key.origin d.key.origin)) e ∙ h

  by_targets : (c d : Constraint) (u v : Unknown) → c.key.target ≡ u → d.key.target ≡ v → unknown_cmp u v ≡ Less → constraint_cmp c d ≡ Less
  by_targets c d u v ec ed h = ap (λ o. ordering_then o (origin_cmp c.key.origin d.key.origin)) (ap (λ x. unknown_cmp x d.key.target) ec ∙ ap (λ y. unknown_cmp u y) ed ∙ h)

  at_sorted : (edges : List Edge) (n : Node) (p : Property) → IsStrictlySortedBy edge_cmp edges → IsStrictlySortedBy constraint_cmp (listed_at spec tree edges n p)
  at_sorted edges n p h =
      let u : Unknown = unknown_at n p.name in
      let along_edges : List Constraint = map (constraint_from spec tree n p) (origins p.direction edges n) in
      sorted_append constraint_cmp (boundary_at spec tree n p) along_edges (given_sorted (by_boundary n p) (begins_at p.direction n.kind) (boundary_hit n p))
      (sorted_map node_cmp constraint_cmp (constraint_from spec tree n p) (origins p.direction edges n)
      (λ x y cx cy less. same_target (constraint_from spec tree n p x) (constraint_from spec tree n p y) (unknown_ties u) less) (origins_sorted p.direction edges n h))
      (λ c d hc hd.
      let w = boundary_from n p c hc in
      let v = along_from edges n p d hd in
      subst (λ (x : Constraint). constraint_cmp x d ≡ Less) w.3 (subst (λ (y : Constraint). constraint_cmp (by_boundary n p w.1) y ≡ Less) v.3
      (same_target (by_boundary n p w.1) (constraint_from spec tree n p (comes_by p.direction v.0)) (unknown_ties u) refl)))

  node_sorted : (properties : List Property) (edges : List Edge) (n : Node) → IsStrictlySortedBy edge_cmp edges → IsStrictlySortedBy name_cmp properties → IsStrictlySortedBy constraint_cmp (listed_at_node spec tree properties edges n)
  node_sorted properties edges n he hp =
      sorted_flat_map name_cmp constraint_cmp (listed_at spec tree edges n) properties (λ p _. at_sorted edges n p he)
      (λ p q c d less hc hd. by_targets c d (unknown_at n p.name) (unknown_at n q.name) (listed_target edges n p c hc) (listed_target edges n q d hd) (names_rise n p q less)) hp

  -- EXACTLY THOSE OF THE TREE

  arrival : (d : Direction) (from to : Node) → IsEdge spec tree from to → IsNode spec tree (arrives d from to)
  arrival direction.Forward from to h = edge_reaches_node spec tree from to h
  arrival direction.Backward from to h = edge_leaves_node spec tree from to h

  -- a constraint that is that of a key
  keyed : (k : Key) (c : Constraint) → IsKeyOf spec tree k → constraint_of spec tree k ≡ c → IsConstraint spec tree c
  keyed k c is e = subst (λ (x : Constraint). IsConstraint spec tree x) e (record { key = is; whole = refl })

  -- the one at a boundary is that of its key
  boundary_whole : (n : Node) (p : Property) (hit : RuleHit) → boundary_hit n p ≡ Some hit → by_boundary n p hit ≡ constraint_of spec tree (record { target = unknown_at n p.name; origin = origin.Boundary })
  boundary_whole n p hit e = ap (λ o. constraint_by o (unknown_at n p.name) origin.Boundary) (sym e)

  module _ (properties : List Property) (nodes : List Node) (edges : List Edge) (are_properties : AreProperties spec properties) (are_nodes : AreNodes spec tree nodes) (are_edges : AreEdges spec tree edges) where
    boundary_is : (n : Node) (p : Property) (c : Constraint) → Contains nodes n → Contains properties p → Contains (boundary_at spec tree n p) c → IsConstraint spec tree c
    boundary_is n p c hn hp h =
        let w = boundary_from n p c h in
        let decl = are_properties.declared p hp in
        let same : property_of spec decl.0 ≡ p = decl.2 in
        keyed (record { target = unknown_at n p.name; origin = origin.Boundary }) c
        (at_boundary decl.0 n decl.1 ((are_nodes.exactly n).0 hn) (told_begin p.direction n.kind w.0 ∙ ap (λ (q : Property). begins q.direction) (sym same))
        (subst (λ (q : Property). IsSome (boundary_hit n q)) (sym same) (is_found (boundary_hit n p) w.1 w.2)) (ap (λ (q : Property). record { target = unknown_at n q.name; origin = origin.Boundary }) (sym same)))
        (sym (boundary_whole n p w.1 w.2) ∙ w.3)

    along_is : (n : Node) (p : Property) (c : Constraint) → Contains properties p → Contains (map (constraint_from spec tree n p) (origins p.direction edges n)) c → IsConstraint spec tree c
    along_is n p c hp h =
        let w = along_from edges n p c h in
        let e : Edge = w.0 in
        let decl = are_properties.declared p hp in
        let same : property_of spec decl.0 ≡ p = decl.2 in
        keyed (record { target = unknown_at n p.name; origin = origin.Along (comes_by p.direction e) }) c
        (along decl.0 e.from e.to decl.1 ((are_edges.exactly e).0 w.1)
        (ap (λ (m : Node). record { target = unknown_at m p.name; origin = origin.Along (comes_by p.direction e) }) (sym w.2)
        ∙ ap (λ (q : Property). record { target = unknown_at (arrives_by q.direction e) q.name; origin = origin.Along (comes_by q.direction e) }) (sym same)))
        w.3

    listed_from : (c : Constraint) → Contains (listed spec tree properties nodes edges) c → IsConstraint spec tree c
    listed_from c h =
        let n = flat_map_from (listed_at_node spec tree properties edges) nodes c h in
        let p = flat_map_from (listed_at spec tree edges n.0) properties c n.2 in
        elim (Contains-append_cases (boundary_at spec tree n.0 p.0) (map (constraint_from spec tree n.0 p.0) (origins p.0.direction edges n.0)) c p.2) [
          | inl b ↦ boundary_is n.0 p.0 c n.1 p.1 b
          | inr m ↦ along_is n.0 p.0 c p.1 m
        ]

    -- what aims at a property at a node is listed
    listed_there : (n : Node) (p : Property) (c : Constraint) → Contains nodes n → Contains properties p → Contains (listed_at spec tree edges n p) c → Contains (listed spec tree properties nodes edges) c
    listed_there n p c hn hp h = flat_map_has (listed_at_node spec tree properties edges) nodes n c hn (flat_map_has (listed_at spec tree edges n) properties p c hp h)

    key_listed : (k : Key) → IsKeyOf spec tree k → Contains (listed spec tree properties nodes edges) (constraint_of spec tree k)
    key_listed k (along decl from to hp he e) =
        let p : Property = property_of spec decl in
        let edge : Edge = record { from = from; to = to } in
        let n : Node = arrives p.direction from to in
        let made : Constraint = constraint_from spec tree n p (comes p.direction from to) in
        subst (λ (x : Key). Contains (listed spec tree properties nodes edges) (constraint_of spec tree x)) (sym e)
        (listed_there n p made ((are_nodes.exactly n).1 (arrival p.direction from to he)) (are_properties.all decl hp)
        (Contains-append_right (boundary_at spec tree n p) (map (constraint_from spec tree n p) (origins p.direction edges n)) made
        (map_has (constraint_from spec tree n p) (origins p.direction edges n) (comes p.direction from to) (origins_has p.direction edges edge ((are_edges.exactly edge).1 he)))))
    key_listed k (at_boundary decl n hp hn b found e) =
        let p : Property = property_of spec decl in
        let hit = is_there (boundary_hit n p) found in
        let made : Constraint = by_boundary n p hit.0 in
        subst (λ (x : Key). Contains (listed spec tree properties nodes edges) (constraint_of spec tree x)) (sym e)
        (subst (λ (x : Constraint). Contains (listed spec tree properties nodes edges) x) (boundary_whole n p hit.0 hit.1)
        (listed_there n p made ((are_nodes.exactly n).1 hn) (are_properties.all decl hp)
        (Contains-append_left (boundary_at spec tree n p) (map (constraint_from spec tree n p) (origins p.direction edges n)) made
        (given_has (by_boundary n p) (begins_at p.direction n.kind) (boundary_hit n p) hit.0 (ap (begins_at p.direction) b ∙ begins_itself p.direction) hit.1))))

    listed_sorted : IsStrictlySortedBy constraint_cmp (listed spec tree properties nodes edges)
    listed_sorted =
        sorted_flat_map node_cmp constraint_cmp (listed_at_node spec tree properties edges) nodes (λ n _. node_sorted properties edges n are_edges.ordered are_properties.ordered)
        (λ n m c d less hc hd.
        let p = flat_map_from (listed_at spec tree edges n) properties c hc in
        let q = flat_map_from (listed_at spec tree edges m) properties d hd in
        by_targets c d (unknown_at n p.0.name) (unknown_at m q.0.name) (listed_target edges n p.0 c p.2) (listed_target edges m q.0 d q.2) (nodes_rise n m p.0.name q.0.name less)) are_nodes.ordered

    listed_are_constraints : AreConstraints spec tree (listed spec tree properties nodes edges)
    listed_are_constraints = record {
      exactly = λ c. (listed_from c, λ is. subst (λ (x : Constraint). Contains (listed spec tree properties nodes edges) x) (sym is.whole) (key_listed c.key is.key));
      ordered = listed_sorted;
    }

-- UNKNOWNS

pub unknowns_sorted : (properties : List Property) (nodes : List Node) → IsStrictlySortedBy name_cmp properties → IsStrictlySortedBy node_cmp nodes → IsStrictlySortedBy unknown_cmp (listed_unknowns properties nodes)
unknowns_sorted properties nodes by_name in_order =
    sorted_flat_map node_cmp unknown_cmp (unknowns_at properties) nodes
    (λ n _. sorted_map name_cmp unknown_cmp (λ (p : Property). unknown_at n p.name) properties (λ p q _ _ less. names_rise n p q less) by_name)
    (λ n m u v less hu hv.
    let p = map_from (λ (q : Property). unknown_at n q.name) properties u hu in
    let q = map_from (λ (r : Property). unknown_at m r.name) properties v hv in
    subst (λ (x : Unknown). unknown_cmp x v ≡ Less) p.2 (subst (λ (y : Unknown). unknown_cmp (unknown_at n p.0.name) y ≡ Less) q.2 (nodes_rise n m p.0.name q.0.name less)))
    in_order

module _ (spec : Spec) (tree : Term) (properties : List Property) (nodes : List Node) (are_properties : AreProperties spec properties) (are_nodes : AreNodes spec tree nodes) where
  unknown_from : (u : Unknown) → Contains (listed_unknowns properties nodes) u → IsUnknownOf spec tree u
  unknown_from u h =
      let n = flat_map_from (unknowns_at properties) nodes u h in
      let p = map_from (λ (p : Property). unknown_at n.0 p.name) properties u n.2 in
      let decl = are_properties.declared p.0 p.1 in
      record {
        node = subst (λ (m : Node). IsNode spec tree m) (ap (λ (v : Unknown). v.node) p.2) ((are_nodes.exactly n.0).0 n.1);
        property = decl.0;
        declared = decl.1;
        named = ap (λ (v : Unknown). v.property) (sym p.2) ∙ ap (λ (q : Property). q.name) (sym decl.2);
      }

  unknown_has : (u : Unknown) → IsUnknownOf spec tree u → Contains (listed_unknowns properties nodes) u
  unknown_has u h =
      let same : unknown_at u.node h.property.name.text ≡ u = λ i. record { node = u.node; property = sym h.named i } in
      flat_map_has (unknowns_at properties) nodes u.node u ((are_nodes.exactly u.node).1 h.node)
      (subst (λ (v : Unknown). Contains (unknowns_at properties u.node) v) same (map_has (λ (p : Property). unknown_at u.node p.name) properties (property_of spec h.property) (are_properties.all h.property h.declared)))

  pub listed_are_unknowns : AreUnknowns spec tree (listed_unknowns properties nodes)
  listed_are_unknowns = record { exactly = λ u. (unknown_from u, unknown_has u); ordered = unknowns_sorted properties nodes are_properties.ordered are_nodes.ordered }

-- THE LAWS

pub listing_exact : ListingIsExact
listing_exact spec tree properties nodes edges ps ns es = (listed_are_constraints spec tree properties nodes edges ps ns es, listed_are_unknowns spec tree properties nodes ps ns)

pub lists_exist : TreesHaveLists
lists_exist spec tree nodes edges ns es =
    let given = properties_exist spec in
    let lists = listing_exact spec tree given.0 nodes edges given.1 ns es in
    (listed spec tree given.0 nodes edges, listed_unknowns given.0 nodes, lists.0, lists.1)

pub edges_join : EdgesJoinNodes
edges_join spec tree from to h = (edge_leaves_node spec tree from to h, edge_reaches_node spec tree from to h)

pub in_use : ConstraintsAreInUse
in_use spec tree c is = record { target = target_used spec tree c.key is.key; origin = (copied_used spec tree c.key is.key).node; reads = reads_used spec tree c is }
