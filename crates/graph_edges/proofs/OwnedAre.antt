-- The edges by the shape are those that the entered position owns.
use Rattle.std.proofs.Common.{◌≡◌, ◌↔◌, ℕ, ◌+◌, ◌<◌, ◌^◌, Bool, true, false, IsTrue, List, Some, refl, sym, ap, subst, ◌∙◌, arith, length}
use Rattle.std.specs.Prelude.{slice_get}
use Rattle.std.proofs.lemmas.Option.{get_or_from_slice_get, same_Some, slice_get_within}
use Rattle.flow_term.specs.declared.graph.Edge.{Edge}
use Rattle.flow_term.specs.declared.graph.Node.{Node}
use Rattle.flow_term.specs.declared.term.Term.{Term}
use Rattle.flow_term.specs.Annotations.{term_layer}
use Rattle.flow_term.specs.Trees.{children, term_size}
use Rattle.flow_syntax.specs.declared.spec.Spec.{Spec}
use Rattle.flow_syntax.specs.Control.{enters_child, rule_for}
use Rattle.flow_syntax.specs.Graph.{below, point_of}
use Rattle.flow_syntax.specs.Matching.{is_list}
use Rattle.flow_links.proofs.SizeLemmas.{child_smaller}
use Rattle.path_tree.specs.declared.tree.PathTree.{PathTree}
use Rattle.path_tree.specs.Shapes.{children_of}
use Rattle.rule_plans.specs.declared.stop.Stop.{Stop}
use Rattle.rule_plans.specs.declared.stop.Stop.TheVariants.{ChildEntry, ChildExit}
use Rattle.rule_plans.specs.declared.stop.Step.{Step}
use Rattle.rule_plans.specs.Hops.{Leads}
use Rattle.way_theory.specs.Lists.{IsBetween, IsFirstFrom}
use Rattle.graph_laws.specs.Owners.{Owns}
use Rattle.graph_laws.specs.Parts.{onward, child_first, child_last, child_passes}
use Rattle.graph_laws.proofs.ListPositions.{lists_known}
use Rattle.graph_shape.specs.declared.kept.Kept.{Kept}
use Rattle.graph_shape.specs.declared.outer.Side.{Side}
use Rattle.graph_shape.specs.declared.outer.Side.TheVariants.{First, Last}
use Rattle.graph_shape.specs.declared.plans.Plans.{Plans}
use Rattle.graph_shape.specs.Mirrored.{ArePlansOf, AreTurned, mirror}
use Rattle.graph_shape.specs.Outer.{IsOpenedAt, IsOuterOfChild, child_there, node_there, stop_node}
use Rattle.graph_shape.specs.Plans.{Closes, IsPlanOf, Opens, OwnedByStops, at_child, at_itself, of_child, of_itself}
use Rattle.graph_shape.specs.Shapes.{AreShapesOf, AreUsable, IsShapeOf, bits_of, summary_of, would_pass}
use Rattle.graph_shape.specs.Steps.{steps_for}
use Rattle.graph_shape.proofs.ChildBits.{child_bit, got_child, passed_by_bits}
use Rattle.graph_shape.proofs.MirroredPlans.{mirror_twice}
use Rattle.graph_shape.proofs.OuterAre.{outer_are}
use Rattle.graph_shape.proofs.OuterNodes.{get_some}
use Rattle.graph_shape.proofs.Passable.{plan_is}
use Rattle.graph_shape.proofs.ShapeParts.{kept_of, shapes_of}
use Rattle.graph_shape.proofs.Sides.{HasChildOuter, down, node_point, outer_there, point_node, stop_node_mirror}
use Rattle.graph_shape.proofs.StopPoints.{by_list}
use Rattle.graph_shape.proofs.StopWays.{came_far, exit_entered, owns_at}
use Rattle.graph_edges.specs.declared.plans.BothPlans.{BothPlans}
use Rattle.graph_edges.specs.Owned.{IsFirstFromItem, IsOwnedIn, LeavesItem, LeavesStop, by_rule, in_list}

module _ (spec : Spec) (plans : BothPlans) (usable : AreUsable spec plans.forth) (turned : AreTurned plans.forth plans.back) (t : Term) (s : PathTree Kept) (shape : IsShapeOf spec t s) (small : term_size t < 2 ^ 32) (path : List ℕ) where
  shapes : AreShapesOf spec (children t) (children_of s)
  shapes = shapes_of spec t s shape

  small_child : (k : ℕ) (child : Term) → slice_get (children t) k ≡ Some child → term_size child < 2 ^ 32
  small_child k child is =
      let f : term_size child < term_size t = child_smaller t (children t) k child refl (slice_get_within (children t) k child is) (sym (get_or_from_slice_get (children t) k child child is)) in
      omega (arith, f, small)

  -- the child of a shape's child
  child_at : (k : ℕ) (c : PathTree Kept) → slice_get (children_of s) k ≡ Some c → (child : Term) × (slice_get (children t) k ≡ Some child) × IsShapeOf spec child c
  child_at k c is =
      let u = got_child (children t) (children_of s) k c shapes.count is in
      let p = shapes.each k u.0 u.1 in
      (u.0, u.1, subst (λ (x : PathTree Kept). IsShapeOf spec u.0 x) (same_Some p.shape c (sym p.at ∙ is)) p.is)

  -- the outer nodes of an entered child
  child_outer_is : (side : Side) (used : Plans) → ArePlansOf side plans.forth used → (k : ℕ) → enters_child (rule_for spec t) true t k ≡ true → (n : Node) → IsOuterOfChild used side (children_of s) path k n ↔ HasChildOuter spec n side t path k
  child_outer_is side used of_side k entered n = (
    λ o.
        let c = child_at k o.child o.at in
        (down spec n side t path k c.0 c.1 entered).1 ((outer_are spec plans.forth usable side used of_side n c.0 o.child (below path k) c.2 (small_child k c.0 c.1)).0 o.outer),
    λ h.
        let child = outer_there spec n side t path k h in
        let p = shapes.each k child.0 child.1 in
        record {
          child = p.shape;
          at = p.at;
          outer = (outer_are spec plans.forth usable side used of_side n child.0 p.shape (below path k) p.is (small_child k child.0 child.1)).1 ((down spec n side t path k child.0 child.1 entered).0 h);
        },
  )

  firsts_of : (k : ℕ) → enters_child (rule_for spec t) true t k ≡ true → (n : Node) → IsOuterOfChild plans.forth First (children_of s) path k n ↔ HasChildOuter spec n First t path k
  firsts_of k entered n = child_outer_is First plans.forth refl k entered n

  lasts_of : (k : ℕ) → enters_child (rule_for spec t) true t k ≡ true → (n : Node) → IsOuterOfChild plans.back Last (children_of s) path k n ↔ HasChildOuter spec n Last t path k
  lasts_of k entered n = child_outer_is Last plans.back turned k entered n

  -- ** a position that is no list

  abbrev steps : List Step
  steps = steps_for plans.forth (summary_of s).rule

  abbrev bits : List Bool
  bits = bits_of (children_of s)

  abbrev first_at : ℕ → Node → Type 0
  first_at k n = child_first spec true t path k (point_of n)

  abbrev last_at : ℕ → Node → Type 0
  last_at k n = child_last spec true t path k onward (point_of n)

  module _ (plain : (summary_of s).list ≡ false) where
    plan : IsPlanOf (rule_for spec t) t steps
    plan = plan_is spec plans.forth t (summary_of s).rule usable.made small (kept_of spec t s shape).rule (sym (kept_of spec t s shape).list ∙ plain)

    exits : (k : ℕ) (u : Stop) → Leads steps bits (ChildExit k) u → enters_child (rule_for spec t) true t k ≡ true
    exits k u l = exit_entered spec t path steps plan bits (passed_by_bits spec usable.placed t path (children_of s) shapes) k u l

    enters : (from : Stop) → ((j : ℕ) → ¬ (from ≡ ChildEntry j)) → (k : ℕ) → Leads steps bits from (ChildEntry k) → enters_child (rule_for spec t) true t k ≡ true
    enters from other k l = (came_far spec t path steps plan bits (passed_by_bits spec usable.placed t path (children_of s) shapes) from (ChildEntry k) (λ j e. absurd (other j e)) l).1 k refl

    by_stops : (n m : Node) → Owns spec true t path n m ↔ OwnedByStops steps bits path first_at last_at n m
    by_stops n m = owns_at spec t path steps plan bits (passed_by_bits spec usable.placed t path (children_of s) shapes) usable.placed n m

    -- what closes a stop
    closes_forth : (from u : Stop) (n : Node) → Leads steps bits from u → IsOpenedAt plans.back Last (children_of s) path (mirror from) n → Closes path last_at from n
    closes_forth from u n l (node_there h) = of_itself (node_point path from n (sym (stop_node_mirror path from) ∙ h))
    closes_forth from u n l (child_there k e o) =
        let is : from ≡ ChildExit k = sym (mirror_twice from) ∙ ap mirror e in
        of_child k is ((lasts_of k (exits k u (subst (λ (x : Stop). Leads steps bits x u) is l)) n).0 o)

    closes_back : (from u : Stop) (n : Node) → Leads steps bits from u → Closes path last_at from n → IsOpenedAt plans.back Last (children_of s) path (mirror from) n
    closes_back from u n l (of_itself e) = node_there (stop_node_mirror path from ∙ point_node path from n.kind n.path e)
    closes_back from u n l (of_child k e h) = child_there k (ap mirror e) ((lasts_of k (exits k u (subst (λ (x : Stop). Leads steps bits x u) e l)) n).1 h)

    not_entry : (from : Stop) (n : Node) → IsOpenedAt plans.back Last (children_of s) path (mirror from) n → (j : ℕ) → ¬ (from ≡ ChildEntry j)
    not_entry from n (node_there h) j e = let f : stop_node path (mirror (ChildEntry j)) ≡ Some n = subst (λ (x : Stop). stop_node path (mirror x) ≡ Some n) e h in cc (f)
    not_entry from n (child_there k d o) j e = let f : ChildExit j ≡ ChildEntry k = sym (ap mirror e) ∙ d in cc (f)

    -- what a stop opens
    opens_forth : (from to : Stop) → ((j : ℕ) → ¬ (from ≡ ChildEntry j)) → (n : Node) → Leads steps bits from to → IsOpenedAt plans.forth First (children_of s) path to n → Opens path first_at to n
    opens_forth from to other n l (node_there h) = at_itself (node_point path to n h)
    opens_forth from to other n l (child_there k e o) = at_child k e ((firsts_of k (enters from other k (subst (λ (x : Stop). Leads steps bits from x) e l)) n).0 o)

    opens_back : (from to : Stop) → ((j : ℕ) → ¬ (from ≡ ChildEntry j)) → (n : Node) → Leads steps bits from to → Opens path first_at to n → IsOpenedAt plans.forth First (children_of s) path to n
    opens_back from to other n l (at_itself e) = node_there (point_node path to n.kind n.path e)
    opens_back from to other n l (at_child k e h) = child_there k e ((firsts_of k (enters from other k (subst (λ (x : Stop). Leads steps bits from x) e l)) n).1 h)

    pub rule_owned : (e : Edge) → ((from : Stop) × LeavesStop plans steps bits (children_of s) path from e) ↔ Owns spec true t path e.from e.to
    rule_owned e = (
      λ h.
          let l = h.1 in
          (by_stops e.from e.to).1 (record {
            from = h.0;
            to = l.to;
            closes = closes_forth h.0 l.to e.from l.reached l.closes;
            reached = l.reached;
            opens = opens_forth h.0 l.to (not_entry h.0 e.from l.closes) e.to l.reached l.opens;
          }),
      λ w.
          let o = (by_stops e.from e.to).0 w in
          let closes = closes_back o.from o.to e.from o.reached o.closes in
          (o.from, record { closes = closes; to = o.to; reached = o.reached; opens = opens_back o.from o.to (not_entry o.from e.from closes) e.to o.reached o.opens }),
    )

  -- ** a list

  module _ (items : (summary_of s).list ≡ true) where
    of_list : is_list (term_layer t) ≡ true
    of_list = sym (kept_of spec t s shape).list ∙ items

    entered : (k : ℕ) → enters_child (rule_for spec t) true t k ≡ true
    entered k = by_list (rule_for spec t) t k of_list

    passes_is : (j : ℕ) (d : PathTree Kept) → slice_get (children_of s) j ≡ Some d → IsTrue (would_pass d) ↔ child_passes spec true t path j onward
    passes_is j d is = let u = child_at j d is in child_bit spec usable.placed t path (children_of s) shapes j u.0 d u.1 u.2 (entered j)

    between : (n m : Node) → Owns spec true t path n m ↔ IsBetween onward (length (children t)) (child_first spec true t path) (child_last spec true t path) (child_passes spec true t path) (point_of n) (point_of m)
    between n m = (lists_known spec usable.placed t path of_list (usable.lists t of_list)).owns n m

    from_item : (start : ℕ) (n : Node) → IsFirstFromItem plans.forth (children_of s) path start (length (children_of s)) n ↔ IsFirstFrom onward (length (children t)) (child_first spec true t path) (child_passes spec true t path) start (point_of n)
    from_item start n = (
      λ f. record {
        k = f.k;
        from = f.from;
        within = (let g : f.k < length (children_of s) = f.before in omega (arith, shapes.count));
        passed = λ j from less. (
            let d = get_some (children_of s) j (let g : f.k < length (children_of s) = f.before in omega (arith, less)) in
            (passes_is j d.0 d.1).0 (f.passed j d.0 from less d.1));
        node = (firsts_of f.k (entered f.k) n).0 f.first;
      },
      λ f. record {
        k = f.k;
        from = f.from;
        before = (let g : f.k < length (children t) = f.within in omega (arith, shapes.count));
        passed = λ j d from less is. (passes_is j d is).1 (f.passed j from less);
        first = (firsts_of f.k (entered f.k) n).1 f.node;
      },
    )

    pub list_owned : (e : Edge) → ((i : ℕ) × LeavesItem plans (children_of s) path i e) ↔ Owns spec true t path e.from e.to
    list_owned e = (
      λ h. (between e.from e.to).1 (record { i = h.0; source = (lasts_of h.0 (entered h.0) e.from).0 h.1.last; target = (from_item (h.0 + 1) e.to).0 h.1.first }),
      λ w. (let b = (between e.from e.to).0 w in (b.i, record { last = (lasts_of b.i (entered b.i) e.from).1 b.source; first = (from_item (b.i + 1) e.to).1 b.target })),
    )

  forth : (e : Edge) → IsOwnedIn plans s path e → Owns spec true t path e.from e.to
  forth e (by_rule plain from l) = (rule_owned plain e).0 (from, l)
  forth e (in_list items i l) = (list_owned items e).0 (i, l)

  back : (b : Bool) → (summary_of s).list ≡ b → (e : Edge) → Owns spec true t path e.from e.to → IsOwnedIn plans s path e
  back false plain e w = let l = (rule_owned plain e).1 w in by_rule plain l.0 l.1
  back true items e w = let l = (list_owned items e).1 w in in_list items l.0 l.1

  -- the edges by the shape are those that the entered position owns, wherever it stands
  pub owned_are : (e : Edge) → IsOwnedIn plans s path e ↔ Owns spec true t path e.from e.to
  owned_are e = (forth e, back (summary_of s).list refl e)
