-- Ways over the stops of an entered position are the hops between its points.
use Rattle.std.proofs.Common.{◌≡◌, ◌↔◌, ℕ, Bool, true, List, refl, sym, ap, subst, ◌∙◌, inl, inr}
use Rattle.flow_term.specs.declared.term.Term.{Term}
use Rattle.flow_term.specs.declared.graph.Node.{Node}
use Rattle.flow_term.specs.declared.graph.Point.{Point}
use Rattle.flow_term.specs.declared.graph.Point.TheVariants as point
use Rattle.flow_syntax.specs.declared.spec.Spec.{Spec}
use Rattle.flow_syntax.specs.Control.{enters_child, rule_for}
use Rattle.flow_syntax.specs.Graph.{IsInner, point_of}
use Rattle.flow_links.specs.Below.{LinksBelow}
use Rattle.way_theory.specs.Ways.{Way, by_link, over}
use Rattle.way_theory.specs.Hops.{Hop, own_hop, pass_hop}
use Rattle.way_theory.specs.Hops as hops
use Rattle.graph_laws.specs.Owners.{HasPlacedItems, Owns}
use Rattle.graph_laws.specs.Parts.{onward, child_entry, child_exit, child_first, child_last, child_passes, own_links, own_steps}
use Rattle.graph_laws.proofs.Apart.{path_of}
use Rattle.graph_laws.proofs.Summaries.{first_by_steps, last_by_steps, passes_by_steps}
use Rattle.graph_laws.proofs.Summaries as summaries
use Rattle.graph_shape.proofs.Children.{never_child}
use Rattle.rule_plans.specs.declared.stop.Stop.{Stop}
use Rattle.rule_plans.specs.declared.stop.Stop.TheVariants.{Entry, Exit, ChildEntry, ChildExit}
use Rattle.rule_plans.specs.declared.stop.Step.{Step}
use Rattle.rule_plans.specs.Hops.{IsHop, by_step, by_child, IsPassed, IsStepOf, Leads}
use Rattle.graph_laws.proofs.Nodes.{no_inner_node}
use Rattle.graph_shape.specs.Plans.{point_at, IsPlanOf, Opens, at_itself, at_child, Closes, of_itself, of_child, FirstByStops, LastByStops, OwnedByStops}
use Rattle.graph_shape.proofs.StopPoints.{one_stop, inner_stop, inner_point, link_enters, link_leaves}

module _ (spec : Spec) (t : Term) (path : List ℕ) (steps : List Step) (plan : IsPlanOf (rule_for spec t) t steps)
    (bits : List Bool) (passed : (k : ℕ) → enters_child (rule_for spec t) true t k ≡ true → IsPassed bits k ↔ child_passes spec true t path k onward) where
  abbrev PointHop : Point → Point → Type 0
  PointHop = Hop (own_links spec true t path) (child_entry path) (child_exit path) (child_passes spec true t path)

  -- a stop that is reached: where it is the entry of a child, the child is entered
  abbrev pub IsMet : Stop → Type 0
  IsMet s = (k : ℕ) → s ≡ ChildEntry k → enters_child (rule_for spec t) true t k ≡ true

  step_met : (s u : Stop) → IsStepOf steps s u → IsMet u
  step_met s u h k e =
      link_enters (rule_for spec t) t path k (point_at path s) (point_at path u)
      ((plan.each path (point_at path s) (point_at path u)).1 (record { from = s; to = u; step = h; source = refl; target = refl }))
      (ap (point_at path) e)

  exit_met : (j : ℕ) → IsMet (ChildExit j)
  exit_met j k e = cc

  -- one hop from a stop that is met
  record Goes (s : Stop) (b : Point) : Type 0 where
    to : Stop
    is : b ≡ point_at path to
    hop : IsHop steps bits s to
    met : IsMet to

  goes : (s : Stop) (b : Point) → IsMet s → PointHop (point_at path s) b → Goes s b
  goes s b met (own_hop l) =
      let h = (plan.each path (point_at path s) b).0 l in
      let same : h.from ≡ s = one_stop path h.from s (sym h.source) in
      let step : IsStepOf steps s h.to = subst (λ (x : Stop). IsStepOf steps x h.to) same h.step in
      record { to = h.to; is = h.target; hop = by_step step; met = step_met s h.to step }
  goes s b met (pass_hop k onward e f p) =
      let same : s ≡ ChildEntry k = one_stop path s (ChildEntry k) e in
      record { to = ChildExit k; is = f; hop = by_child (record { k = k; enters = same; exits = refl; passed = (passed k (met k same)).1 p }); met = exit_met k }

  came : (s u : Stop) → IsMet s → IsHop steps bits s u → PointHop (point_at path s) (point_at path u) × IsMet u
  came s u met (by_step h) = (own_hop ((plan.each path (point_at path s) (point_at path u)).1 (record { from = s; to = u; step = h; source = refl; target = refl })), step_met s u h)
  came s u met (by_child h) = (
    pass_hop h.k onward (ap (point_at path) h.enters) (ap (point_at path) h.exits) ((passed h.k (met h.k h.enters)).0 h.passed),
    subst (λ (x : Stop). IsMet x) (sym h.exits) (exit_met h.k),
  )

  record GoesFar (s : Stop) (b : Point) : Type 0 where
    to : Stop
    is : b ≡ point_at path to
    leads : Leads steps bits s to
    met : IsMet to

  go_on : (s : Stop) (m b : Point) → GoesFar s m → IsInner m → PointHop m b → GoesFar s b
  go_on s m b g i h =
      let n = goes g.to b g.met (subst (λ (x : Point). PointHop x b) g.is h) in
      record { to = n.to; is = n.is; leads = over g.to n.to g.leads (inner_stop path g.to (subst IsInner g.is i)) n.hop; met = n.met }

  goes_far : (s : Stop) (b : Point) → IsMet s → Way IsInner PointHop (point_at path s) b → GoesFar s b
  goes_far s _ met (by_link b h) = let n = goes s b met h in record { to = n.to; is = n.is; leads = by_link n.to n.hop; met = n.met }
  goes_far s _ met (over m b w i h) = go_on s m b (goes_far s m met w) i h

  pub came_far : (s u : Stop) → IsMet s → Leads steps bits s u → Way IsInner PointHop (point_at path s) (point_at path u) × IsMet u
  came_far s _ met (by_link u h) = let c = came s u met h in (by_link (point_at path u) c.0, c.1)
  came_far s _ met (over m u w i h) =
      let v = came_far s m met w in
      let c = came m u v.1 h in
      (over (point_at path m) (point_at path u) v.0 (inner_point path m i) c.0, c.1)

  -- a child from whose exit hops lead on is entered
  pub exit_entered : (k : ℕ) (u : Stop) → Leads steps bits (ChildExit k) u → enters_child (rule_for spec t) true t k ≡ true
  exit_entered k u w = let h = first_hop (ChildExit k) u w in by_hop h.0 h.1
    where
      first_hop : (s v : Stop) → Leads steps bits s v → (m : Stop) × IsHop steps bits s m
      first_hop s _ (by_link v h) = (v, h)
      first_hop s _ (over m v l i h) = first_hop s m l

      by_hop : (m : Stop) → IsHop steps bits (ChildExit k) m → enters_child (rule_for spec t) true t k ≡ true
      by_hop m (by_step h) =
          link_leaves (rule_for spec t) t path k (point_at path (ChildExit k)) (point_at path m)
          ((plan.each path (point_at path (ChildExit k)) (point_at path m)).1 (record { from = ChildExit k; to = m; step = h; source = refl; target = refl })) refl
      by_hop m (by_child h) = let e : ChildExit k ≡ ChildEntry h.k = h.enters in absurd (cc (e))

  -- ways of hops from a stop are ways over stops
  pub hops_at : (s u : Stop) → ((k : ℕ) → ¬ (s ≡ ChildEntry k)) → Way IsInner PointHop (point_at path s) (point_at path u) ↔ Leads steps bits s u
  hops_at s u other = (
    λ w. let g = goes_far s (point_at path u) met w in subst (λ (x : Stop). Leads steps bits s x) (one_stop path g.to u (sym g.is)) g.leads,
    λ l. (came_far s u met l).0,
  )
    where
      met : IsMet s
      met k e = absurd (other k e)

  module _ (placed : HasPlacedItems spec) where
    -- the ways of a position's own steps, as hops with what comes before and behind them
    steps_hops : (a c : Point) → ((k : ℕ) → ¬ (a ≡ child_entry path k)) → Way IsInner (own_steps spec true t path) a c
        ↔ hops.Arrives IsInner (own_links spec true t path) (child_entry path) (child_exit path) (child_first spec true t path) (child_last spec true t path) (child_passes spec true t path) a c
    steps_hops a c other = summaries.steps_hops spec true t path a c other

    -- a position is passed where the exit is reached from the entry
    pub passes_at : Way IsInner (LinksBelow spec true t path) (point.In path) (point.Out path) ↔ Leads steps bits Entry Exit
    passes_at = (
      λ w. forth ((steps_hops (point.In path) (point.Out path) (λ k e. never_child path k (ap path_of e))).0 ((passes_by_steps spec placed true t path onward).0 w)),
      λ l. (passes_by_steps spec placed true t path onward).1 ((steps_hops (point.In path) (point.Out path) (λ k e. never_child path k (ap path_of e))).1 (inl (inl ((hops_at Entry Exit (λ k e. cc)).1 l)))),
    )
      where
        forth : hops.Arrives IsInner (own_links spec true t path) (child_entry path) (child_exit path) (child_first spec true t path) (child_last spec true t path) (child_passes spec true t path) (point.In path) (point.Out path)
            → Leads steps bits Entry Exit
        forth (inl (inl w)) = (hops_at Entry Exit (λ k e. cc)).0 w
        forth (inl (inr l)) = absurd (l.2.node tt)
        forth (inr r) = absurd (r.2.node tt)

    abbrev first_at : ℕ → Node → Type 0
    first_at k n = child_first spec true t path k (point_of n)

    abbrev last_at : ℕ → Node → Type 0
    last_at k n = child_last spec true t path k onward (point_of n)

    abbrev Arriving : Point → Point → Type 0
    Arriving = hops.Arrives IsInner (own_links spec true t path) (child_entry path) (child_exit path) (child_first spec true t path) (child_last spec true t path) (child_passes spec true t path)

    abbrev Leading : Point → Point → Type 0
    Leading = hops.Leads IsInner (own_links spec true t path) (child_entry path) (child_exit path) (child_first spec true t path) (child_last spec true t path) (child_passes spec true t path)

    -- where a way of hops begins there is a stop
    first_stop : (a b : Point) → ((k : ℕ) → ¬ (a ≡ child_entry path k)) → Way IsInner PointHop a b → (s : Stop) × (a ≡ point_at path s)
    first_stop a _ other (by_link b (own_hop l)) = let h = (plan.each path a b).0 l in (h.from, h.source)
    first_stop a _ other (by_link b (pass_hop k onward e f p)) = absurd (other k e)
    first_stop a _ other (over m b w i h) = first_stop a m other w

    node_entry : (n : Node) (k : ℕ) → ¬ (point_of n ≡ child_entry path k)
    node_entry n k e = no_inner_node n (subst IsInner (sym e) tt)

    node_exit : (n : Node) (k : ℕ) → ¬ (point_of n ≡ child_exit path k onward)
    node_exit n k e = no_inner_node n (subst IsInner (sym e) tt)

    stop_of_node : (n : Node) (s : Stop) → point_of n ≡ point_at path s → (k : ℕ) → ¬ (s ≡ ChildEntry k)
    stop_of_node n s e k f = node_entry n k (e ∙ ap (point_at path) f)

    -- what a way of hops from a stop reaches
    reach_node : (s : Stop) (m : Node) → ((k : ℕ) → ¬ (s ≡ ChildEntry k)) → Way IsInner PointHop (point_at path s) (point_of m) → (u : Stop) × Leads steps bits s u × (point_of m ≡ point_at path u)
    reach_node s m other w = let g = goes_far s (point_of m) (λ k e. absurd (other k e)) w in (g.to, g.leads, g.is)

    not_entry : (k : ℕ) → ¬ (Entry ≡ ChildEntry k)
    not_entry k e = cc

    not_exit : (j k : ℕ) → ¬ (ChildExit j ≡ ChildEntry k)
    not_exit j k e = cc

    in_not_entry : (k : ℕ) → ¬ (point.In path ≡ child_entry path k)
    in_not_entry k e = never_child path k (ap path_of e)

    -- the first nodes of a position are those at stops that its entry reaches
    pub firsts_at : (n : Node) → Way IsInner (LinksBelow spec true t path) (point.In path) (point_of n) ↔ FirstByStops steps bits path first_at last_at n
    firsts_at n = (
      λ w. forth ((steps_hops (point.In path) (point_of n) in_not_entry).0 ((first_by_steps spec placed true t path n).0 w)),
      λ f. (first_by_steps spec placed true t path n).1 ((steps_hops (point.In path) (point_of n) in_not_entry).1 (back f.stop f.reached f.opens)),
    )
      where
        forth : Arriving (point.In path) (point_of n) → FirstByStops steps bits path first_at last_at n
        forth (inl (inl w)) = let r = reach_node Entry n not_entry w in record { stop = r.0; reached = r.1; opens = at_itself r.2 }
        forth (inl (inr l)) = absurd (l.2.node tt)
        forth (inr (k, inl w, f)) = record { stop = ChildEntry k; reached = (hops_at Entry (ChildEntry k) not_entry).0 w; opens = at_child k refl f }
        forth (inr (k, inr l, f)) = absurd (l.2.node tt)

        back : (u : Stop) → Leads steps bits Entry u → Opens path first_at u n → Arriving (point.In path) (point_of n)
        back u l (at_itself e) = inl (inl (subst (λ (x : Point). Way IsInner PointHop (point.In path) x) (sym e) ((hops_at Entry u not_entry).1 l)))
        back u l (at_child k e f) = inr (k, inl ((hops_at Entry (ChildEntry k) not_entry).1 (subst (λ (x : Stop). Leads steps bits Entry x) e l)), f)

    -- the last nodes of a position are those at stops that reach its exit
    pub lasts_at : (n : Node) → Way IsInner (LinksBelow spec true t path) (point_of n) (point.Out path) ↔ LastByStops steps bits path first_at last_at n
    lasts_at n = (
      λ w. forth ((steps_hops (point_of n) (point.Out path) (node_entry n)).0 ((last_by_steps spec placed true t path onward n).0 w)),
      λ f. (last_by_steps spec placed true t path onward n).1 ((steps_hops (point_of n) (point.Out path) (node_entry n)).1 (back f.stop f.closes f.reached)),
    )
      where
        at_stop : (s : Stop) → point_of n ≡ point_at path s → Way IsInner PointHop (point_of n) (point.Out path) → LastByStops steps bits path first_at last_at n
        at_stop s e w = record { stop = s; closes = of_itself e; reached = (hops_at s Exit (stop_of_node n s e)).0 (subst (λ (x : Point). Way IsInner PointHop x (point.Out path)) e w) }

        forth : Arriving (point_of n) (point.Out path) → LastByStops steps bits path first_at last_at n
        forth (inl (inl w)) = let s = first_stop (point_of n) (point.Out path) (node_entry n) w in at_stop s.0 s.1 w
        forth (inl (inr (i, onward, l, inl e))) = absurd (never_child path i (ap path_of e))
        forth (inl (inr (i, onward, l, inr w))) = record { stop = ChildExit i; closes = of_child i refl l; reached = (hops_at (ChildExit i) Exit (not_exit i)).0 w }
        forth (inr r) = absurd (r.2.node tt)

        back : (s : Stop) → Closes path last_at s n → Leads steps bits s Exit → Arriving (point_of n) (point.Out path)
        back s (of_itself e) l = inl (inl (subst (λ (x : Point). Way IsInner PointHop x (point.Out path)) (sym e) ((hops_at s Exit (stop_of_node n s e)).1 l)))
        back s (of_child k e f) l = inl (inr (k, onward, f, inr ((hops_at (ChildExit k) Exit (not_exit k)).1 (subst (λ (x : Stop). Leads steps bits x Exit) e l))))

    -- the edges that a position owns lead between nodes at stops of which one reaches the other
    pub owns_at : (n m : Node) → Owns spec true t path n m ↔ OwnedByStops steps bits path first_at last_at n m
    owns_at n m = (
      λ w. forth ((steps_hops (point_of n) (point_of m) (node_entry n)).0 w),
      λ o. (steps_hops (point_of n) (point_of m) (node_entry n)).1 (back o.from o.to o.closes o.reached o.opens),
    )
      where
        from_stop : (s : Stop) → Closes path last_at s n → ((k : ℕ) → ¬ (s ≡ ChildEntry k)) → Way IsInner PointHop (point_at path s) (point_of m) → OwnedByStops steps bits path first_at last_at n m
        from_stop s c other w = let r = reach_node s m other w in record { from = s; to = r.0; closes = c; reached = r.1; opens = at_itself r.2 }

        into_child : (s : Stop) → Closes path last_at s n → ((k : ℕ) → ¬ (s ≡ ChildEntry k)) → (k : ℕ) → Way IsInner PointHop (point_at path s) (child_entry path k) → first_at k m → OwnedByStops steps bits path first_at last_at n m
        into_child s c other k w f = record { from = s; to = ChildEntry k; closes = c; reached = (hops_at s (ChildEntry k) other).0 w; opens = at_child k refl f }

        forth : Arriving (point_of n) (point_of m) → OwnedByStops steps bits path first_at last_at n m
        forth (inl (inl w)) =
            let s = first_stop (point_of n) (point_of m) (node_entry n) w in
            from_stop s.0 (of_itself s.1) (stop_of_node n s.0 s.1) (subst (λ (x : Point). Way IsInner PointHop x (point_of m)) s.1 w)
        forth (inl (inr (i, onward, l, inl e))) = absurd (node_exit m i e)
        forth (inl (inr (i, onward, l, inr w))) = from_stop (ChildExit i) (of_child i refl l) (not_exit i) w
        forth (inr (k, inl w, f)) =
            let s = first_stop (point_of n) (child_entry path k) (node_entry n) w in
            into_child s.0 (of_itself s.1) (stop_of_node n s.0 s.1) k (subst (λ (x : Point). Way IsInner PointHop x (child_entry path k)) s.1 w) f
        forth (inr (k, inr (i, onward, l, inl e), f)) = absurd (cc (e))
        forth (inr (k, inr (i, onward, l, inr w), f)) = into_child (ChildExit i) (of_child i refl l) (not_exit i) k w f

        leading : (s : Stop) (c : Point) → Closes path last_at s n → (((k : ℕ) → ¬ (s ≡ ChildEntry k)) → Way IsInner PointHop (point_at path s) c) → Leading (point_of n) c
        leading s c (of_itself e) w = inl (subst (λ (x : Point). Way IsInner PointHop x c) (sym e) (w (stop_of_node n s e)))
        leading s c (of_child k e f) w = inr (k, onward, f, inr (subst (λ (x : Stop). Way IsInner PointHop (point_at path x) c) e (w (λ j g. not_exit k j (sym e ∙ g)))))

        back : (s u : Stop) → Closes path last_at s n → Leads steps bits s u → Opens path first_at u m → Arriving (point_of n) (point_of m)
        back s u c l (at_itself e) = inl (leading s (point_of m) c (λ other. subst (λ (x : Point). Way IsInner PointHop (point_at path s) x) (sym e) ((hops_at s u other).1 l)))
        back s u c l (at_child k e f) = inr (k, leading s (child_entry path k) c (λ other. (hops_at s (ChildEntry k) other).1 (subst (λ (x : Stop). Leads steps bits s x) e l)), f)
