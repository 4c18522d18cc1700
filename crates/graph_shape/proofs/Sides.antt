-- What a side knows of a position: which stops and which children have its outer nodes.
use Rattle.std.proofs.Common.{◌≡◌, ◌↔◌, ℕ, ◌<◌, Bool, true, IsTrue, List, Some, refl, sym, ap, subst, ◌∙◌, arith, length}
use Rattle.std.specs.Prelude.{None, slice_get}
use Rattle.std.proofs.lemmas.Option.{same_Some, slice_get_within}
use Rattle.flow_term.specs.declared.term.Term.{Term}
use Rattle.flow_term.specs.declared.graph.Node.{Node}
use Rattle.flow_term.specs.declared.graph.NodeKind.{NodeKind}
use Rattle.flow_term.specs.declared.graph.NodeKind.TheVariants as kind
use Rattle.flow_term.specs.declared.graph.Point.TheVariants as point
use Rattle.flow_term.specs.Annotations.{term_layer}
use Rattle.flow_term.specs.Trees.{children}
use Rattle.flow_syntax.specs.declared.spec.Spec.{Spec}
use Rattle.flow_syntax.specs.Control.{enters_child, rule_for}
use Rattle.flow_syntax.specs.Graph.{IsInner, below, point_of, point_of_kind}
use Rattle.flow_syntax.specs.Matching.{is_list}
use Rattle.flow_links.specs.Below.{LinksBelow}
use Rattle.rule_plans.specs.declared.stop.Stop.{Stop}
use Rattle.rule_plans.specs.declared.stop.Stop.TheVariants.{Entry, Exit, Start, End, This, ChildEntry, ChildExit, Child}
use Rattle.rule_plans.specs.declared.stop.Step.{Step}
use Rattle.rule_plans.specs.Hops.{Leads}
use Rattle.way_theory.specs.Ways.{Way}
use Rattle.way_theory.specs.Lists.{IsLastBefore, at_label, onward_through, out_at, then_passed}
use Rattle.graph_laws.specs.Owners.{HasPlacedItems}
use Rattle.graph_laws.specs.Parts.{onward, child_entry, child_exit, child_first, child_last, child_passes}
use Rattle.graph_laws.proofs.Nodes.{no_inner_node}
use Rattle.graph_laws.proofs.Wholes.{of_child, there}
use Rattle.graph_shape.specs.declared.outer.Side.{Side}
use Rattle.graph_shape.specs.declared.outer.Side.TheVariants.{First, Last}
use Rattle.graph_shape.specs.Laws.{AreChildBits, HasOuter}
use Rattle.graph_shape.specs.Mirrored.{AreMirrored, mirror}
use Rattle.graph_shape.specs.Outer.{item_at, stop_node}
use Rattle.graph_shape.specs.Plans.{point_at, IsPlanOf, Opens, at_itself, at_child, Closes, of_itself, of_child as of_exit}
use Rattle.graph_shape.proofs.Children.{list_firsts, list_lasts}
use Rattle.graph_shape.proofs.MirroredPlans.{leads_mirrored, mirror_twice}
use Rattle.graph_shape.proofs.StopWays.{came_far, exit_entered, firsts_at, lasts_at}

pub node_point : (path : List ℕ) (u : Stop) (n : Node) → stop_node path u ≡ Some n → point_of n ≡ point_at path u
node_point path Start n h = ap point_of (sym (same_Some (record { path = path; kind = kind.Start }) n h))
node_point path End n h = ap point_of (sym (same_Some (record { path = path; kind = kind.End }) n h))
node_point path This n h = ap point_of (sym (same_Some (record { path = path; kind = kind.Node }) n h))
node_point path (Child k) n h = ap point_of (sym (same_Some (record { path = below path k; kind = kind.Node }) n h))
node_point path Entry n h = cc
node_point path Exit n h = cc
node_point path (ChildEntry k) n h = cc
node_point path (ChildExit k) n h = cc

start_path : (p q : List ℕ) → point.Start p ≡ point.Start q → p ≡ q
start_path p q h = cc

end_path : (p q : List ℕ) → point.End p ≡ point.End q → p ≡ q
end_path p q h = cc

node_path : (p q : List ℕ) → point.Node p ≡ point.Node q → p ≡ q
node_path p q h = cc

pub point_node : (path : List ℕ) (u : Stop) (k : NodeKind) (p : List ℕ) → point_of_kind k p ≡ point_at path u → stop_node path u ≡ Some (record { path = p; kind = k })
point_node path Start kind.Start p h = ap (λ (q : List ℕ). Some (record { path = q; kind = kind.Start })) (sym (start_path p path h))
point_node path End kind.End p h = ap (λ (q : List ℕ). Some (record { path = q; kind = kind.End })) (sym (end_path p path h))
point_node path This kind.Node p h = ap (λ (q : List ℕ). Some (record { path = q; kind = kind.Node })) (sym (node_path p path h))
point_node path (Child j) kind.Node p h = ap (λ (q : List ℕ). Some (record { path = q; kind = kind.Node })) (sym (node_path p (below path j) h))
point_node path Entry k p h = absurd (no_inner_node (record { path = p; kind = k }) (subst IsInner (sym h) tt))
point_node path Exit k p h = absurd (no_inner_node (record { path = p; kind = k }) (subst IsInner (sym h) tt))
point_node path (ChildEntry j) k p h = absurd (no_inner_node (record { path = p; kind = k }) (subst IsInner (sym h) tt))
point_node path (ChildExit j) k p h = absurd (no_inner_node (record { path = p; kind = k }) (subst IsInner (sym h) tt))
point_node _ _ _ _ h = cc

-- a stop is the node that its mirror is
pub stop_node_mirror : (path : List ℕ) (s : Stop) → stop_node path (mirror s) ≡ stop_node path s
stop_node_mirror path Entry = refl
stop_node_mirror path Exit = refl
stop_node_mirror path Start = refl
stop_node_mirror path End = refl
stop_node_mirror path This = refl
stop_node_mirror path (ChildEntry k) = refl
stop_node_mirror path (ChildExit k) = refl
stop_node_mirror path (Child k) = refl

module _ (spec : Spec) (n : Node) where
  -- an outer node of a child
  abbrev pub HasChildOuter : Side → Term → List ℕ → ℕ → Type 0
  HasChildOuter First t path k = child_first spec true t path k (point_of n)
  HasChildOuter Last t path k = child_last spec true t path k onward (point_of n)

  -- an outer node of an entered child is one below it
  pub down : (side : Side) (t : Term) (path : List ℕ) (k : ℕ) (child : Term) → slice_get (children t) k ≡ Some child → enters_child (rule_for spec t) true t k ≡ true
      → HasChildOuter side t path k ↔ HasOuter spec side child (below path k) n
  down First t path k child is entered =
      let ways = of_child spec true t path k child is (child_entry path k) (point_of n) in (
        λ f. subst (λ (b : Bool). Way IsInner (LinksBelow spec b child (below path k)) (point.In (below path k)) (point_of n)) entered (ways.0 f.way),
        λ w. record { node = no_inner_node n; way = ways.1 (subst (λ (b : Bool). Way IsInner (LinksBelow spec b child (below path k)) (point.In (below path k)) (point_of n)) (sym entered) w) },
      )
  down Last t path k child is entered =
      let ways = of_child spec true t path k child is (point_of n) (child_exit path k onward) in (
        λ f. subst (λ (b : Bool). Way IsInner (LinksBelow spec b child (below path k)) (point_of n) (point.Out (below path k))) entered (ways.0 f.way),
        λ w. record { node = no_inner_node n; way = ways.1 (subst (λ (b : Bool). Way IsInner (LinksBelow spec b child (below path k)) (point_of n) (point.Out (below path k))) (sym entered) w) },
      )

  -- a child with an outer node is there
  pub outer_there : (side : Side) (t : Term) (path : List ℕ) (k : ℕ) → HasChildOuter side t path k → (child : Term) × (slice_get (children t) k ≡ Some child)
  outer_there First t path k f = there spec true t path k (child_entry path k) (point_of n) f.way
  outer_there Last t path k f = there spec true t path k (point_of n) (child_exit path k onward) f.way

  -- the stop is the node, or the entry of a child that has it as an outer node
  pub data IsOuterAt (side : Side) (t : Term) (path : List ℕ) (u : Stop) : Type 0 where
    node_is : stop_node path u ≡ Some n → IsOuterAt side t path u
    child_has : (k : ℕ) → u ≡ ChildEntry k → HasChildOuter side t path k → IsOuterAt side t path u

  pub record OuterByStops (side : Side) (t : Term) (path : List ℕ) (steps : List Step) (bits : List Bool) : Type 0 where
    pub stop : Stop
    pub reached : Leads steps bits Entry stop
    pub outer : IsOuterAt side t path stop

  module _ (placed : HasPlacedItems spec) (t : Term) (path : List ℕ) (steps : List Step) (plan : IsPlanOf (rule_for spec t) t steps) (bits : List Bool) (passed : AreChildBits spec t path bits) where
    -- the first nodes by stops
    pub firsts_by : HasOuter spec First t path n ↔ OuterByStops First t path steps bits
    firsts_by =
        let both = firsts_at spec t path steps plan bits passed placed n in
        (λ w. (let f = both.0 w in record { stop = f.stop; reached = f.reached; outer = forth f.stop f.opens }), λ o. both.1 (record { stop = o.stop; reached = o.reached; opens = back o.stop o.outer }))
      where
        forth : (u : Stop) → Opens path (λ k m. child_first spec true t path k (point_of m)) u n → IsOuterAt First t path u
        forth u (at_itself e) = node_is (point_node path u n.kind n.path e)
        forth u (at_child k e f) = child_has k e f

        back : (u : Stop) → IsOuterAt First t path u → Opens path (λ k m. child_first spec true t path k (point_of m)) u n
        back u (node_is e) = at_itself (node_point path u n e)
        back u (child_has k e f) = at_child k e f

    -- the last nodes by the stops of the mirrored plan
    pub lasts_by : (turned : List Step) → AreMirrored steps turned → HasOuter spec Last t path n ↔ OuterByStops Last t path turned bits
    lasts_by turned mirrored =
        let both = lasts_at spec t path steps plan bits passed placed n in (
          λ w. (let f = both.0 w in record { stop = mirror f.stop; reached = (leads_mirrored steps turned mirrored bits f.stop Exit).0 f.reached; outer = forth f.stop f.closes }),
          λ o. both.1 (record {
            stop = mirror o.stop;
            reached = (leads_mirrored steps turned mirrored bits (mirror o.stop) Exit).1 (subst (λ (v : Stop). Leads turned bits Entry v) (sym (mirror_twice o.stop)) o.reached);
            closes = back o.stop o.outer;
          }),
        )
      where
        forth : (s : Stop) → Closes path (λ k m. child_last spec true t path k onward (point_of m)) s n → IsOuterAt Last t path (mirror s)
        forth s (of_itself e) = node_is (stop_node_mirror path s ∙ point_node path s n.kind n.path e)
        forth s (of_exit k e f) = child_has k (ap mirror e) f

        back : (u : Stop) → IsOuterAt Last t path u → Closes path (λ k m. child_last spec true t path k onward (point_of m)) (mirror u) n
        back u (node_is e) = of_itself (node_point path (mirror u) n (stop_node_mirror path u ∙ e))
        back u (child_has k e f) = of_exit k (ap mirror e) f

    -- a child whose entry is reached is entered
    pub first_entered : (k : ℕ) → Leads steps bits Entry (ChildEntry k) → enters_child (rule_for spec t) true t k ≡ true
    first_entered k l = (came_far spec t path steps plan bits passed Entry (ChildEntry k) (λ j e. cc) l).1 k refl

    pub last_entered : (turned : List Step) → AreMirrored steps turned → (k : ℕ) → Leads turned bits Entry (ChildEntry k) → enters_child (rule_for spec t) true t k ≡ true
    last_entered turned mirrored k l = exit_entered spec t path steps plan bits passed k Exit ((leads_mirrored steps turned mirrored bits (ChildExit k) Exit).1 l)

  -- the outer nodes of an entered list: of the k-th item, where all that come before it are passed
  pub record OuterOfList (side : Side) (t : Term) (path : List ℕ) (m : ℕ) : Type 0 where
    pub k : ℕ
    pub within : k < m
    pub passed : (j : ℕ) → j < k → child_passes spec true t path (item_at side m j) onward
    pub outer : HasChildOuter side t path (item_at side m k)

  module _ (placed : HasPlacedItems spec) (t : Term) (path : List ℕ) (of_list : IsTrue (is_list (term_layer t))) (no_rule : rule_for spec t ≡ None) where
    turn_back : (m k : ℕ) → k < m → item_at Last m (item_at Last m k) ≡ k
    turn_back m k h = omega arith

    lasts_forth : IsLastBefore onward (length (children t)) (child_last spec true t path) (child_passes spec true t path) onward (point_of n) → OuterOfList Last t path (length (children t))
    lasts_forth (at_label k other l) = absurd (other refl)
    lasts_forth (then_passed k l (out_at j other from within p passes)) = absurd (other refl)
    lasts_forth (then_passed k l (onward_through e p)) =
        let child = outer_there Last t path k l in
        let inside : k < length (children t) = slice_get_within (children t) k child.0 child.1 in
        record {
          k = item_at Last (length (children t)) k;
          within = omega arith;
          passed = λ j less. p (item_at Last (length (children t)) j) (omega arith) (omega arith);
          outer = subst (λ (i : ℕ). HasChildOuter Last t path i) (sym (turn_back (length (children t)) k inside)) l;
        }

    lasts_back : OuterOfList Last t path (length (children t)) → IsLastBefore onward (length (children t)) (child_last spec true t path) (child_passes spec true t path) onward (point_of n)
    lasts_back o = then_passed (item_at Last (length (children t)) o.k) o.outer
        (onward_through refl (λ i from less. (let w : o.k < length (children t) = o.within in
        subst (λ (j : ℕ). child_passes spec true t path j onward) (turn_back (length (children t)) i less)
        (o.passed (item_at Last (length (children t)) i) (omega arith)))))

    pub list_outer : (side : Side) → HasOuter spec side t path n ↔ OuterOfList side t path (length (children t))
    list_outer First = (
      λ w. (let f = (list_firsts spec placed t path of_list no_rule n).0 w in record { k = f.k; within = f.within; passed = λ j less. f.passed j (omega arith) less; outer = f.node }),
      λ o. (list_firsts spec placed t path of_list no_rule n).1 (record { k = o.k; from = omega arith; within = o.within; passed = λ j _ less. o.passed j less; node = o.outer }),
    )
    list_outer Last = (λ w. lasts_forth ((list_lasts spec placed t path of_list no_rule n).0 w), λ o. (list_lasts spec placed t path of_list no_rule n).1 (lasts_back o))
