-- The outer nodes by the shape are those of the entered position.
use Rattle.std.proofs.Common.{◌≡◌, ◌↔◌, ℕ, zero, suc, ◌<◌, ◌≤◌, ◌^◌, Bool, true, false, IsTrue, List, Some, refl, sym, subst, ◌∙◌, arith, length}
use Rattle.std.specs.Prelude.{slice_get}
use Rattle.std.proofs.lemmas.Option.{get_or_from_slice_get, same_Some, slice_get_within}
use Rattle.flow_term.specs.declared.term.Term.{Term}
use Rattle.flow_term.specs.declared.graph.Node.{Node}
use Rattle.flow_term.specs.Annotations.{term_layer}
use Rattle.flow_term.specs.Trees.{children, term_size}
use Rattle.flow_syntax.specs.declared.spec.Spec.{Spec}
use Rattle.flow_syntax.specs.Control.{enters_child, rule_for}
use Rattle.flow_syntax.specs.Graph.{below}
use Rattle.flow_syntax.specs.Matching.{is_list}
use Rattle.flow_links.proofs.SizeLemmas.{child_smaller, few_children}
use Rattle.path_tree.specs.declared.tree.PathTree.{PathTree}
use Rattle.path_tree.specs.Shapes.{children_of}
use Rattle.rule_plans.specs.declared.stop.Stop.{Stop}
use Rattle.rule_plans.specs.declared.stop.Stop.TheVariants.{Entry, ChildEntry}
use Rattle.rule_plans.specs.Hops.{Leads}
use Rattle.graph_laws.specs.Parts.{onward, child_passes}
use Rattle.graph_shape.specs.declared.kept.Kept.{Kept}
use Rattle.graph_shape.specs.declared.outer.Side.{Side}
use Rattle.graph_shape.specs.declared.outer.Side.TheVariants.{First, Last}
use Rattle.graph_shape.specs.declared.plans.Plans.{Plans}
use Rattle.graph_shape.specs.Laws.{HasOuter}
use Rattle.graph_shape.specs.Mirrored.{ArePlansOf}
use Rattle.graph_shape.specs.Outer.{ArePassedBefore, IsOuterIn, at_child, at_item, at_stop, item_at}
use Rattle.graph_shape.specs.Plans.{IsPlanOf}
use Rattle.graph_shape.specs.Shapes.{AreShapesOf, AreUsable, IsShapeOf, bits_of, summary_of, would_pass}
use Rattle.graph_shape.specs.Steps.{steps_for}
use Rattle.graph_shape.proofs.ChildBits.{child_bit, got_child, passed_by_bits}
use Rattle.graph_shape.proofs.OuterNodes.{get_some}
use Rattle.graph_shape.proofs.Passable.{plan_is}
use Rattle.graph_shape.proofs.ShapeParts.{kept_of, shapes_of}
use Rattle.graph_shape.proofs.Sides.{IsOuterAt, OuterByStops, OuterOfList, child_has, down, first_entered, firsts_by, last_entered, lasts_by, list_outer, node_is, outer_there}
use Rattle.graph_shape.proofs.StopPoints.{by_list}

abbrev kept_list : PathTree Kept → Bool
kept_list s = (summary_of s).list

item_within : (side : Side) (m k : ℕ) → k < m → item_at side m k < m
item_within First m k h = h
item_within Last m k h = omega arith

module _ (spec : Spec) (plans : Plans) (usable : AreUsable spec plans) (side : Side) (used : Plans) (of_side : ArePlansOf side plans used) (n : Node) where
  abbrev IsOuterBelow : Term → List ℕ → Type 0
  IsOuterBelow t path = HasOuter spec side t path n

  -- the shape of a small term
  abbrev IsSmallShape : Term → PathTree Kept → Type 0
  IsSmallShape t s = IsShapeOf spec t s × (term_size t < 2 ^ 32)

  small_child : (t : Term) (k : ℕ) (child : Term) → slice_get (children t) k ≡ Some child → term_size t < 2 ^ 32 → term_size child < 2 ^ 32
  small_child t k child is small =
      let f : term_size child < term_size t = child_smaller t (children t) k child refl (slice_get_within (children t) k child is) (sym (get_or_from_slice_get (children t) k child child is)) in
      omega (arith, f, small)

  module _ (t : Term) (s : PathTree Kept) (path : List ℕ) (shape : IsSmallShape t s) where
    shapes : AreShapesOf spec (children t) (children_of s)
    shapes = shapes_of spec t s shape.0

    list_term : kept_list s ≡ true → is_list (term_layer t) ≡ true
    list_term items = sym (kept_of spec t s shape.0).list ∙ items

    plan : kept_list s ≡ false → IsPlanOf (rule_for spec t) t (steps_for plans (summary_of s).rule)
    plan plain = plan_is spec plans t (summary_of s).rule usable.made shape.1 (kept_of spec t s shape.0).rule (sym (kept_of spec t s shape.0).list ∙ plain)

    by_stops : (d : Side) → ArePlansOf d plans used → kept_list s ≡ false → HasOuter spec d t path n ↔ OuterByStops spec n d t path (steps_for used (summary_of s).rule) (bits_of (children_of s))
    by_stops First of plain =
        subst (λ (p : Plans). HasOuter spec First t path n ↔ OuterByStops spec n First t path (steps_for p (summary_of s).rule) (bits_of (children_of s))) (sym of)
        (firsts_by spec n usable.placed t path (steps_for plans (summary_of s).rule) (plan plain) (bits_of (children_of s)) (passed_by_bits spec usable.placed t path (children_of s) shapes))
    by_stops Last of plain =
        lasts_by spec n usable.placed t path (steps_for plans (summary_of s).rule) (plan plain) (bits_of (children_of s)) (passed_by_bits spec usable.placed t path (children_of s) shapes)
        (steps_for used (summary_of s).rule) (of (summary_of s).rule)

    entered_by : (d : Side) → ArePlansOf d plans used → kept_list s ≡ false → (k : ℕ) → Leads (steps_for used (summary_of s).rule) (bits_of (children_of s)) Entry (ChildEntry k) → enters_child (rule_for spec t) true t k ≡ true
    entered_by First of plain k l =
        first_entered spec n usable.placed t path (steps_for plans (summary_of s).rule) (plan plain) (bits_of (children_of s)) (passed_by_bits spec usable.placed t path (children_of s) shapes) k
        (subst (λ (p : Plans). Leads (steps_for p (summary_of s).rule) (bits_of (children_of s)) Entry (ChildEntry k)) of l)
    entered_by Last of plain k l =
        last_entered spec n usable.placed t path (steps_for plans (summary_of s).rule) (plan plain) (bits_of (children_of s)) (passed_by_bits spec usable.placed t path (children_of s) shapes)
        (steps_for used (summary_of s).rule) (of (summary_of s).rule) k l

    -- the child of a shape's child
    child_at : (k : ℕ) (c : PathTree Kept) → slice_get (children_of s) k ≡ Some c → (child : Term) × (slice_get (children t) k ≡ Some child) × IsSmallShape child c
    child_at k c is =
        let u = got_child (children t) (children_of s) k c shapes.count is in
        let p = shapes.each k u.0 u.1 in
        (u.0, u.1, (subst (λ (x : PathTree Kept). IsShapeOf spec u.0 x) (same_Some p.shape c (sym p.at ∙ is)) p.is, small_child t k u.0 u.1 shape.1))

    list_has : kept_list s ≡ true → IsOuterBelow t path ↔ OuterOfList spec n side t path (length (children_of s))
    list_has items =
        subst (λ (m : ℕ). HasOuter spec side t path n ↔ OuterOfList spec n side t path m) (sym shapes.count)
        (list_outer spec n usable.placed t path (list_term items) (usable.lists t (list_term items)) side)

    item_passes : kept_list s ≡ true → (j : ℕ) (child : Term) (d : PathTree Kept) → slice_get (children t) j ≡ Some child → IsShapeOf spec child d → IsTrue (would_pass d) ↔ child_passes spec true t path j onward
    item_passes items j child d is sub = child_bit spec usable.placed t path (children_of s) shapes j child d is sub (by_list (rule_for spec t) t j (list_term items))

    -- from the outer nodes of the children
    sound_stop : kept_list s ≡ false → (u : Stop) → Leads (steps_for used (summary_of s).rule) (bits_of (children_of s)) Entry u → IsOuterAt spec n side t path u → IsOuterBelow t path
    sound_stop plain u leads outer = (by_stops side of_side plain).1 (record { stop = u; reached = leads; outer = outer })

    sound_child : kept_list s ≡ false → (k : ℕ) (child : Term) → Leads (steps_for used (summary_of s).rule) (bits_of (children_of s)) Entry (ChildEntry k) → slice_get (children t) k ≡ Some child → IsOuterBelow child (below path k) → IsOuterBelow t path
    sound_child plain k child leads is w = sound_stop plain (ChildEntry k) leads (child_has k refl ((down spec n side t path k child is (entered_by side of_side plain k leads)).1 w))

    sound_item : kept_list s ≡ true → (k : ℕ) (child : Term) → k < length (children_of s) → ArePassedBefore side (children_of s) k → slice_get (children t) (item_at side (length (children_of s)) k) ≡ Some child
        → IsOuterBelow child (below path (item_at side (length (children_of s)) k)) → IsOuterBelow t path
    sound_item items k child within passed is w = (list_has items).1 (record {
      k = k;
      within = within;
      passed = λ j less. (
          let i : ℕ = item_at side (length (children_of s)) j in
          let d = get_some (children_of s) i (item_within side (length (children_of s)) j (omega arith)) in
          let u = child_at i d.0 d.1 in
          (item_passes items i u.0 d.0 u.1 u.2.0).0 (passed j d.0 less d.1));
      outer = (down spec n side t path (item_at side (length (children_of s)) k) child is (by_list (rule_for spec t) t (item_at side (length (children_of s)) k) (list_term items))).1 w;
    })

  sound : (s : PathTree Kept) (path : List ℕ) (t : Term) → IsSmallShape t s → IsOuterIn used side n s path → IsOuterBelow t path
  sound _ _ t shape (at_stop s path u plain leads node) = sound_stop t s path shape plain u leads (node_is node)
  sound _ _ t shape (at_child s path k c plain leads is f) =
      let child = child_at t s path shape k c is in
      sound_child t s path shape plain k child.0 leads child.1 (sound c (below path k) child.0 child.2 f)
  sound _ _ t shape (at_item s path k c items within passed is f) =
      let child = child_at t s path shape (item_at side (length (children_of s)) k) c is in
      sound_item t s path shape items k child.0 within passed child.1 (sound c (below path (item_at side (length (children_of s)) k)) child.0 child.2 f)

  module _ (t : Term) (s : PathTree Kept) (path : List ℕ) (shape : IsSmallShape t s) (inner : (k : ℕ) (child : Term) (c : PathTree Kept) → slice_get (children t) k ≡ Some child → IsSmallShape child c → IsOuterBelow child (below path k) → IsOuterIn used side n c (below path k)) where
    whole_stop : kept_list s ≡ false → (u : Stop) → Leads (steps_for used (summary_of s).rule) (bits_of (children_of s)) Entry u → IsOuterAt spec n side t path u → IsOuterIn used side n s path
    whole_stop plain u leads (node_is e) = at_stop s path u plain leads e
    whole_stop plain u leads (child_has k e f) =
        let child = outer_there spec n side t path k f in
        let p = (shapes t s path shape).each k child.0 child.1 in
        let reached : Leads (steps_for used (summary_of s).rule) (bits_of (children_of s)) Entry (ChildEntry k) = subst (λ (x : Stop). Leads (steps_for used (summary_of s).rule) (bits_of (children_of s)) Entry x) e leads in
        at_child s path k p.shape plain reached p.at
        (inner k child.0 p.shape child.1 (p.is, small_child t k child.0 child.1 shape.1) ((down spec n side t path k child.0 child.1 (entered_by t s path shape side of_side plain k reached)).0 f))

    whole : (b : Bool) → kept_list s ≡ b → IsOuterBelow t path → IsOuterIn used side n s path
    whole false plain w = let f = (by_stops t s path shape side of_side plain).0 w in whole_stop plain f.stop f.reached f.outer
    whole true items w =
        let f = (list_has t s path shape items).0 w in
        let i : ℕ = item_at side (length (children_of s)) f.k in
        let child = outer_there spec n side t path (item_at side (length (children_of s)) f.k) f.outer in
        let p = (shapes t s path shape).each (item_at side (length (children_of s)) f.k) child.0 child.1 in
        at_item s path f.k p.shape items f.within
        (λ j d less is.
        let u = child_at t s path shape (item_at side (length (children_of s)) j) d is in
        (item_passes t s path shape items (item_at side (length (children_of s)) j) u.0 d u.1 u.2.0).1 (f.passed j less))
        p.at
        (inner (item_at side (length (children_of s)) f.k) child.0 p.shape child.1 (p.is, small_child t (item_at side (length (children_of s)) f.k) child.0 child.1 shape.1)
        ((down spec n side t path (item_at side (length (children_of s)) f.k) child.0 child.1 (by_list (rule_for spec t) t (item_at side (length (children_of s)) f.k) (list_term t s path shape items))).0 f.outer))

  complete : (m : ℕ) (t : Term) (s : PathTree Kept) (path : List ℕ) → term_size t ≤ m → IsSmallShape t s → IsOuterBelow t path → IsOuterIn used side n s path
  complete zero t s path small shape w = absurd (omega (arith, few_children t))
  complete (suc m) t s path small shape w =
      whole t s path shape (λ k child c is sub v. complete m child c (below path k) (less k child is) sub v) (kept_list s) refl w
    where
      less : (k : ℕ) (child : Term) → slice_get (children t) k ≡ Some child → term_size child ≤ m
      less k child is =
          let f : term_size child < term_size t = child_smaller t (children t) k child refl (slice_get_within (children t) k child is) (sym (get_or_from_slice_get (children t) k child child is)) in
          omega (arith, f, small)

  -- the outer nodes by the shape are those of the entered position, wherever it stands
  pub outer_are : (t : Term) (s : PathTree Kept) (path : List ℕ) → IsShapeOf spec t s → term_size t < 2 ^ 32 → IsOuterIn used side n s path ↔ HasOuter spec side t path n
  outer_are t s path shape small = (λ f. sound s path t (shape, small) f, λ w. complete (term_size t) t s path (omega arith) (shape, small) w)
