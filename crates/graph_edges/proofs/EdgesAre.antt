-- The edges that are listed from the shape of a tree are the edges of the tree.
use Rattle.std.proofs.Common.{◌≡◌, ◌↔◌, ◌⊎◌, ℕ, zero, suc, ◌<◌, ◌≤◌, ◌^◌, Bool, true, false, ◌&&◌, ◌||◌, List, [], Option, Some, None, cond, refl, sym, ap, subst, ◌∙◌, inl, inr, arith, true≢false}
use Rattle.std.specs.Prelude.{slice_get}
use Rattle.std.specs.List.{list_any}
use Rattle.std.specs.Option.{option_map_or}
use Rattle.std.proofs.lemmas.Option.{get_or_from_slice_get, same_Some, slice_get_within}
use Rattle.flow_term.specs.declared.graph.Edge.{Edge}
use Rattle.flow_term.specs.declared.graph.Point.TheVariants as point
use Rattle.flow_term.specs.declared.term.Term.{Term}
use Rattle.flow_term.specs.Annotations.{term_layer}
use Rattle.flow_term.specs.Trees.{children, term_size}
use Rattle.flow_syntax.specs.declared.rule.FlowRule.{FlowRule}
use Rattle.flow_syntax.specs.declared.spec.Spec.{Spec}
use Rattle.flow_syntax.specs.Control.{HasBoundItems, HasLongChains, enters_child, rule_for}
use Rattle.flow_syntax.specs.Graph.{IsEdge, IsInner, below, point_of}
use Rattle.flow_syntax.specs.Matching.{is_list}
use Rattle.flow_links.specs.Below.{LinksBelow}
use Rattle.flow_links.proofs.SizeLemmas.{child_smaller, few_children}
use Rattle.path_tree.specs.declared.tree.PathTree.{PathTree}
use Rattle.path_tree.specs.Shapes.{children_of}
use Rattle.way_theory.specs.Ways.{Way}
use Rattle.way_theory.proofs.PartLemmas.{ways_split}
use Rattle.way_theory.proofs.WayLemmas.{way_map}
use Rattle.graph_laws.specs.Owners.{HasPlacedItems, Owns}
use Rattle.graph_laws.specs.Parts.{LinksOfChild, child_entry, child_exit, exit_at, own_links}
use Rattle.graph_laws.proofs.Apart.{IsAtChild, parts_apart}
use Rattle.graph_laws.proofs.EdgeWays.{edge_way}
use Rattle.graph_laws.proofs.Nodes.{no_inner_node}
use Rattle.graph_laws.proofs.Wholes.{of_child, there, whole_way}
use Rattle.graph_shape.specs.declared.kept.Kept.{Kept}
use Rattle.graph_shape.specs.Shapes.{AreUsable, HasNoListRules, IsShapeOf, summary_of}
use Rattle.graph_shape.specs.Steps.{steps_for}
use Rattle.graph_shape.proofs.ChildBits.{got_child}
use Rattle.graph_shape.proofs.Passable.{plan_is}
use Rattle.graph_shape.proofs.ShapeParts.{kept_of, shapes_of}
use Rattle.graph_edges.specs.declared.plans.BothPlans.{BothPlans}
use Rattle.graph_edges.specs.Below.{IsEdgeBelow, counts, enters_part, here, in_child, is_root, touches}
use Rattle.graph_edges.specs.Owned.{AreBothPlans, IsOwnedIn}
use Rattle.graph_edges.proofs.Entering.{enters_is, plain_enters, root_is}
use Rattle.graph_edges.proofs.OwnedAre.{owned_are}
use Rattle.graph_edges.proofs.Unentered.{unentered_owns}

root_rule : (m : Option FlowRule) → (option_map_or (λ (r : FlowRule). r.root) m false || false) ≡ true → (rule : FlowRule) × (m ≡ Some rule) × (rule.root ≡ true)
root_rule None h = absurd (true≢false (sym h))
root_rule (Some rule) h = (rule, refl, by rule.root h)
  where
    by : (b : Bool) → (b || false) ≡ true → b ≡ true
    by true h = refl
    by false h = h

counts_entered : (b : Bool) → (b || true) ≡ true
counts_entered true = refl
counts_entered false = refl

counts_root : (m : Option FlowRule) (rule : FlowRule) → m ≡ Some rule → rule.root ≡ true → (option_map_or (λ (r : FlowRule). r.root) m false || false) ≡ true
counts_root m rule is root = ap (λ (o : Option FlowRule). option_map_or (λ (r : FlowRule). r.root) o false || false) is ∙ ap (λ (b : Bool). b || false) root

list_enters : (entered list : Bool) → list ≡ true → ((entered && list) || false) ≡ entered
list_enters true true h = refl
list_enters false true h = refl
list_enters entered false h = absurd (true≢false (sym h))

module _ (spec : Spec) (plans : BothPlans) (are : AreBothPlans spec.control plans) (placed : HasPlacedItems spec) (lists : HasNoListRules spec) (long : HasLongChains spec) (bound : HasBoundItems spec) (e : Edge) where
  usable : AreUsable spec plans.forth
  usable = record { made = are.forth; placed = placed; lists = lists }

  abbrev WayBelow : Bool → Term → List ℕ → Type 0
  WayBelow entered t path = Way IsInner (LinksBelow spec entered t path) (point_of e.from) (point_of e.to)

  -- the ways between two nodes are those in a child and those that the position owns
  nodes_split : (entered : Bool) (t : Term) (path : List ℕ) → WayBelow entered t path
      ↔ (((k : ℕ) × Way IsInner (LinksOfChild spec entered t path k) (point_of e.from) (point_of e.to)) ⊎ Owns spec entered t path e.from e.to)
  nodes_split entered t path =
      let both = ways_split IsInner (own_links spec entered t path) (LinksOfChild spec entered t path) (point.In path) (exit_at path) (child_entry path) (child_exit path)
      (IsAtChild path) (parts_apart spec placed entered t path) (point_of e.from) (point_of e.to) (inr (no_inner_node e.from)) (inr (no_inner_node e.to)) in
      let whole = whole_way spec entered t path (point_of e.from) (point_of e.to) in
      (λ w. both.0 (whole.0 w), λ h. whole.1 (both.1 h))

  module _ (t : Term) (s : PathTree Kept) (shape : IsShapeOf spec t s) (small : term_size t < 2 ^ 32) where
    counts_is : (entered : Bool) → counts plans entered s ≡ (option_map_or (λ (r : FlowRule). r.root) (rule_for spec t) false || entered)
    counts_is entered =
        ap (λ (roots : List Bool). is_root roots (summary_of s).rule || entered) are.roots
        ∙ ap (λ (b : Bool). b || entered) (root_is spec.control (summary_of s).rule (rule_for spec t) (kept_of spec t s shape).rule)

    -- a position that counts owns what it owns by its shape
    owns_forth : (entered : Bool) (path : List ℕ) → counts plans entered s ≡ true → IsOwnedIn plans s path e → Owns spec entered t path e.from e.to
    owns_forth true path c o = (owned_are spec plans usable are.back t s shape small path e).0 o
    owns_forth false path c o =
        let r = root_rule (rule_for spec t) (sym (counts_is false) ∙ c) in
        (unentered_owns spec placed lists t path e.from e.to).1 (record { rule = r.0; is = r.1; root = r.2 }, (owned_are spec plans usable are.back t s shape small path e).0 o)

    owns_back : (entered : Bool) (path : List ℕ) → Owns spec entered t path e.from e.to → IsEdgeBelow plans e entered s path
    owns_back true path w = here true s path (counts_is true ∙ counts_entered (option_map_or (λ (r : FlowRule). r.root) (rule_for spec t) false)) ((owned_are spec plans usable are.back t s shape small path e).1 w)
    owns_back false path w =
        let o = (unentered_owns spec placed lists t path e.from e.to).0 w in
        here false s path (counts_is false ∙ counts_root (rule_for spec t) o.0.rule o.0.is o.0.root) ((owned_are spec plans usable are.back t s shape small path e).1 o.1)

    -- the shape tells which children are entered
    part_enters : (entered : Bool) (k : ℕ) → enters_part plans entered s k ≡ enters_child (rule_for spec t) entered t k
    part_enters entered k = by (summary_of s).list refl
      where
        by : (b : Bool) → (summary_of s).list ≡ b → enters_part plans entered s k ≡ enters_child (rule_for spec t) entered t k
        by true h =
            let of_list : is_list (term_layer t) ≡ true = sym (kept_of spec t s shape).list ∙ h in
            ap (λ (b : Bool). cond b entered (counts plans entered s && list_any (touches k) (steps_for plans.forth (summary_of s).rule))) h
            ∙ sym (ap (λ (m : Option FlowRule). enters_child m entered t k) (lists t of_list) ∙ list_enters entered (is_list (term_layer t)) of_list)
        by false h =
            let plain : is_list (term_layer t) ≡ false = sym (kept_of spec t s shape).list ∙ h in
            let plan = plan_is spec plans.forth t (summary_of s).rule are.forth small (kept_of spec t s shape).rule plain in
            ap (λ (b : Bool). cond b entered (counts plans entered s && list_any (touches k) (steps_for plans.forth (summary_of s).rule))) h
            ∙ ap (λ (b : Bool). b && list_any (touches k) (steps_for plans.forth (summary_of s).rule)) (counts_is entered)
            ∙ ap (λ (b : Bool). (option_map_or (λ (r : FlowRule). r.root) (rule_for spec t) false || entered) && b) (enters_is spec long bound t plain (steps_for plans.forth (summary_of s).rule) plan k)
            ∙ plain_enters t plain (rule_for spec t) entered k

    child_at : (k : ℕ) (c : PathTree Kept) → slice_get (children_of s) k ≡ Some c → (child : Term) × (slice_get (children t) k ≡ Some child) × IsShapeOf spec child c
    child_at k c is =
        let shapes = shapes_of spec t s shape in
        let u = got_child (children t) (children_of s) k c shapes.count is in
        let p = shapes.each k u.0 u.1 in
        (u.0, u.1, subst (λ (x : PathTree Kept). IsShapeOf spec u.0 x) (same_Some p.shape c (sym p.at ∙ is)) p.is)

    child_less : (k : ℕ) (child : Term) → slice_get (children t) k ≡ Some child → term_size child < term_size t
    child_less k child is = child_smaller t (children t) k child refl (slice_get_within (children t) k child is) (sym (get_or_from_slice_get (children t) k child child is))

    small_child : (k : ℕ) (child : Term) → slice_get (children t) k ≡ Some child → term_size child < 2 ^ 32
    small_child k child is = omega (arith, child_less k child is, small)

    way_of_child : (entered : Bool) (path : List ℕ) (k : ℕ) (child : Term) → slice_get (children t) k ≡ Some child → WayBelow (enters_part plans entered s k) child (below path k) → WayBelow entered t path
    way_of_child entered path k child is w =
        (nodes_split entered t path).1 (inl (k, (of_child spec entered t path k child is (point_of e.from) (point_of e.to)).1 (subst (λ (b : Bool). WayBelow b child (below path k)) (part_enters entered k) w)))

  sound : (entered : Bool) (s : PathTree Kept) (path : List ℕ) (t : Term) → IsShapeOf spec t s → term_size t < 2 ^ 32 → IsEdgeBelow plans e entered s path → WayBelow entered t path
  sound _ _ _ t shape small (here entered s path c o) = (nodes_split entered t path).1 (inr (owns_forth t s shape small entered path c o))
  sound _ _ _ t shape small (in_child entered s path k c is h) =
      let child = child_at t s shape small k c is in
      way_of_child t s shape small entered path k child.0 child.1
      (sound (enters_part plans entered s k) c (below path k) child.0 child.2 (small_child t s shape small k child.0 child.1) h)

  complete : (m : ℕ) (entered : Bool) (t : Term) (s : PathTree Kept) (path : List ℕ) → term_size t ≤ m → IsShapeOf spec t s → term_size t < 2 ^ 32 → WayBelow entered t path → IsEdgeBelow plans e entered s path
  complete zero entered t s path most shape small w = absurd (omega (arith, few_children t))
  complete (suc m) entered t s path most shape small w =
      elim ((nodes_split entered t path).0 w) [
        | inl v ↦
            let child = there spec entered t path v.0 (point_of e.from) (point_of e.to) v.1 in
            let p = (shapes_of spec t s shape).each v.0 child.0 child.1 in
            in_child entered s path v.0 p.shape p.at
            (complete m (enters_part plans entered s v.0) child.0 p.shape (below path v.0) (omega (arith, child_less t s shape small v.0 child.0 child.1, most)) p.is (small_child t s shape small v.0 child.0 child.1)
            (subst (λ (b : Bool). WayBelow b child.0 (below path v.0)) (sym (part_enters t s shape small entered v.0)) ((of_child spec entered t path v.0 child.0 child.1 (point_of e.from) (point_of e.to)).0 v.1)))
        | inr o ↦ owns_back t s shape small entered path o
      ]

  -- the edges by the shape of a tree are those of the tree
  pub edges_are : (tree : Term) (s : PathTree Kept) → IsShapeOf spec tree s → term_size tree < 2 ^ 32 → IsEdgeBelow plans e false s [] ↔ IsEdge spec tree e.from e.to
  edges_are tree s shape small = (
    λ h. (edge_way spec tree e.from e.to).1 (way_map IsInner _ _ (point_of e.from) (point_of e.to) (λ x y l. record { path = l.rest; t = l.u; position = l.position; made = l.made }) (sound false s [] tree shape small h)),
    λ w. complete (term_size tree) false tree s [] (omega arith) shape small
        (way_map IsInner _ _ (point_of e.from) (point_of e.to) (λ x y l. record { rest = l.path; u = l.t; position = l.position; made = l.made }) ((edge_way spec tree e.from e.to).0 w)),
  )
