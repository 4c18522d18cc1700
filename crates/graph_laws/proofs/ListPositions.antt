-- An entered list that no rule matches: its links are those of a list of parts, so it is known by its items.
use Rattle.std.proofs.Common.{◌≡◌, ◌↔◌, ℕ, ◌-◌, ◌<◌, true, IsTrue, List, [], ◌∷◌, length, None, refl, sym, ap, arith}
use Rattle.std.proofs.lemmas.Option.{slice_get_within}
use Rattle.std.proofs.lemmas.Bool.{both_ways}
use Rattle.flow_term.specs.declared.term.Term.{Term}
use Rattle.flow_term.specs.declared.graph.Point.{Point}
use Rattle.flow_term.specs.declared.graph.Point.TheVariants as point
use Rattle.flow_term.specs.Annotations.{term_layer}
use Rattle.flow_term.specs.Trees.{children}
use Rattle.flow_syntax.specs.declared.spec.Spec.{Spec}
use Rattle.flow_syntax.specs.Matching.{is_list}
use Rattle.flow_syntax.specs.Control.{rule_for}
use Rattle.flow_syntax.specs.Graph.{IsInner, in_chain, through_empty, into_first, to_next, from_last, through_other, below, point_of}
use Rattle.way_theory.specs.Ways.{Way}
use Rattle.way_theory.specs.Parts.{Step, own_link, enter, leave, pass}
use Rattle.way_theory.specs.Lists.{AreDistinct, Gate, whole_entry, whole_exit, part_entry, part_exit, gate_point, ListLink, out_of_list}
use Rattle.way_theory.specs.Lists as lists
use Rattle.way_theory.proofs.WayLemmas.{way_map}
use Rattle.way_theory.proofs.ListLemmas.{list_first, list_last, list_owns, list_passes}
use Rattle.graph_laws.specs.Laws.{ListsKnownByItems}
use Rattle.graph_laws.specs.Parts.{Exit, onward, child_entry, child_exit, child_first, child_last, child_passes, exit_at, own_links, own_steps}
use Rattle.graph_laws.proofs.Apart.{exit_inner, no_longer, path_of, cancel}
use Rattle.graph_laws.proofs.Nodes.{no_inner_node}
use Rattle.graph_laws.proofs.Summaries.{first_by_steps, last_by_steps, passes_by_steps}
use Rattle.graph_laws.proofs.Wholes.{there}

module _ (path : List ℕ) where
  abbrev gate : Gate Exit → Point
  gate = gate_point (point.In path) (exit_at path) (child_entry path) (child_exit path)

  gate_inner : (g : Gate Exit) → IsInner (gate g)
  gate_inner whole_entry = tt
  gate_inner (whole_exit e) = exit_inner path e
  gate_inner (part_entry k) = tt
  gate_inner (part_exit k e) = exit_inner (below path k) e

  same_child : (j k : ℕ) → below path j ≡ below path k → j ≡ k
  same_child j k h = let e : j ∷ [] ≡ k ∷ [] = cancel path (j ∷ []) (k ∷ []) h in cc

  same_gate : (g h : Gate Exit) → gate g ≡ gate h → g ≡ h
  same_gate whole_entry whole_entry e = refl
  same_gate whole_entry (whole_exit onward) e = absurd (cc (e))
  same_gate whole_entry (part_entry k) e = absurd (no_longer path k [] (ap path_of e))
  same_gate whole_entry (part_exit k onward) e = absurd (cc (e))
  same_gate (whole_exit onward) whole_entry e = absurd (cc (e))
  same_gate (whole_exit onward) (whole_exit onward) e = refl
  same_gate (whole_exit onward) (part_entry k) e = absurd (cc (e))
  same_gate (whole_exit onward) (part_exit k onward) e = absurd (no_longer path k [] (ap path_of e))
  same_gate (part_entry j) whole_entry e = absurd (no_longer path j [] (ap path_of (sym e)))
  same_gate (part_entry j) (whole_exit onward) e = absurd (cc (e))
  same_gate (part_entry j) (part_entry k) e = ap part_entry (same_child j k (ap path_of e))
  same_gate (part_entry j) (part_exit k onward) e = absurd (cc (e))
  same_gate (part_exit j onward) whole_entry e = absurd (cc (e))
  same_gate (part_exit j onward) (whole_exit onward) e = absurd (no_longer path j [] (ap path_of (sym e)))
  same_gate (part_exit j onward) (part_entry k) e = absurd (cc (e))
  same_gate (part_exit j onward) (part_exit k onward) e = ap (λ (n : ℕ). part_exit n onward) (same_child j k (ap path_of e))

  -- the entries and exits of a position and of its children are distinct
  gates_distinct : AreDistinct IsInner (point.In path) (exit_at path) (child_entry path) (child_exit path)
  gates_distinct = record { inner = gate_inner; same = same_gate }

module _ (spec : Spec) (t : Term) (path : List ℕ) (of_list : IsTrue (is_list (term_layer t))) (no_rule : rule_for spec t ≡ None) where
  abbrev Own : Point → Point → Type 0
  Own = ListLink onward (point.In path) (exit_at path) (child_entry path) (child_exit path) (length (children t))

  -- the own links are those of a list
  to_own : (x y : Point) → own_links spec true t path x y → Own x y
  to_own x y (in_chain rule chain left right c h s l r) = absurd (cc (no_rule, c.0))
  to_own x y (through_empty e i f g) = lists.no_parts i.1 f g
  to_own x y (into_first n e i f g) = lists.into_first (omega (arith, i.1)) f g
  to_own x y (to_next n k e i w f g) = lists.to_next k (omega (arith, i.1, w)) f g
  to_own x y (from_last n e i f g) = lists.from_last n (sym i.1) f g
  to_own x y (through_other e n r f g) = absurd (both_ways (is_list (term_layer t)) n of_list)

  from_own : (x y : Point) → Own x y → own_links spec true t path x y
  from_own x y (lists.no_parts z f g) = through_empty refl (of_list, z) f g
  from_own x y (lists.into_first w f g) = into_first (length (children t) - 1) refl (of_list, omega (arith, w)) f g
  from_own x y (lists.to_next k w f g) = to_next (length (children t)) k refl (of_list, refl) w f g
  from_own x y (lists.from_last k w f g) = from_last k refl (of_list, sym w) f g
  from_own x y (out_of_list k onward w other f g) = absurd (other refl)

  abbrev ListSteps : Point → Point → Type 0
  ListSteps = Step Own (child_entry path) (child_exit path) (child_first spec true t path) (child_last spec true t path) (child_passes spec true t path)

  to_list_step : (x y : Point) → own_steps spec true t path x y → ListSteps x y
  to_list_step x y (own_link l) = own_link (to_own x y l)
  to_list_step x y (enter k f n) = enter k f n
  to_list_step x y (leave k e f n) = leave k e f n
  to_list_step x y (pass k e f g p) = pass k e f g p

  from_list_step : (x y : Point) → ListSteps x y → own_steps spec true t path x y
  from_list_step x y (own_link l) = own_link (from_own x y l)
  from_list_step x y (enter k f n) = enter k f n
  from_list_step x y (leave k e f n) = leave k e f n
  from_list_step x y (pass k e f g p) = pass k e f g p

  -- so are the ways of its steps
  list_ways : (x y : Point) → Way IsInner (own_steps spec true t path) x y ↔ Way IsInner ListSteps x y
  list_ways x y = (way_map IsInner _ _ x y to_list_step, way_map IsInner _ _ x y from_list_step)

  last_within : (k : ℕ) (e : Exit) (m : Point) → child_last spec true t path k e m → k < length (children t)
  last_within k e m f = let c = there spec true t path k m (child_exit path k e) f.way in slice_get_within (children t) k c.0 c.1

-- An entered list that no rule matches is known by its items.
pub lists_known : ListsKnownByItems
lists_known spec placed t path of_list no_rule =
    let n = length (children t) in record {
      owns = λ from to.
          let ways = list_ways spec t path of_list no_rule (point_of from) (point_of to) in
          let both = list_owns IsInner onward (point.In path) (exit_at path) (child_entry path) (child_exit path) (gates_distinct path) n
          (child_first spec true t path) (child_last spec true t path) (child_passes spec true t path) (λ k m f. f.node) (λ k e m f. f.node) (last_within spec t path of_list no_rule)
          (point_of from) (point_of to) (no_inner_node from) (no_inner_node to) in
          (λ w. both.0 (ways.0 w), λ b. ways.1 (both.1 b));
      first = λ m.
          let ways = list_ways spec t path of_list no_rule (point.In path) (point_of m) in
          let steps = first_by_steps spec placed true t path m in
          let both = list_first IsInner onward (point.In path) (exit_at path) (child_entry path) (child_exit path) (gates_distinct path) n
          (child_first spec true t path) (child_last spec true t path) (child_passes spec true t path) (λ k m f. f.node) (λ k e m f. f.node) (last_within spec t path of_list no_rule)
          (point_of m) (no_inner_node m) in
          (λ w. both.0 (ways.0 (steps.0 w)), λ b. steps.1 (ways.1 (both.1 b)));
      last = λ e m.
          let ways = list_ways spec t path of_list no_rule (point_of m) (exit_at path e) in
          let steps = last_by_steps spec placed true t path e m in
          let both = list_last IsInner onward (point.In path) (exit_at path) (child_entry path) (child_exit path) (gates_distinct path) n
          (child_first spec true t path) (child_last spec true t path) (child_passes spec true t path) (λ k m f. f.node) (λ k e m f. f.node) (last_within spec t path of_list no_rule)
          e (point_of m) (no_inner_node m) in
          (λ w. both.0 (ways.0 (steps.0 w)), λ b. steps.1 (ways.1 (both.1 b)));
      passes = λ e.
          let ways = list_ways spec t path of_list no_rule (point.In path) (exit_at path e) in
          let steps = passes_by_steps spec placed true t path e in
          let both = list_passes IsInner onward (point.In path) (exit_at path) (child_entry path) (child_exit path) (gates_distinct path) n
          (child_first spec true t path) (child_last spec true t path) (child_passes spec true t path) (λ k m f. f.node) (λ k e m f. f.node) (last_within spec t path of_list no_rule) e in
          (λ w. both.0 (ways.0 (steps.0 w)), λ b. steps.1 (ways.1 (both.1 b)));
    }
