-- Which children are entered, by the steps of a position.
use Rattle.std.proofs.Common.{◌≡◌, ◌↔◌, ◌⊎◌, ℕ, zero, suc, ◌+◌, ◌<◌, ◌≤◌, ◌==◌, Bool, true, false, ◌&&◌, ◌||◌, IsTrue, List, [], ◌∷◌, Option, Some, None, get_or, length, map, refl, sym, ap, ◌∙◌, inl, inr, arith, eq-eqb, true≢false}
use Rattle.std.specs.Prelude.{Contains, option_and_then, option_map, slice_get}
use Rattle.std.specs.List.{list_any}
use Rattle.std.specs.Option.{option_map_or}
use Rattle.std.proofs.lemmas.Bool.{eqb-true}
use Rattle.std.proofs.lemmas.Option.{slice_get_within}
use Rattle.flow_term.specs.declared.term.Term.{Term}
use Rattle.flow_term.specs.declared.graph.Point.{Point}
use Rattle.flow_term.specs.declared.graph.Point.TheVariants as point
use Rattle.flow_term.specs.Annotations.{term_layer}
use Rattle.flow_syntax.specs.declared.rule.Chain.{Chain}
use Rattle.flow_syntax.specs.declared.rule.FlowRule.{FlowRule}
use Rattle.flow_syntax.specs.declared.rule.Item.{Item}
use Rattle.flow_syntax.specs.declared.rule.ItemKind.{ItemKind}
use Rattle.flow_syntax.specs.declared.rule.ItemKind.TheVariants as item
use Rattle.flow_syntax.specs.declared.spec.Spec.{Spec}
use Rattle.flow_syntax.specs.Control.{HasBoundItems, HasLongChains, IsUnboundItem, argument, enters, enters_argument, enters_child, rule_for}
use Rattle.flow_syntax.specs.Graph.{LinksAt, arriving, below, in_chain, leaving}
use Rattle.flow_syntax.specs.Matching.{is_list, matches}
use Rattle.flow_syntax.proofs.LinkEnds.{contains_at}
use Rattle.flow_syntax.proofs.Listed.{any_at}
use Rattle.flow_syntax.proofs.Matches.{found_among}
use Rattle.rule_plans.specs.declared.stop.Stop.{Stop}
use Rattle.rule_plans.specs.declared.stop.Stop.TheVariants.{Entry, Exit, Start, End, This, ChildEntry, ChildExit, Child}
use Rattle.rule_plans.specs.declared.stop.Step.{Step}
use Rattle.graph_shape.specs.Plans.{IsPlanOf, point_at}
use Rattle.graph_shape.proofs.OuterNodes.{get_some}
use Rattle.graph_shape.proofs.StopPoints.{any_of, link_enters, link_leaves, one_stop}
use Rattle.graph_edges.specs.Below.{is_entry_of, is_exit_of, is_root, touches}

either : (a b : Bool) → (a || b) ≡ true → (a ≡ true) ⊎ (b ≡ true)
either true b h = inl refl
either false b h = inr h

left_true : (a b : Bool) → a ≡ true → (a || b) ≡ true
left_true true b h = refl
left_true false b h = cc

right_true : (a b : Bool) → b ≡ true → (a || b) ≡ true
right_true true b h = refl
right_true false b h = h

same_bool : (a b : Bool) → (a ≡ true) ↔ (b ≡ true) → a ≡ b
same_bool true true h = refl
same_bool false false h = refl
same_bool true false h = sym (h.0 refl)
same_bool false true h = h.1 refl

entry_is : (k : ℕ) (u : Stop) → is_entry_of k u ≡ true → u ≡ ChildEntry k
entry_is k (ChildEntry j) h = ap ChildEntry (eqb-true j k h)
entry_is k Entry h = cc
entry_is k Exit h = cc
entry_is k Start h = cc
entry_is k End h = cc
entry_is k This h = cc
entry_is k (ChildExit j) h = cc
entry_is k (Child j) h = cc

exit_is : (k : ℕ) (u : Stop) → is_exit_of k u ≡ true → u ≡ ChildExit k
exit_is k (ChildExit j) h = ap ChildExit (eqb-true j k h)
exit_is k Entry h = cc
exit_is k Exit h = cc
exit_is k Start h = cc
exit_is k End h = cc
exit_is k This h = cc
exit_is k (ChildEntry j) h = cc
exit_is k (Child j) h = cc

mapped_some : (f : List ℕ → Point) (path : List ℕ) (o : Option ℕ) → ¬ (o ≡ None) → (b : Point) × (option_map f (option_map (below path) o) ≡ Some b)
mapped_some f path None h = absurd (h refl)
mapped_some f path (Some k) h = (f (below path k), refl)

arrives : (rule : FlowRule) (path : List ℕ) (it : ItemKind) → ¬ IsUnboundItem rule it → (b : Point) × (arriving rule path it ≡ Some b)
arrives rule path (item.Whole x) h = mapped_some point.In path (argument rule x) h
arrives rule path (item.Single x) h = mapped_some point.Node path (argument rule x) h
arrives rule path item.Entry h = (point.In path, refl)
arrives rule path item.Exit h = (point.Out path, refl)
arrives rule path item.Start h = (point.Start path, refl)
arrives rule path item.End h = (point.End path, refl)
arrives rule path item.This h = (point.Node path, refl)

leaves : (rule : FlowRule) (path : List ℕ) (it : ItemKind) → ¬ IsUnboundItem rule it → (a : Point) × (leaving rule path it ≡ Some a)
leaves rule path (item.Whole x) h = mapped_some point.Out path (argument rule x) h
leaves rule path (item.Single x) h = mapped_some point.Node path (argument rule x) h
leaves rule path item.Entry h = (point.In path, refl)
leaves rule path item.Exit h = (point.Out path, refl)
leaves rule path item.Start h = (point.Start path, refl)
leaves rule path item.End h = (point.End path, refl)
leaves rule path item.This h = (point.Node path, refl)

named : (k : ℕ) (o : Option ℕ) → option_map_or (λ j. j == k) o false ≡ true → o ≡ Some k
named k None h = cc
named k (Some j) h = ap Some (eqb-true j k h)

-- an item that enters an argument is the argument's exit on the left of an arrow, and its entry on the right
enters_leaving : (rule : FlowRule) (path : List ℕ) (k : ℕ) (it : ItemKind) → enters_argument rule k it ≡ true → leaving rule path it ≡ Some (point.Out (below path k))
enters_leaving rule path k (item.Whole x) h = ap (λ (o : Option ℕ). option_map point.Out (option_map (below path) o)) (named k (argument rule x) h)
enters_leaving rule path k item.Entry h = cc
enters_leaving rule path k item.Exit h = cc
enters_leaving rule path k item.Start h = cc
enters_leaving rule path k item.End h = cc
enters_leaving rule path k item.This h = cc
enters_leaving rule path k (item.Single x) h = cc

enters_arriving : (rule : FlowRule) (path : List ℕ) (k : ℕ) (it : ItemKind) → enters_argument rule k it ≡ true → arriving rule path it ≡ Some (point.In (below path k))
enters_arriving rule path k (item.Whole x) h = ap (λ (o : Option ℕ). option_map point.In (option_map (below path) o)) (named k (argument rule x) h)
enters_arriving rule path k item.Entry h = cc
enters_arriving rule path k item.Exit h = cc
enters_arriving rule path k item.Start h = cc
enters_arriving rule path k item.End h = cc
enters_arriving rule path k item.This h = cc
enters_arriving rule path k (item.Single x) h = cc

-- A link into a child, or out of it.
record Touches (matching : Option FlowRule) (t : Term) (path : List ℕ) (k : ℕ) : Type 0 where
  a : Point
  b : Point
  made : LinksAt matching true t path a b
  side : (b ≡ point.In (below path k)) ⊎ (a ≡ point.Out (below path k))

module _ (spec : Spec) (long : HasLongChains spec) (bound : HasBoundItems spec) (t : Term) (path : List ℕ) (rule : FlowRule) (matched : rule_for spec t ≡ Some rule) where
  among : Contains spec.control rule
  among = found_among (λ (r : FlowRule). matches r.head t) spec.control rule matched

  always : (a : Bool) → IsTrue (a || true)
  always true = refl
  always false = refl

  at_item : (chain : Chain) → Contains rule.chains chain → (k j : ℕ) (it : Item) → slice_get chain.items j ≡ Some it → enters_argument rule k it.kind ≡ true → Touches (rule_for spec t) t path k
  at_item chain has k zero it is e =
      let two : 2 ≤ length chain.items = long rule among chain has in
      let right = get_some chain.items 1 (omega arith) in
      let to = arrives rule path right.0.kind (bound rule among chain has right.0 (contains_at chain.items 1 right.0 right.1)) in
      record { a = point.Out (below path k); b = to.0; made = in_chain rule chain it right.0 (matched, always rule.root) has (0, is, right.1) (enters_leaving rule path k it.kind e) to.1; side = inr refl }
  at_item chain has k (suc j) it is e =
      let within : suc j < length chain.items = slice_get_within chain.items (suc j) it is in
      let left = get_some chain.items j (omega arith) in
      let from = leaves rule path left.0.kind (bound rule among chain has left.0 (contains_at chain.items j left.0 left.1)) in
      record { a = from.0; b = point.In (below path k); made = in_chain rule chain left.0 it (matched, always rule.root) has (j, left.1, ap (slice_get chain.items) (let same : j + 1 ≡ suc j = omega arith in same) ∙ is) from.1 (enters_arriving rule path k it.kind e); side = inl refl }

  rule_touches : (k : ℕ) → enters rule k ≡ true → Touches (rule_for spec t) t path k
  rule_touches k h =
      let c = any_at (λ (chain : Chain). list_any (λ (it : Item). enters_argument rule k it.kind) chain.items) rule.chains h in
      let i = any_at (λ (it : Item). enters_argument rule k it.kind) c.1.items c.3 in
      at_item c.1 (contains_at rule.chains c.0 c.1 c.2) k i.0 i.1 i.2 i.3

module _ (spec : Spec) (long : HasLongChains spec) (bound : HasBoundItems spec) (t : Term) (plain : is_list (term_layer t) ≡ false) (steps : List Step) (plan : IsPlanOf (rule_for spec t) t steps) (k : ℕ) where
  sound : list_any (touches k) steps ≡ true → enters_child (rule_for spec t) true t k ≡ true
  sound h =
      let s = any_at (touches k) steps h in
      let link : LinksAt (rule_for spec t) true t [] (point_at [] s.1.from) (point_at [] s.1.to) =
      (plan.each [] (point_at [] s.1.from) (point_at [] s.1.to)).1 (record { from = s.1.from; to = s.1.to; step = record { step = s.1; among = contains_at steps s.0 s.1 s.2; leaves = refl; arrives = refl }; source = refl; target = refl }) in
      elim (either (is_entry_of k s.1.to) (is_exit_of k s.1.from) s.3) [
        | inl e ↦ link_enters (rule_for spec t) t [] k (point_at [] s.1.from) (point_at [] s.1.to) link (ap (point_at []) (entry_is k s.1.to e))
        | inr e ↦ link_leaves (rule_for spec t) t [] k (point_at [] s.1.from) (point_at [] s.1.to) link (ap (point_at []) (exit_is k s.1.from e))
      ]

  touched : Touches (rule_for spec t) t [] k → list_any (touches k) steps ≡ true
  touched l =
      let s = (plan.each [] l.a l.b).0 l.made in
      any_of (touches k) steps s.step.step s.step.among (elim l.side [
        | inl e ↦ left_true (is_entry_of k s.step.step.to) (is_exit_of k s.step.step.from)
            (ap (is_entry_of k) (s.step.arrives ∙ one_stop [] s.to (ChildEntry k) (sym s.target ∙ e)) ∙ eq-eqb k k refl)
        | inr e ↦ right_true (is_entry_of k s.step.step.to) (is_exit_of k s.step.step.from)
            (ap (is_exit_of k) (s.step.leaves ∙ one_stop [] s.from (ChildExit k) (sym s.source ∙ e)) ∙ eq-eqb k k refl)
      ])

  both_true : (a b : Bool) → (a && b) ≡ true → b ≡ true
  both_true true b h = h
  both_true false b h = cc

  complete : (m : Option FlowRule) → rule_for spec t ≡ m → enters_child m true t k ≡ true → list_any (touches k) steps ≡ true
  complete None is h = absurd (elim (either (true && is_list (term_layer t)) false h) [ inl e ↦ true≢false (sym e ∙ plain) | inr e ↦ true≢false (sym e) ])
  complete (Some rule) is h = elim (either (true && is_list (term_layer t)) ((rule.root || true) && enters rule k) h) [
    | inl e ↦ absurd (true≢false (sym e ∙ plain))
    | inr e ↦ touched (rule_touches spec long bound t [] rule is k (both_true (rule.root || true) (enters rule k) e))
  ]

  pub enters_is : list_any (touches k) steps ≡ enters_child (rule_for spec t) true t k
  enters_is = same_bool (list_any (touches k) steps) (enters_child (rule_for spec t) true t k) (sound, complete (rule_for spec t) refl)

-- whether a rule with a number is a root rule
root_of : (control : List FlowRule) (n : ℕ) → get_or (map (λ (rule : FlowRule). rule.root) control) n false ≡ option_map_or (λ (rule : FlowRule). rule.root) (slice_get control n) false
root_of [] n = refl
root_of (r ∷ control) zero = refl
root_of (r ∷ control) (suc n) = root_of control n

pub root_is : (control : List FlowRule) (rule : Option ℕ) (m : Option FlowRule) → option_and_then (slice_get control) rule ≡ m → is_root (map (λ (r : FlowRule). r.root) control) rule ≡ option_map_or (λ (r : FlowRule). r.root) m false
root_is control None m h = ap (λ (o : Option FlowRule). option_map_or (λ (r : FlowRule). r.root) o false) h
root_is control (Some n) m h = root_of control n ∙ ap (λ (o : Option FlowRule). option_map_or (λ (r : FlowRule). r.root) o false) h

root_cases : (root e b : Bool) → ((root || e) && ((root || true) && b)) ≡ ((e && false) || ((root || e) && b))
root_cases true true b = refl
root_cases true false b = refl
root_cases false true b = refl
root_cases false false b = refl

-- a child of a position that is no list is entered as the entered position's child is, where the position counts
pub plain_enters : (t : Term) → is_list (term_layer t) ≡ false → (m : Option FlowRule) (entered : Bool) (k : ℕ) → ((option_map_or (λ (r : FlowRule). r.root) m false || entered) && enters_child m true t k) ≡ enters_child m entered t k
plain_enters t plain m entered k = by m entered (is_list (term_layer t)) plain
  where
    by : (m : Option FlowRule) (e list : Bool) → list ≡ false → ((option_map_or (λ (r : FlowRule). r.root) m false || e) && ((true && list) || option_map_or (λ rule. (rule.root || true) && enters rule k) m false))
        ≡ ((e && list) || option_map_or (λ rule. (rule.root || e) && enters rule k) m false)
    by m e true h = absurd (true≢false h)
    by None true false h = refl
    by None false false h = refl
    by (Some r) e false h = root_cases r.root e (enters r k)
