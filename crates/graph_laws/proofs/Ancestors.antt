-- A change of a child whose first and last nodes and passing stay changes nothing at its parent.
use Rattle.std.proofs.Common.{◌≡◌, ◌≢◌, ◌↔◌, ℕ, ◌+◌, Bool, List, Option, sym, ap, subst, ◌∙◌, inl, inr}
use Rattle.std.specs.Prelude.{◌&&◌, ◌||◌, false}
use Rattle.std.specs.Option.{option_map_or}
use Rattle.std.proofs.lemmas.Bool.{cases_eq}
use Rattle.flow_term.specs.declared.term.Term.{Term}
use Rattle.flow_term.specs.declared.graph.Node.{Node}
use Rattle.flow_term.specs.declared.graph.Point.{Point}
use Rattle.flow_term.specs.declared.graph.Point.TheVariants as point
use Rattle.flow_term.specs.Annotations.{term_layer}
use Rattle.flow_syntax.specs.declared.rule.FlowRule.{FlowRule}
use Rattle.flow_syntax.specs.declared.spec.Spec.{Spec}
use Rattle.flow_syntax.specs.Control.{enters, enters_child, rule_for}
use Rattle.flow_syntax.specs.Graph.{IsInner, IsListOf, in_chain, through_empty, into_first, to_next, from_last, through_other, below, point_of}
use Rattle.flow_syntax.specs.Matching.{is_list}
use Rattle.flow_links.specs.Below.{LinksBelow}
use Rattle.way_theory.proofs.WayLemmas.{way_map}
use Rattle.graph_laws.specs.Replacements.{SameWays}
use Rattle.graph_laws.proofs.ChildChanges.{DifferInChild, SameChild}
use Rattle.graph_laws.specs.Owners.{HasPlacedItems, Owns}
use Rattle.graph_laws.specs.Parts.{Exit, LinksOfChild, child_first, child_last, child_passes, exit_at, own_links}
use Rattle.graph_laws.proofs.Summaries.{KnowsMore, first_by_steps, last_by_steps, owns_same, passes_by_steps, steps_kept}

module _ (spec : Spec) (entered : Bool) (t t' : Term) (path : List ℕ) (k : ℕ) (d : DifferInChild spec t t' k) where
  same_list : (n : ℕ) → IsListOf t n → IsListOf t' n
  same_list n l = (d.list ∙ l.0, d.count ∙ l.1)

  own_kept : (a b : Point) → own_links spec entered t path a b → own_links spec entered t' path a b
  own_kept a b (in_chain rule chain left right c h s l r) = in_chain rule chain left right (d.rule ∙ c.0, c.1) h s l r
  own_kept a b (through_empty e i f g) = through_empty e (same_list 0 i) f g
  own_kept a b (into_first n e i f g) = into_first n e (same_list (n + 1) i) f g
  own_kept a b (to_next n j e i w f g) = to_next n j e (same_list n i) w f g
  own_kept a b (from_last n e i f g) = from_last n e (same_list (n + 1) i) f g
  own_kept a b (through_other e n r f g) = through_other e (d.list ∙ n) (λ rule is. r rule (sym d.rule ∙ is)) f g

  -- each child is entered in both or in neither
  pub entered_same : (j : ℕ) → enters_child (rule_for spec t') entered t' j ≡ enters_child (rule_for spec t) entered t j
  entered_same j =
      ap (λ (l : Bool). (entered && l) || option_map_or (λ (rule : FlowRule). (rule.root || entered) && enters rule j) (rule_for spec t') false) d.list
      ∙ ap (λ (o : Option FlowRule). (entered && is_list (term_layer t)) || option_map_or (λ rule. (rule.root || entered) && enters rule j) o false) d.rule

  child_kept : (j : ℕ) → j ≢ k → (a b : Point) → LinksOfChild spec entered t path j a b → LinksOfChild spec entered t' path j a b
  child_kept j other a b l = record {
    child = l.child;
    is = d.others j other ∙ l.is;
    links = subst (λ (e : Bool). LinksBelow spec e l.child (below path j) a b) (sym (entered_same j)) l.links;
  }

  knows_more : ((n : Point) → child_first spec entered t path k n → child_first spec entered t' path k n)
      → ((e : Exit) (n : Point) → child_last spec entered t path k e n → child_last spec entered t' path k e n)
      → ((e : Exit) → child_passes spec entered t path k e → child_passes spec entered t' path k e) → KnowsMore spec entered t entered t' path
  knows_more f l p = record {
    links = own_kept;
    first = λ j n v. elim (cases_eq j k) [
      | inl same ↦ subst (λ (i : ℕ). child_first spec entered t' path i n) (sym same) (f n (subst (λ (i : ℕ). child_first spec entered t path i n) same v))
      | inr other ↦ record { node = v.node; way = way_map IsInner _ _ _ _ (child_kept j other) v.way }
    ];
    last = λ j e n v. elim (cases_eq j k) [
      | inl same ↦ subst (λ (i : ℕ). child_last spec entered t' path i e n) (sym same) (l e n (subst (λ (i : ℕ). child_last spec entered t path i e n) same v))
      | inr other ↦ record { node = v.node; way = way_map IsInner _ _ _ _ (child_kept j other) v.way }
    ];
    passes = λ j e w. elim (cases_eq j k) [
      | inl same ↦ subst (λ (i : ℕ). child_passes spec entered t' path i e) (sym same) (p e (subst (λ (i : ℕ). child_passes spec entered t path i e) same w))
      | inr other ↦ way_map IsInner _ _ _ _ (child_kept j other) w
    ];
  }

turned : (spec : Spec) (t t' : Term) (k : ℕ) → DifferInChild spec t t' k → DifferInChild spec t' t k
turned spec t t' k d = record { rule = sym d.rule; list = sym d.list; count = sym d.count; others = λ j other. sym (d.others j other) }

module _ (spec : Spec) (placed : HasPlacedItems spec) (entered : Bool) (t t' : Term) (path : List ℕ) (k : ℕ) (d : DifferInChild spec t t' k) (same : SameChild spec entered t t' path k) where
  forth : KnowsMore spec entered t entered t' path
  forth = knows_more spec entered t t' path k d (λ n. (same.first n).0) (λ e n. (same.last e n).0) (λ e. (same.passes e).0)

  back : KnowsMore spec entered t' entered t path
  back = knows_more spec entered t' t path k (turned spec t t' k d) (λ n. (same.first n).1) (λ e n. (same.last e n).1) (λ e. (same.passes e).1)

  -- The parent owns the same edges,
  pub parent_owns_same : (from to : Node) → Owns spec entered t path from to ↔ Owns spec entered t' path from to
  parent_owns_same = owns_same spec entered t entered t' path forth back

  -- and has the same first and last nodes and passing, so that no position above it changes either.
  pub parent_same : SameWays spec entered t t' path
  parent_same = record {
    first = λ n. let old = first_by_steps spec placed entered t path n in let new = first_by_steps spec placed entered t' path n in (
      λ w. new.1 (steps_kept spec entered t entered t' path forth (point.In path) (point_of n) (old.0 w)),
      λ w. old.1 (steps_kept spec entered t' entered t path back (point.In path) (point_of n) (new.0 w)),
    );
    last = λ e n. let old = last_by_steps spec placed entered t path e n in let new = last_by_steps spec placed entered t' path e n in (
      λ w. new.1 (steps_kept spec entered t entered t' path forth (point_of n) (exit_at path e) (old.0 w)),
      λ w. old.1 (steps_kept spec entered t' entered t path back (point_of n) (exit_at path e) (new.0 w)),
    );
    passes = λ e. let old = passes_by_steps spec placed entered t path e in let new = passes_by_steps spec placed entered t' path e in (
      λ w. new.1 (steps_kept spec entered t entered t' path forth (point.In path) (exit_at path e) (old.0 w)),
      λ w. old.1 (steps_kept spec entered t' entered t path back (point.In path) (exit_at path e) (new.0 w)),
    );
  }
