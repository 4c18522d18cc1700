-- The steps of a rule are the links of an entered position.
use Rattle.std.proofs.Common.{◌≡◌, ◌↔◌, ℕ, Bool, true, false, ◌||◌, IsTrue, List, Option, Some, None, refl, sym, ap, subst, ◌∙◌}
use Rattle.std.specs.Prelude.{option_map}
use Rattle.std.proofs.lemmas.Option.{same_Some}
use Rattle.std.proofs.lemmas.Bool.{both_ways}
use Rattle.flow_term.specs.declared.graph.Point.{Point}
use Rattle.flow_term.specs.declared.graph.Point.TheVariants as point
use Rattle.flow_term.specs.Annotations.{term_layer}
use Rattle.flow_syntax.specs.declared.rule.FlowRule.{FlowRule}
use Rattle.flow_syntax.specs.declared.rule.ItemKind.{ItemKind}
use Rattle.flow_syntax.specs.declared.rule.ItemKind.TheVariants as item
use Rattle.flow_syntax.specs.Matching.{is_list}
use Rattle.flow_syntax.specs.Control.{argument}
use Rattle.flow_syntax.specs.Graph.{LinksAt, in_chain, through_empty, into_first, to_next, from_last, through_other, arriving, below, leaving}
use Rattle.rule_plans.specs.declared.stop.Stop.{Stop}
use Rattle.rule_plans.specs.declared.stop.Stop.TheVariants.{Entry, Exit, ChildEntry, ChildExit, Child}
use Rattle.rule_plans.specs.declared.stop.Step.{Step}
use Rattle.rule_plans.specs.Hops.{IsStepOf}
use Rattle.graph_shape.specs.Plans.{point_at, IsStepAt}
use Rattle.graph_shape.specs.Shapes.{IsPlan}
use Rattle.graph_shape.specs.RuleSteps.{leaving_stop, arriving_stop, IsRuleStep, between, through_root}

mapped : (path : List ℕ) (f : List ℕ → Point) (g : ℕ → Stop) → ((k : ℕ) → f (below path k) ≡ point_at path (g k)) → (o : Option ℕ) → option_map f (option_map (below path) o) ≡ option_map (point_at path) (option_map g o)
mapped path f g same None = refl
mapped path f g same (Some k) = ap Some (same k)

pub leaving_at : (rule : FlowRule) (path : List ℕ) (it : ItemKind) → leaving rule path it ≡ option_map (point_at path) (leaving_stop rule it)
leaving_at rule path item.Entry = refl
leaving_at rule path item.Exit = refl
leaving_at rule path item.Start = refl
leaving_at rule path item.End = refl
leaving_at rule path item.This = refl
leaving_at rule path (item.Whole x) = mapped path point.Out ChildExit (λ k. refl) (argument rule x)
leaving_at rule path (item.Single x) = mapped path point.Node Child (λ k. refl) (argument rule x)

pub arriving_at : (rule : FlowRule) (path : List ℕ) (it : ItemKind) → arriving rule path it ≡ option_map (point_at path) (arriving_stop rule it)
arriving_at rule path item.Entry = refl
arriving_at rule path item.Exit = refl
arriving_at rule path item.Start = refl
arriving_at rule path item.End = refl
arriving_at rule path item.This = refl
arriving_at rule path (item.Whole x) = mapped path point.In ChildEntry (λ k. refl) (argument rule x)
arriving_at rule path (item.Single x) = mapped path point.Node Child (λ k. refl) (argument rule x)

stop_of : (path : List ℕ) (a : Point) (o : Option Stop) → option_map (point_at path) o ≡ Some a → (s : Stop) × (o ≡ Some s) × (a ≡ point_at path s)
stop_of path a None h = cc
stop_of path a (Some s) h = (s, refl, sym (same_Some (point_at path s) a h))

always : (b : Bool) → IsTrue (b || true)
always true = refl
always false = refl

-- the steps of a rule are its plan
pub rule_plan : (rule : FlowRule) (steps : List Step) → ((s u : Stop) → IsStepOf steps s u ↔ IsRuleStep rule s u) → IsPlan (Some rule) steps
rule_plan rule steps same t other = record { each = λ path a b. (λ l. forth path a b l, λ h. back path a b h.from h.to h.source h.target ((same h.from h.to).0 h.step)) }
  where
    forth : (path : List ℕ) (a b : Point) → LinksAt (Some rule) true t path a b → IsStepAt steps path a b
    forth path a b (in_chain r chain left right counts has pair l m) =
        let one : r ≡ rule = same_Some r rule (sym counts.0) in
        let from = stop_of path a (leaving_stop r left.kind) (sym (leaving_at r path left.kind) ∙ l) in
        let to = stop_of path b (arriving_stop r right.kind) (sym (arriving_at r path right.kind) ∙ m) in
        record { from = from.0; to = to.0; step = (same from.0 to.0).1 (subst (λ (x : FlowRule). IsRuleStep x from.0 to.0) one (between chain left right has pair from.1 to.1)); source = from.2; target = to.2 }
    forth path a b (through_empty e i f g) = absurd (both_ways (is_list (term_layer t)) other i.0)
    forth path a b (into_first n e i f g) = absurd (both_ways (is_list (term_layer t)) other i.0)
    forth path a b (to_next n k e i w f g) = absurd (both_ways (is_list (term_layer t)) other i.0)
    forth path a b (from_last n e i f g) = absurd (both_ways (is_list (term_layer t)) other i.0)
    forth path a b (through_other e i r f g) = record { from = Entry; to = Exit; step = (same Entry Exit).1 (through_root (r rule refl) refl refl); source = f; target = g }

    back : (path : List ℕ) (a b : Point) (s u : Stop) → a ≡ point_at path s → b ≡ point_at path u → IsRuleStep rule s u → LinksAt (Some rule) true t path a b
    back path a b s u e f (between chain left right has pair l m) =
        in_chain rule chain left right (refl, always rule.root) has pair
        (leaving_at rule path left.kind ∙ ap (option_map (point_at path)) l ∙ ap Some (sym e))
        (arriving_at rule path right.kind ∙ ap (option_map (point_at path)) m ∙ ap Some (sym f))
    back path a b s u e f (through_root r g h) = through_other refl other (λ x is. subst (λ (y : FlowRule). y.root ≡ true) (same_Some rule x is) r) (e ∙ ap (point_at path) g) (f ∙ ap (point_at path) h)

-- the plan of a position that no rule matches
pub no_rule_plan : (steps : List Step) → ((s u : Stop) → IsStepOf steps s u ↔ ((s ≡ Entry) × (u ≡ Exit))) → IsPlan None steps
no_rule_plan steps same t other = record { each = λ path a b. (λ l. forth path a b l, λ h. (let g = (same h.from h.to).0 h.step in through_other refl other (λ x is. absurd (cc (is))) (h.source ∙ ap (point_at path) g.0) (h.target ∙ ap (point_at path) g.1))) }
  where
    forth : (path : List ℕ) (a b : Point) → LinksAt None true t path a b → IsStepAt steps path a b
    forth path a b (in_chain r chain left right counts has pair l m) = absurd (let e : None ≡ Some r = counts.0 in cc (e))
    forth path a b (through_empty e i f g) = absurd (both_ways (is_list (term_layer t)) other i.0)
    forth path a b (into_first n e i f g) = absurd (both_ways (is_list (term_layer t)) other i.0)
    forth path a b (to_next n k e i w f g) = absurd (both_ways (is_list (term_layer t)) other i.0)
    forth path a b (from_last n e i f g) = absurd (both_ways (is_list (term_layer t)) other i.0)
    forth path a b (through_other e i r f g) = record { from = Entry; to = Exit; step = (same Entry Exit).1 (refl, refl); source = f; target = g }
