-- What an accepted specification has: its items are placed, its heads are applications and look no deeper than they may.
use Rattle.std.proofs.Common.{◌≡◌, Bool, true, false, IsTrue, ◌++◌, map, Option, Some, None, refl, sym, ap, ◌∙◌}
use Rattle.std.specs.Prelude.{Contains, option_map}
use Rattle.std.proofs.lemmas.List.Elements.{Contains-append_left, Contains-append_right}
use Rattle.std.proofs.lemmas.Option.{slice_get-map}
use Rattle.flow_term.specs.declared.term.Term.{Term}
use Rattle.flow_term.specs.declared.term.Kind.TheOpen.{Kind-F}
use Rattle.flow_term.specs.Annotations.{TermLayer, term_layer}
use Rattle.flow_syntax.specs.declared.fault.SpecFaultKind.TheVariants as kinds
use Rattle.flow_syntax.specs.declared.message.Message.{Message}
use Rattle.flow_syntax.specs.declared.pattern.Pattern.{out-Pattern}
use Rattle.flow_syntax.specs.declared.pattern.PatternKind.TheOpen.{PatternKind-F}
use Rattle.flow_syntax.specs.declared.property.PropRule.{PropRule}
use Rattle.flow_syntax.specs.declared.rule.FlowRule.{FlowRule}
use Rattle.flow_syntax.specs.declared.spec.Spec.{Spec}
use Rattle.flow_syntax.specs.Accepted.{is_application}
use Rattle.flow_syntax.specs.Control.{rule_for}
use Rattle.flow_syntax.specs.ExprFaults.{trigger_pattern}
use Rattle.flow_syntax.specs.Faults.{rule}
use Rattle.flow_syntax.specs.Matching.{PatternLayer, pattern_layer, is_apply, is_list, match_layer, matches}
use Rattle.flow_syntax.specs.RuleFaults.{looks_deep, patterns_of, pattern_depth, wrong_end}
use Rattle.flow_syntax.proofs.Listed.{at_in, in_at}
use Rattle.flow_syntax.proofs.Matches.{found_among, found_passes, matches_out, tests_of}
use Rattle.graph_laws.specs.Laws.{HeadsAreShallow, ItemsArePlaced, ListsHaveNoRule, PatternsAreShallow}

-- an item where it can't stand would be a fault
pub items_placed : ItemsArePlaced
items_placed spec faultless r of_spec chain of_rule k it at misplaced = faultless it.place kinds.WrongEnd (rule (wrong_end r chain k it of_spec of_rule at misplaced refl))

-- the head of a control rule is one of the specification's patterns
pub head_among : (spec : Spec) (r : FlowRule) → Contains spec.control r → Contains (patterns_of spec) r.head
head_among spec r of_spec =
    let at = in_at spec.control r of_spec in
    Contains-append_left (map (λ (v : FlowRule). v.head) spec.control ++ map (λ (v : PropRule). trigger_pattern v.trigger) spec.rules) (map (λ (m : Message). m.pattern) spec.messages) r.head
    (Contains-append_left (map (λ (v : FlowRule). v.head) spec.control) (map (λ (v : PropRule). trigger_pattern v.trigger) spec.rules) r.head
    (at_in (map (λ (v : FlowRule). v.head) spec.control) at.0 r.head (slice_get-map (λ (v : FlowRule). v.head) spec.control at.0 ∙ ap (option_map (λ (v : FlowRule). v.head)) at.1)))

-- and so is the pattern of a rule of a property
pub rule_among : (spec : Spec) (r : PropRule) → Contains spec.rules r → Contains (patterns_of spec) (trigger_pattern r.trigger)
rule_among spec r of_spec =
    let at = in_at spec.rules r of_spec in
    Contains-append_left (map (λ (v : FlowRule). v.head) spec.control ++ map (λ (v : PropRule). trigger_pattern v.trigger) spec.rules) (map (λ (m : Message). m.pattern) spec.messages) (trigger_pattern r.trigger)
    (Contains-append_right (map (λ (v : FlowRule). v.head) spec.control) (map (λ (v : PropRule). trigger_pattern v.trigger) spec.rules) (trigger_pattern r.trigger)
    (at_in (map (λ (v : PropRule). trigger_pattern v.trigger) spec.rules) at.0 (trigger_pattern r.trigger) (slice_get-map (λ (v : PropRule). trigger_pattern v.trigger) spec.rules at.0 ∙ ap (option_map (λ (v : PropRule). trigger_pattern v.trigger)) at.1)))

-- one that looks too deep would be a fault
pub patterns_shallow : PatternsAreShallow
patterns_shallow spec faultless p of_spec = by_cases (looks_deep p 0) refl
  where
    by_cases : (b : Bool) → looks_deep p 0 ≡ b → looks_deep p 0 ≡ false
    by_cases false e = e
    by_cases true e = absurd (faultless (out-Pattern p).place kinds.Depth (rule (pattern_depth p of_spec e refl)))

pub heads_shallow : HeadsAreShallow
heads_shallow spec faultless r of_spec = patterns_shallow spec faultless r.head (head_among spec r of_spec)

-- an application matches no list
applied_or_list : (x : PatternLayer) (t : Term) (y : TermLayer) → term_layer t ≡ y → IsTrue (is_application x) → match_layer (tests_of x) t ≡ true → IsTrue (is_list y) → ⊥
applied_or_list (PatternKind-F.Apply name parts) t (Kind-F.Items items) is applied m of_list = let same : is_apply name (term_layer t) ≡ false = ap (is_apply name) is in cc
applied_or_list x t y is applied m of_list = cc

pub lists_no_rule : ListsHaveNoRule
lists_no_rule spec applied t of_list = by_cases (rule_for spec t) refl
  where
    by_cases : (o : Option FlowRule) → rule_for spec t ≡ o → rule_for spec t ≡ None
    by_cases None e = e
    by_cases (Some r) e = absurd (applied_or_list (pattern_layer r.head) t (term_layer t) refl
        (applied r (found_among (λ (v : FlowRule). matches v.head t) spec.control r e))
        (sym (matches_out r.head t) ∙ found_passes (λ (v : FlowRule). matches v.head t) spec.control r e) of_list)
