-- What is found among the candidates of a term is what is found among all.
use Rattle.std.proofs.Common.{◌≡◌, ℕ, ◌+◌, ◌<◌, Bool, true, false, ◌&&◌, cond, List, Option, Some, None, length, get_or, drop, find, refl, ap, ◌∙◌}
use Rattle.std.specs.Prelude.{is_some, slice_get, option_and_then, option_map}
use Rattle.std.specs.List.{position_from}
use Rattle.std.proofs.lemmas.Option.{same_Some}
use Rattle.flow_term.specs.declared.term.Term.{Term}
use Rattle.flow_syntax.specs.declared.pattern.Pattern.{Pattern}
use Rattle.flow_syntax.specs.declared.property.PropRule.{PropRule}
use Rattle.flow_syntax.specs.declared.rule.FlowRule.{FlowRule}
use Rattle.flow_syntax.specs.Matching.{matches}
use Rattle.flow_match.specs.declared.index.PatternIndex.{PatternIndex}
use Rattle.flow_match.specs.Bindings.{bindings_at}
use Rattle.flow_match.specs.Index.{IsIndexOf, head_name, head_pattern, may_match, numbers_in, root_name, rule_pattern}
use Rattle.flow_syntax.specs.ExprFaults.{trigger_pattern}
use Rattle.flow_match.specs.Matched.{first_hit, hit_by, hit_of, is_rule_of}
use Rattle.flow_match.specs.inner.Among.{first_among}
use Rattle.flow_match.proofs.Among.{among_all, among_later, among_now, find_some, position_some}
use Rattle.flow_match.proofs.FirstHits.{no_hit, one_hit, some_hit}
use Rattle.flow_match.proofs.Roots.{candidate}

-- what is no candidate doesn't match
misses : (p : Pattern) (t : Term) → may_match (head_name t) (root_name p) ≡ false → matches p t ≡ false
misses p t h = go (matches p t) refl
  where
    go : (b : Bool) → matches p t ≡ b → b ≡ false
    go true e = let found : may_match (head_name t) (root_name p) ≡ true = candidate p t e in cc
    go false e = refl

nothing : {Y : Type 0} (p : Pattern) (t : Term) (y : Option Y) → may_match (head_name t) (root_name p) ≡ false → cond (matches p t) y None ≡ None
nothing p t y h = ap (λ b. cond b y None) (misses p t h)

and_false : (b : Bool) → (b && false) ≡ false
and_false true = refl
and_false false = refl

module _ (t : Term) (rules xs : List FlowRule) (index : PatternIndex) (numbers : List ℕ) (right : IsIndexOf head_pattern rules index) (same : xs ≡ rules) (is : numbers ≡ numbers_in index (head_name t)) where
  pub rule_found : first_among (λ (n : ℕ) (rule : FlowRule). cond (matches rule.head t) (Some rule) None) xs numbers ≡ find (λ rule. matches rule.head t) rules
  rule_found =
      ap (λ (ys : List FlowRule). first_among (λ (n : ℕ) (rule : FlowRule). cond (matches rule.head t) (Some rule) None) ys numbers) same
      ∙ ap (first_among (λ (n : ℕ) (rule : FlowRule). cond (matches rule.head t) (Some rule) None) rules) (is ∙ right (head_name t))
      ∙ among_all (λ (n : ℕ) (rule : FlowRule). cond (matches rule.head t) (Some rule) None) (λ (rule : FlowRule). may_match (head_name t) (root_name rule.head)) rules (λ n rule miss. nothing rule.head t (Some rule) miss)
      ∙ find_some (λ (rule : FlowRule). matches rule.head t) rules 0

  pub place_found : first_among (λ (n : ℕ) (rule : FlowRule). cond (matches rule.head t) (Some n) None) xs numbers ≡ position_from (λ rule. matches rule.head t) 0 rules
  place_found =
      ap (λ (ys : List FlowRule). first_among (λ (n : ℕ) (rule : FlowRule). cond (matches rule.head t) (Some n) None) ys numbers) same
      ∙ ap (first_among (λ (n : ℕ) (rule : FlowRule). cond (matches rule.head t) (Some n) None) rules) (is ∙ right (head_name t))
      ∙ among_all (λ (n : ℕ) (rule : FlowRule). cond (matches rule.head t) (Some n) None) (λ (rule : FlowRule). may_match (head_name t) (root_name rule.head)) rules (λ n rule miss. nothing rule.head t (Some n) miss)
      ∙ position_some (λ (rule : FlowRule). matches rule.head t) rules 0

module _ (property : ℕ) (name : List ℕ) (boundary : Bool) (t : Term) (path : List ℕ) where
  pub hit_found : (rules xs : List PropRule) (index : PatternIndex) (numbers : List ℕ) → IsIndexOf rule_pattern rules index → xs ≡ rules → numbers ≡ numbers_in index (head_name t)
      → first_among (hit_by property name boundary t path) xs numbers ≡ first_hit property name boundary t path rules
  hit_found rules xs index numbers right same is =
      ap (λ (ys : List PropRule). first_among (hit_by property name boundary t path) ys numbers) same
      ∙ ap (first_among (hit_by property name boundary t path) rules) (is ∙ right (head_name t))
      ∙ among_all (hit_by property name boundary t path) (λ (rule : PropRule). may_match (head_name t) (root_name (trigger_pattern rule.trigger))) rules
      (λ n rule miss. no_hit property name boundary t path n rule (ap (λ b. is_rule_of name boundary rule && b) (misses (trigger_pattern rule.trigger) t miss) ∙ and_false (is_rule_of name boundary rule)))

  module _ (rules : List PropRule) (numbers : List ℕ) (i : ℕ) (within : i < length numbers) where
    -- the rule with this number isn't it
    pub hit_passed : option_and_then (λ (rule : PropRule). cond (is_rule_of name boundary rule && matches (trigger_pattern rule.trigger) t) (Some rule) None) (slice_get rules (get_or numbers i 0)) ≡ None
        → first_among (hit_by property name boundary t path) rules (drop (i + 1) numbers) ≡ first_among (hit_by property name boundary t path) rules (drop i numbers)
    hit_passed none = among_later (hit_by property name boundary t path) rules numbers i within (go (slice_get rules (get_or numbers i 0)) none)
      where
        test : (rule : PropRule) (b : Bool) → (is_rule_of name boundary rule && matches (trigger_pattern rule.trigger) t) ≡ b → cond b (Some rule) None ≡ None → hit_by property name boundary t path (get_or numbers i 0) rule ≡ None
        test rule true e h = cc
        test rule false e h = no_hit property name boundary t path (get_or numbers i 0) rule e

        go : (o : Option PropRule) → option_and_then (λ (rule : PropRule). cond (is_rule_of name boundary rule && matches (trigger_pattern rule.trigger) t) (Some rule) None) o ≡ None
            → option_and_then (hit_by property name boundary t path (get_or numbers i 0)) o ≡ None
        go None h = refl
        go (Some rule) h = test rule (is_rule_of name boundary rule && matches (trigger_pattern rule.trigger) t) refl h

    -- the rule with this number is it
    pub hit_reached : (rule : PropRule) → option_and_then (λ (r : PropRule). cond (is_rule_of name boundary r && matches (trigger_pattern r.trigger) t) (Some r) None) (slice_get rules (get_or numbers i 0)) ≡ Some rule
        → first_among (hit_by property name boundary t path) rules (drop i numbers) ≡ option_map (hit_of property boundary (get_or numbers i 0)) (bindings_at (trigger_pattern rule.trigger) t path)
    hit_reached rule some = go (slice_get rules (get_or numbers i 0)) refl some
      where
        test : (r : PropRule) (b : Bool) → slice_get rules (get_or numbers i 0) ≡ Some r → (is_rule_of name boundary r && matches (trigger_pattern r.trigger) t) ≡ b → cond b (Some r) None ≡ Some rule
            → first_among (hit_by property name boundary t path) rules (drop i numbers) ≡ option_map (hit_of property boundary (get_or numbers i 0)) (bindings_at (trigger_pattern rule.trigger) t path)
        test r false at e h = cc
        test r true at e h =
            among_now (hit_by property name boundary t path) rules numbers i within
            (ap (λ (o : Option PropRule). is_some (option_and_then (hit_by property name boundary t path (get_or numbers i 0)) o)) at ∙ some_hit property name boundary t path (get_or numbers i 0) r e)
            ∙ ap (option_and_then (hit_by property name boundary t path (get_or numbers i 0))) at
            ∙ one_hit property name boundary t path (get_or numbers i 0) r e
            ∙ ap (λ (q : PropRule). option_map (hit_of property boundary (get_or numbers i 0)) (bindings_at (trigger_pattern q.trigger) t path)) (same_Some r rule h)

        go : (o : Option PropRule) → slice_get rules (get_or numbers i 0) ≡ o → option_and_then (λ (r : PropRule). cond (is_rule_of name boundary r && matches (trigger_pattern r.trigger) t) (Some r) None) o ≡ Some rule
            → first_among (hit_by property name boundary t path) rules (drop i numbers) ≡ option_map (hit_of property boundary (get_or numbers i 0)) (bindings_at (trigger_pattern rule.trigger) t path)
        go None at h = cc
        go (Some r) at h = test r (is_rule_of name boundary r && matches (trigger_pattern r.trigger) t) at refl h
