-- Positions that are not at or below a replacement name the same nodes.
use Rattle.std.proofs.Common.{◌≡◌, ℕ, Bool, false, IsTrue, List, ◌∷◌, ◌++◌, Some, sym, ap, subst, ◌∙◌, inl, inr}
use Rattle.std.specs.Prelude.{◌||◌}
use Rattle.std.proofs.lemmas.Option.{same_Some}
use Rattle.flow_term.specs.declared.term.Term.{Term}
use Rattle.flow_term.specs.Trees.{At, Put}
use Rattle.flow_syntax.specs.declared.rule.FlowRule.{FlowRule}
use Rattle.flow_syntax.specs.declared.spec.Spec.{Spec}
use Rattle.flow_syntax.specs.Control.{Counts, entered_at, rule_for}
use Rattle.graph_laws.specs.Replacements.{RulesStay}
use Rattle.graph_laws.specs.Laws.{NodesOutsideStay}
use Rattle.graph_laws.proofs.Elsewhere.{at_front, begins, entered_above, put_above, rules_below, same_elsewhere}

module _ (spec : Spec) (tree old new : Term) where
  -- what holds at the place of the replacement
  record Stays (path : List ℕ) : Type 0 where
    at : At tree path ≡ Some old
    rules : RulesStay spec new tree path

  -- what a position counts by is told by its term's rule and whether it is entered
  moved : (tree tree' : Term) (q : List ℕ) (rule : FlowRule) (c : Counts spec tree q rule) (t' : Term) → At tree' q ≡ Some t' → rule_for spec t' ≡ rule_for spec c.t → entered_at spec tree' q ≡ entered_at spec tree q → Counts spec tree' q rule
  moved tree tree' q rule c t' position same flag =
      record { t = t'; position = position; counts = (same ∙ c.counts.0, subst (λ (e : Bool). IsTrue (rule.root || e)) (sym flag) c.counts.1) }

  above_forth : (q : List ℕ) (n : ℕ) (rest : List ℕ) → Stays (q ++ n ∷ rest) → (rule : FlowRule) → Counts spec tree q rule → Counts spec (Put tree (q ++ n ∷ rest) new) q rule
  above_forth q n rest h rule c =
      moved tree (Put tree (q ++ n ∷ rest) new) q rule c (Put c.t (n ∷ rest) new) (put_above spec new q (n ∷ rest) tree c.t c.position)
      (rules_below spec new q (n ∷ rest) tree c.t c.position h.rules).0 (entered_above spec new q (n ∷ rest) false tree c.t c.position h.rules)

  above_back : (q : List ℕ) (n : ℕ) (rest : List ℕ) → Stays (q ++ n ∷ rest) → (rule : FlowRule) → Counts spec (Put tree (q ++ n ∷ rest) new) q rule → Counts spec tree q rule
  above_back q n rest h rule c =
      let v = at_front q (n ∷ rest) tree old h.at in
      let same : c.t ≡ Put v.0 (n ∷ rest) new = same_Some c.t (Put v.0 (n ∷ rest) new) (sym c.position ∙ put_above spec new q (n ∷ rest) tree v.0 v.1) in
      moved (Put tree (q ++ n ∷ rest) new) tree q rule c v.0 v.1
      (sym (rules_below spec new q (n ∷ rest) tree v.0 v.1 h.rules).0 ∙ ap (rule_for spec) (sym same)) (sym (entered_above spec new q (n ∷ rest) false tree v.0 v.1 h.rules))

  module _ (path : List ℕ) (holds : Stays path) where
    abbrev tree' : Term
    tree' = Put tree path new

    counts_forth : (q : List ℕ) (rule : FlowRule) → ((rest : List ℕ) → ¬ (q ≡ path ++ rest)) → Counts spec tree q rule → Counts spec tree' q rule
    counts_forth q rule outside c = elim (begins path q) [
      | inl front ↦ absurd (outside front.0 front.1)
      | inr (inl a) ↦ subst (λ (p : List ℕ). Counts spec (Put tree p new) q rule) (sym a.2) (above_forth q a.0 a.1 (subst Stays a.2 holds) rule c)
      | inr (inr apart) ↦ let same = same_elsewhere spec new path q false tree apart holds.rules in moved tree tree' q rule c c.t (same.0 ∙ c.position) (λ i. rule_for spec c.t) same.1
    ]

    counts_back : (q : List ℕ) (rule : FlowRule) → ((rest : List ℕ) → ¬ (q ≡ path ++ rest)) → Counts spec tree' q rule → Counts spec tree q rule
    counts_back q rule outside c = elim (begins path q) [
      | inl front ↦ absurd (outside front.0 front.1)
      | inr (inl a) ↦ above_back q a.0 a.1 (subst Stays a.2 holds) rule (subst (λ (p : List ℕ). Counts spec (Put tree p new) q rule) a.2 c)
      | inr (inr apart) ↦ let same = same_elsewhere spec new path q false tree apart holds.rules in moved tree' tree q rule c c.t (sym same.0 ∙ c.position) (λ i. rule_for spec c.t) (sym same.1)
    ]

pub nodes_outside : NodesOutsideStay
nodes_outside spec tree old new path at rules n =
    let holds : Stays spec tree old new path = record { at = at; rules = rules } in (
      λ o. record { owner = o.owner; outside = o.outside; rule = o.rule; counts = counts_forth spec tree old new path holds o.owner o.rule o.outside o.counts; named = o.named },
      λ o. record { owner = o.owner; outside = o.outside; rule = o.rule; counts = counts_back spec tree old new path holds o.owner o.rule o.outside o.counts; named = o.named },
    )
