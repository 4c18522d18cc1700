-- The rules above a replacement stay where those of the nearest eight positions do.
use Rattle.std.proofs.Common.{ℕ, List, [], ◌∷◌, length, refl, ap, ◌∙◌, inl, inr, arith}
use Rattle.std.specs.Prelude.{option_and_then}
use Rattle.std.proofs.lemmas.Bool.{cases_order}
use Rattle.flow_term.specs.declared.term.Term.{Term}
use Rattle.flow_term.specs.Trees.{At}
use Rattle.flow_syntax.specs.declared.spec.Spec.{Spec}
use Rattle.flow_syntax.specs.RuleFaults.{pattern_limit}
use Rattle.graph_laws.specs.Replacements.{NearRulesStay, RulesStay}
use Rattle.graph_laws.specs.Laws.{NearRulesSuffice}
use Rattle.graph_laws.specs.Owners.{HasShallowHeads}
use Rattle.graph_laws.proofs.AlikeTerms.{far_rules}

module _ (spec : Spec) (shallow : HasShallowHeads spec) (new : Term) where
  by_path : (path : List ℕ) (t : Term) → NearRulesStay spec new t path → RulesStay spec new t path
  by_path [] t near = tt
  by_path (n ∷ rest) t near = (
    elim (cases_order pattern_limit (length (n ∷ rest))) [
      | inr (inl far) ↦ far_rules spec shallow t new (n ∷ rest) far
      | inl same ↦ near [] n rest t refl (omega (arith, same)) refl
      | inr (inr few) ↦ near [] n rest t refl (omega (arith, few)) refl
    ],
    λ c is. by_path rest c (λ q m r v split few at. near (n ∷ q) m r v (ap (λ (p : List ℕ). n ∷ p) split) few (ap (option_and_then (λ (child : Term). At child q)) is ∙ at)),
  )

pub near_rules : NearRulesSuffice
near_rules spec shallow tree new path near = by_path spec shallow new path tree near
