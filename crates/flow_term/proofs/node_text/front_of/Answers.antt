use Rattle.std.proofs.Common.{◌≡◌, ◌++◌, ◌∙◌, subst, List, ℕ, Bor}
use Rattle.std.specs.Prelude.{IfSome}
use Rattle.std.proofs.lemmas.Bool.Decides.{Decides-eqb}
use Rattle.std.proofs.lemmas.Slice.Eq.{strip_suffix_is}
use Rattle.flow_term.proofs.Outcomes.{when_some}
use Rattle.flow_term.proofs.node_text.front_of.Goals as goal

pub returns-clause-found : goal.returns-clause-found
returns-clause-found c = subst (λ (words : List ℕ). IfSome c.strip_suffix.result (λ front. c.args.bytes.now ≡ front.now ++ words)) (c.as_bytes.ensures.value ∙ c.kind_word.ensures)
    (when_some _ (λ (front : Bor (List ℕ)). c.args.bytes.now ≡ front.now ++ c.as_bytes.result.now) c.strip_suffix.result
    (strip_suffix_is Decides-eqb c.args.bytes.now c.as_bytes.result.now c.strip_suffix.result c.strip_suffix.ensures.cases))
