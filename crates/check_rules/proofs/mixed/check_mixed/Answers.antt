use Rattle.std.proofs.Common.{◌≡◌, ◌++◌, ◌∙◌, ap, map}
use Rattle.std.specs.List.{flat_map}
use Rattle.flow_term.proofs.Outcomes.{on_ok}
use Rattle.flow_syntax.specs.declared.rule.Chain.{Chain}
use Rattle.flow_syntax.specs.RuleFaults.{items_of}
use Rattle.check_rules.specs.inner.Tables.{shown}
use Rattle.check_rules.proofs.ItemLemmas.{gathers_mixed}
use Rattle.check_rules.proofs.mixed.check_mixed.Goals as goal

pub returns : goal.returns
returns c =
    let same : map shown c.as_slice-2.result.now ≡ items_of c.args.rule.now =
    ap (map shown) c.as_slice-2.ensures.value ∙ c.in_ok-push_chains.ensures ∙ ap (λ xs. map shown xs ++ flat_map (λ (chain : Chain). chain.items) c.as_slice.result.now) c.new-items.ensures.items
    ∙ ap (flat_map (λ (chain : Chain). chain.items)) c.as_slice.ensures in
    on_ok c.note_mixed.result c.note_mixed.ensures (λ mixed. gathers_mixed c.args.rule.now c.args.head.now c.requires (map shown c.as_slice-2.result.now) same mixed)
