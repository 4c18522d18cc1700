use Rattle.std.proofs.Common.{Bool, List, ◌+◌, ◌||◌, [], take, refl, sym, ap, ◌∙◌}
use Rattle.std.specs.List.{list_any}
use Rattle.std.proofs.lemmas.List.Folds.{list_any_more}
use Rattle.flow_syntax.specs.declared.rule.Chain.{Chain}
use Rattle.flow_syntax.specs.declared.rule.Item.{Item}
use Rattle.flow_syntax.specs.Control.{enters_argument}
use Rattle.flow_links.proofs.MarkLemmas.{Marks-none, Marks-then}
use Rattle.flow_links.proofs.rules.mark_chains.Goals as goal

pub loop-chain-init : goal.loop-chain-init
loop-chain-init c = Marks-none c.args.marks.now.items (λ n. list_any (λ (chain : Chain). list_any (λ (it : Item). enters_argument c.args.rule.now n it.kind) chain.items) []) (λ k h. refl)

pub loop-chain-preserved : goal.loop-chain-preserved
loop-chain-preserved c = Marks-then (λ n. list_any (λ (chain : Chain). list_any (λ (it : Item). enters_argument c.args.rule.now n it.kind) chain.items) (take (c.loop-chain.chain-index + 1) c.args.chains.now)) c.loop-chain.invariant c.mark_items.ensures (λ k.
    let within : List Item → Bool = list_any (λ (it : Item). enters_argument c.args.rule.now k it.kind) in
    let p : Chain → Bool = λ chain. within chain.items in
    list_any_more p c.args.chains.now c.loop-chain.chain-index c.chain-item.result c.loop-chain-test.true
    ∙ ap (λ (x : Chain). list_any p (take c.loop-chain.chain-index c.args.chains.now) || p x) (sym c.chain-item.is)
    ∙ ap (λ (items : List Item). list_any p (take c.loop-chain.chain-index c.args.chains.now) || within items) (sym c.as_slice.ensures))
