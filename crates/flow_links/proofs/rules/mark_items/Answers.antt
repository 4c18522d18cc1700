use Rattle.std.proofs.Common.{Bool, ◌+◌, ◌||◌, [], take, refl, sym, ap, ◌∙◌}
use Rattle.std.specs.List.{list_any}
use Rattle.std.proofs.lemmas.List.Folds.{list_any_more}
use Rattle.flow_syntax.specs.declared.rule.Item.{Item}
use Rattle.flow_syntax.specs.Control.{enters_argument}
use Rattle.flow_links.proofs.MarkLemmas.{Marks-none, Marks-then}
use Rattle.flow_links.proofs.rules.mark_items.Goals as goal

pub loop-item-init : goal.loop-item-init
loop-item-init c = Marks-none c.args.marks.now.items (λ n. list_any (λ (it : Item). enters_argument c.args.rule.now n it.kind) []) (λ k h. refl)

pub loop-item-preserved : goal.loop-item-preserved
loop-item-preserved c = Marks-then (λ n. list_any (λ (it : Item). enters_argument c.args.rule.now n it.kind) (take (c.loop-item.item-index + 1) c.args.items.now)) c.loop-item.invariant c.mark_item.ensures (λ k.
    let p : Item → Bool = λ it. enters_argument c.args.rule.now k it.kind in
    list_any_more p c.args.items.now c.loop-item.item-index c.item-item.result c.loop-item-test.true
    ∙ ap (λ (x : Item). list_any p (take c.loop-item.item-index c.args.items.now) || p x) (sym c.item-item.is))
