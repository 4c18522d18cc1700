use Rattle.std.proofs.Common.{arith, map, ◌∙◌}
use Rattle.std.proofs.lemmas.List.{length-map}
use Rattle.check_base.proofs.GathersLaws.{Gathers-all}
use Rattle.check_rules.specs.inner.Items.{is_single, is_whole}
use Rattle.check_rules.specs.inner.Tables.{has_name, shown}
use Rattle.check_rules.proofs.ItemLemmas.{mixed_same}
use Rattle.check_rules.proofs.Loops.{any_shown, gathers_if, gathers_shown}
use Rattle.check_rules.proofs.mixed.note_mixed.Goals as goal

pub loop-item-preserved : goal.loop-item-preserved
loop-item-preserved c = record {
  gathered = gathers_shown shown c.args.items.now c.loop-item.item-index c.item-item.result c.loop-item-test.true c.item-item.is c.loop-item.invariant.gathered
      (gathers_if (c.is_mixed-is_mixed.ensures ∙ mixed_same (has_name c.args.arguments.now) _ _ _ _ c.item-item.result.now.kind c.loop-item.invariant.whole c.loop-item.invariant.single) c.note_if.ensures);
  whole = λ x. any_shown (λ i. is_whole x i.kind) shown c.args.items.now c.loop-item.item-index c.item-item.result _ _ c.loop-item-test.true c.item-item.is (c.loop-item.invariant.whole x) (c.in_ok-add_item.ensures.whole x);
  single = λ x. any_shown (λ i. is_single x i.kind) shown c.args.items.now c.loop-item.item-index c.item-item.result _ _ c.loop-item-test.true c.item-item.is (c.loop-item.invariant.single x) (c.in_ok-add_item.ensures.single x);
}

pub returns : goal.returns
returns c = Gathers-all (map shown c.args.items.now) c.loop-item.item-index (omega (arith, length-map c.args.items.now shown)) c.loop-item.invariant.gathered
