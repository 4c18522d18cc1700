use Rattle.std.proofs.Common.{◌∙◌, ◌<◌, [], arith, ap, get_or, length}
use Rattle.std.proofs.Math.ListN.{length-set}
use Rattle.index_tables.proofs.TurnLemmas.{pushed_next}
use Rattle.index_tables.proofs.group.grouped.Goals as goal

pub loop-place-preserved : goal.loop-place-preserved
loop-place-preserved c =
    let there : get_or c.args.numbers.now c.loop-place.place 0 < length c.loop-place.table.items = omega (arith, c.requires c.loop-place.place 0 c.loop-place-test.true, c.loop-place.invariant.0) in (
      ap length c.in_ok-push_at.ensures ∙ length-set c.loop-place.table.items (get_or c.args.numbers.now c.loop-place.place 0) _ ∙ c.loop-place.invariant.0,
      λ u below. ap (λ rows. get_or rows u []) c.in_ok-push_at.ensures ∙ pushed_next c.args.numbers.now c.loop-place.place c.args.count c.loop-place.table.items there c.loop-place.invariant.1 u below,
    )
