use Rattle.std.proofs.Common.{sym, ◌∙◌, arith}
use Rattle.eval_values.proofs.EntryLists.{lesser_found, lesser_passed}
use Rattle.eval_values.proofs.maps.lesser_count.Goals as goal

pub returns-then-is_below_or_same : goal.returns-then-is_below_or_same
returns-then-is_below_or_same c =
    lesser_found c.args.key.now c.args.entries.now c.loop-entry.entry-index c.loop-entry.count c.entry-item.result c.loop-entry-test.true c.entry-item.is c.loop-entry.invariant.1
    (sym c.is_below_or_same.ensures ∙ c.if-is_below_or_same.true)

pub loop-entry-preserved : goal.loop-entry-preserved
loop-entry-preserved c = (
  omega (arith, c.loop-entry.invariant.0),
  lesser_passed c.args.key.now c.args.entries.now c.loop-entry.entry-index c.loop-entry.count c.entry-item.result c.loop-entry-test.true c.entry-item.is c.loop-entry.invariant.1
      (sym c.is_below_or_same.ensures ∙ c.if-is_below_or_same.false),
)
