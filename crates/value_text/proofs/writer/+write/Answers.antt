use Rattle.std.specs.Prelude.{codes}
use Rattle.value_text.specs.Texts.{entry_text}
use Rattle.value_text.proofs.Writing.{added, list_more, map_added, on_ok, pair_added}
use Rattle.value_text.proofs.writer.+write.Goals as goal

pub push_entries-loop-at-preserved : goal.push_entries-loop-at-preserved
push_entries-loop-at-preserved t c = list_more entry_text c.args.entries.now c.loop-at.at c.index-entries-at.result _ _ _ _ c.loop-at-test.true c.index-entries-at.is c.loop-at.invariant c.in_ok-push_separator.ensures c.in_ok-push_entry.ensures

pub push_value-returns-in-Map : goal.push_value-returns-in-Map
push_value-returns-in-Map t c = on_ok c.push_entries.result c.push_entries.ensures (map_added c.args.value.now c.in-Map.entries c.as_slice-in-Map.result.now _ _ c.in-Map.is c.as_slice-in-Map.ensures)

pub push_value-returns-in_ok-push_value-in-Pair-2 : goal.push_value-returns-in_ok-push_value-in-Pair-2
push_value-returns-in_ok-push_value-in-Pair-2 t c =
    on_ok c.extend_from_slice-in-Pair-3.result (added c.extend_from_slice-in-Pair-3.result c.push_value-in-Pair.new.bytes.items c.extend_from_slice-in-Pair-3.new.self.items (codes ")") c.extend_from_slice-in-Pair-3.ensures.items)
    (pair_added c.args.value.now c.in-Pair.left c.in-Pair.right c.get.result.now c.get-in-Pair.result.now _ _ _ _ _ _ c.in-Pair.is c.get.ensures c.get-in-Pair.ensures
    c.in_ok-extend_from_slice-in-Pair.ensures.items c.in_ok-push_value-in-Pair.ensures c.in_ok-extend_from_slice-in-Pair-2.ensures.items c.in_ok-push_value-in-Pair-2.ensures)
