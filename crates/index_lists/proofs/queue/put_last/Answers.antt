use Rattle.std.proofs.Common.{rules, ◌≡◌, ◌<◌, length, arith, false, slice_index_or}
use Rattle.index_lists.specs.Records.{all_in}
use Rattle.index_lists.proofs.QueueLemmas.{absent, room_for, IsQueue-push}
use Rattle.index_lists.proofs.queue.put_last.Goals as goal

pub overflow_add-len : goal.overflow_add-len
overflow_add-len c =
    let unmarked : slice_index_or c.args.marks.now.items c.args.item false ≡ false = search rules in
    let here : length (all_in c.args.chain.now) < length c.args.marks.now.items = room_for c.args.chain.now c.args.marks.now.items c.args.len.now c.args.item c.requires.queue c.requires.allowed (absent _ _ _ c.args.item c.requires.queue unmarked) in
    omega (arith, here, c.requires.queue.counted, c.args.marks.now.ok.0)

pub returns-then-not-index-clause-queue : goal.returns-then-not-index-clause-queue
returns-then-not-index-clause-queue c =
    let unmarked : slice_index_or c.args.marks.now.items c.args.item false ≡ false = search rules in
    IsQueue-push c.args.chain.now _ _ _ c.args.item c.requires.queue c.requires.allowed (absent _ _ _ c.args.item c.requires.queue unmarked) c.push.ensures
