use Rattle.std.proofs.Common.{rules, ◌≡◌, sym, false, nat_eq, slice_index_or}
use Rattle.list_theory.proofs.ListLemmas.{without_absent}
use Rattle.list_theory.proofs.NumberLemmas.{numbers_exact}
use Rattle.index_lists.specs.Records.{all_in}
use Rattle.index_lists.proofs.QueueLemmas.{absent}
use Rattle.index_lists.proofs.queue.take_out.Goals as goal

pub returns-then-not-is_marked-clause-items : goal.returns-then-not-is_marked-clause-items
returns-then-not-is_marked-clause-items c =
    let unmarked : slice_index_or c.args.marks.now.items c.args.item false ≡ false = search rules in
    sym (without_absent nat_eq numbers_exact (all_in c.args.chain.now) c.args.item (absent _ _ _ c.args.item c.requires.queue unmarked))
